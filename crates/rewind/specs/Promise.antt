-- What the calls promise. Each record says it of lists: what the lent slices hold before, and, with ', after. The promise itself takes the call's parameters.
use Rattle.std.specs.Prelude.{ℕ, ◌≡◌, List, [], length, Result}
use Rattle.base.specs.Lent.{Lent, MutLent, before, before_mut, after}
use Rattle.base.specs.Lists.{list_after}
use Rattle.base.specs.Outcome.{Outcome, outcome, map_outcome}
use Rattle.base.specs.declared.refusal.Refusal.{Refusal}
use Rattle.entry_slots.specs.Slots.{slots_in}
use Rattle.entry_slots.specs.Table.{Table, table}
use Rattle.entry_slots.specs.Index.{heads_after, nexts_after, heads_left, nexts_left}
use Rattle.rewind.specs.Starting.{Tables, started, begun, first_after, forward_after}
use Rattle.rewind_records.specs.Turning.{Next, next_outcome}
use Rattle.rewind_steps.specs.Taking.{Step}
use Rattle.rewind.specs.Stepping.{stepped, step_answer, rewind_after, words_after, chain_after}
use Rattle.rewind.specs.Written.{stepped_with_text, written_answer}
use Rattle.rewind_steps.specs.StepText.{next_text}
use Rattle.rewind.specs.declared.Rewind.{Rewind}
use Rattle.chain.specs.declared.ResolvedPath.{ResolvedPath}
use Rattle.path.specs.declared.WrittenPath.{WrittenPath}
use Rattle.rewind.specs.declared.Step.{Step as Answer}

-- a start: its answer, and the words of both tables
module _ (journal image records : List ℕ) (t : Table) (words : List ℕ) where
  abbrev pub start_out : Outcome Tables
  start_out = started journal image records t words

  pub record Starts (r : Result Rewind Refusal) (first' words' : List ℕ) : Type 0 where
    pub answer : outcome r ≡ map_outcome begun start_out
    pub first : first' ≡ first_after start_out t.words
    pub forward : words' ≡ forward_after start_out words

abbrev pub StartPromise : Lent → Lent → Lent → MutLent → ℕ → MutLent → Result Rewind Refusal → Type 0
StartPromise journal image records slots used forward r =
    Starts (before journal) (before image) (before records) (table (before_mut slots) used) (before_mut forward) r (after slots) (after forward)

-- a start by way of an index: what a start promises, and the index of the first table
module _ (journal image records : List ℕ) (t : Table) (words heads nexts : List ℕ) where
  abbrev pub first_out : Outcome Table
  first_out = map_outcome (λ (ts : Tables). ts.first) (started journal image records t words)

  pub record Begins (r : Result Rewind Refusal) (first' words' heads' nexts' : List ℕ) : Type 0 where
    pub start : Starts journal image records t words r first' words'
    pub heads-are : heads' ≡ heads_after first_out heads
    pub nexts-are : nexts' ≡ nexts_after (length heads) first_out nexts

  -- the same with words that may be too few
  pub record StartsIndexed (r : Result Rewind Refusal) (first' words' heads' nexts' : List ℕ) : Type 0 where
    pub start : Starts journal image records t words r first' words'
    pub heads-are : heads' ≡ heads_left (slots_in t.words) first_out heads nexts
    pub nexts-are : nexts' ≡ nexts_left (slots_in t.words) first_out heads nexts

abbrev pub BeginPromise : Lent → Lent → Lent → MutLent → ℕ → MutLent → MutLent → MutLent → Result Rewind Refusal → Type 0
BeginPromise journal image records slots used forward heads nexts r =
    Begins (before journal) (before image) (before records) (table (before_mut slots) used) (before_mut forward) (before_mut heads) (before_mut nexts) r (after slots) (after forward) (after heads) (after nexts)

abbrev pub StartIndexedPromise : Lent → Lent → Lent → MutLent → ℕ → MutLent → MutLent → MutLent → Result Rewind Refusal → Type 0
StartIndexedPromise journal image records slots used forward heads nexts r =
    StartsIndexed (before journal) (before image) (before records) (table (before_mut slots) used) (before_mut forward) (before_mut heads) (before_mut nexts) r (after slots) (after forward) (after heads) (after nexts)

-- a step without text: its answer, the state after it, the words of the forward table and the list of places
module _ (journal image records words : List ℕ) (rewind : Rewind) (list : List ℕ) where
  abbrev pub chain_out : Outcome (Next Step)
  chain_out = stepped journal image records words rewind

  pub record ChainSteps (r : Answer ResolvedPath) (words' list' : List ℕ) : Type 0 where
    pub answer : next_outcome r.next ≡ step_answer chain_out
    pub state : r.rewind ≡ rewind_after chain_out rewind
    pub forward : words' ≡ words_after chain_out words
    pub places : list' ≡ chain_after chain_out list

abbrev pub NextChainPromise : Lent → Lent → Lent → Rewind → MutLent → MutLent → Answer ResolvedPath → Type 0
NextChainPromise journal image records rewind forward list r =
    ChainSteps (before journal) (before image) (before records) (before_mut forward) rewind (before_mut list) r (after forward) (after list)

-- a step with text that comes to o: the text too
pub record PathSteps (journal image : List ℕ) (o : Outcome (Next Step)) (rewind : Rewind) (words list text : List ℕ) (r : Answer WrittenPath) (words' list' text' : List ℕ) : Type 0 where
  pub answer : next_outcome r.next ≡ written_answer journal image o
  pub state : r.rewind ≡ rewind_after o rewind
  pub forward : words' ≡ words_after o words
  pub places : list' ≡ chain_after o list
  pub written : text' ≡ list_after (next_text journal image) o text

abbrev pub NextPromise : Lent → Lent → Lent → Rewind → MutLent → MutLent → MutLent → Answer WrittenPath → Type 0
NextPromise journal image records rewind forward list text r =
    let o = stepped_with_text (before journal) (before image) (before records) (before_mut forward) rewind (length (before_mut text)) in
    PathSteps (before journal) (before image) o rewind (before_mut forward) (before_mut list) (before_mut text) r (after forward) (after list) (after text)
