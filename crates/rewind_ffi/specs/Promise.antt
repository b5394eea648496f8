-- What the calls promise as C calls. Each record says it of lists: what the lent slices hold before, and, with ', after, where the call comes to o.
use Rattle.std.specs.Prelude.{ℕ, ◌≡◌, List}
use Rattle.base.specs.Lent.{Lent, MutLent, before, before_mut, after}
use Rattle.base.specs.Lists.{list_after}
use Rattle.base.specs.Outcome.{Outcome, map_outcome}
use Rattle.base.specs.Words.{number}
use Rattle.entry_slots.specs.Slots.{slots_in}
use Rattle.entry_slots.specs.Table.{Table}
use Rattle.entry_slots.specs.Index.{heads_left, nexts_left}
use Rattle.rewind_records.specs.Turning.{Next}
use Rattle.rewind_steps.specs.Taking.{Step}
use Rattle.rewind_steps.specs.StepText.{next_text}
use Rattle.rewind.specs.Starting.{Tables, first_after, forward_after}
use Rattle.rewind.specs.Stepping as step
use Rattle.rewind.specs.declared.Rewind.{Rewind}
use Rattle.run_steps.specs.Running.{Run, run_table}
use Rattle.rewind_run.specs.Running.{words_run}
use Rattle.rewind_ffi.specs.Rewind.{start_call, start_words, step_words, chain_step_words, chain_step_call, path_step_words, path_step_call}
use Rattle.rewind_ffi.specs.Run.{run_call, run_words}

-- a start: its number, the words of both tables, and those of the state
pub record Starts (o : Outcome Tables) (words forward out : List ℕ) (r : ℕ) (words' forward' out' : List ℕ) : Type 0 where
  pub answer : r ≡ number o
  pub first : words' ≡ first_after o words
  pub second : forward' ≡ forward_after o forward
  pub row : out' ≡ list_after start_words o out

abbrev pub StartCallPromise : Lent → Lent → Lent → MutLent → ℕ → MutLent → MutLent → ℕ → Type 0
StartCallPromise journal image records slots used forward out r =
    let o = start_call (before journal) (before image) (before records) (before_mut slots) used (before_mut forward) (before_mut out) in
    Starts o (before_mut slots) (before_mut forward) (before_mut out) r (after slots) (after forward) (after out)

-- a step: its number, the words of the forward table, the list of places, and the words of its answer
pub record Steps (words : Next Step → List ℕ) (o : Outcome (Next Step)) (forward list out : List ℕ) (r : ℕ) (forward' list' out' : List ℕ) : Type 0 where
  pub answer : r ≡ number o
  pub table : forward' ≡ step.words_after o forward
  pub places : list' ≡ step.chain_after o list
  pub row : out' ≡ list_after words o out

abbrev pub NextChainCallPromise : Lent → Lent → Lent → Rewind → MutLent → MutLent → MutLent → ℕ → Type 0
NextChainCallPromise journal image records rewind forward chain out r =
    let o = chain_step_call (before journal) (before image) (before records) rewind (before_mut forward) (before_mut out) in
    Steps (step_words chain_step_words rewind) o (before_mut forward) (before_mut chain) (before_mut out) r (after forward) (after chain) (after out)

-- with text
pub record StepsWithText (bytes words : Next Step → List ℕ) (o : Outcome (Next Step)) (forward list text out : List ℕ) (r : ℕ) (forward' list' text' out' : List ℕ) : Type 0 where
  pub answer : r ≡ number o
  pub table : forward' ≡ step.words_after o forward
  pub places : list' ≡ step.chain_after o list
  pub written : text' ≡ list_after bytes o text
  pub row : out' ≡ list_after words o out

abbrev pub NextCallPromise : Lent → Lent → Lent → Rewind → MutLent → MutLent → MutLent → MutLent → ℕ → Type 0
NextCallPromise journal image records rewind forward chain text out r =
    let o = path_step_call (before journal) (before image) (before records) rewind (before_mut forward) (before_mut text) (before_mut out) in
    StepsWithText (next_text (before journal) (before image)) (step_words (path_step_words (before journal) (before image)) rewind) o (before_mut forward) (before_mut chain) (before_mut text) (before_mut out) r (after forward) (after chain) (after text) (after out)

-- a start by way of an index: what the start promises, and the words of the index of the first table
abbrev pub first_of : Outcome Tables → Outcome Table
first_of = map_outcome (λ (ts : Tables). ts.first)

pub record StartCalls (o : Outcome Tables) (words forward heads nexts out : List ℕ) (r : ℕ) (words' forward' heads' nexts' out' : List ℕ) : Type 0 where
  pub start : Starts o words forward out r words' forward' out'
  pub heads-are : heads' ≡ heads_left (slots_in words) (first_of o) heads nexts
  pub nexts-are : nexts' ≡ nexts_left (slots_in words) (first_of o) heads nexts

abbrev pub StartIndexedCallPromise : Lent → Lent → Lent → MutLent → ℕ → MutLent → MutLent → MutLent → MutLent → ℕ → Type 0
StartIndexedCallPromise journal image records slots used forward heads nexts out r =
    let o = start_call (before journal) (before image) (before records) (before_mut slots) used (before_mut forward) (before_mut out) in
    StartCalls o (before_mut slots) (before_mut forward) (before_mut heads) (before_mut nexts) (before_mut out) r (after slots) (after forward) (after heads) (after nexts) (after out)

-- many steps: the number, the words of the forward table and those of its index, the ends, the text, and the words of the answer
module _ (journal image records words : List ℕ) (rewind : Rewind) (heads nexts ends text out : List ℕ) where
  abbrev pub call : Outcome Run
  call = run_call journal image records rewind words ends text out

  pub record RunCalls (r : ℕ) (words' heads' nexts' ends' text' out' : List ℕ) : Type 0 where
    pub answer : r ≡ number call
    pub forward : words' ≡ words_run call words
    pub heads-are : heads' ≡ heads_left (slots_in words) (map_outcome run_table call) heads nexts
    pub nexts-are : nexts' ≡ nexts_left (slots_in words) (map_outcome run_table call) heads nexts
    pub ends-are : ends' ≡ list_after (λ (x : Run). x.ends) call ends
    pub text-is : text' ≡ list_after (λ (x : Run). x.text) call text
    pub row : out' ≡ list_after run_words call out

abbrev pub RunCallPromise : Lent → Lent → Lent → Rewind → MutLent → MutLent → MutLent → MutLent → MutLent → MutLent → ℕ → Type 0
RunCallPromise journal image records rewind forward heads nexts ends text out r =
    RunCalls (before journal) (before image) (before records) (before_mut forward) rewind (before_mut heads) (before_mut nexts) (before_mut ends) (before_mut text) (before_mut out) r (after forward) (after heads) (after nexts) (after ends) (after text) (after out)
