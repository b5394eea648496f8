-- What the call promises, of what the lent slices hold before, and, with ', after.
use Rattle.std.specs.Prelude.{ℕ, ◌≡◌, List, length, Result}
use Rattle.base.specs.Lent.{Lent, MutLent, before, before_mut, after}
use Rattle.base.specs.Lists.{list_after}
use Rattle.base.specs.Outcome.{Outcome, map_outcome}
use Rattle.entry_slots.specs.Slots.{slots_in}
use Rattle.entry_slots.specs.Table.{Table}
use Rattle.entry_slots.specs.Index.{heads_left, nexts_left}
use Rattle.rewind.specs.declared.Rewind.{Rewind}
use Rattle.run_steps.specs.Running.{Run, run_answer, run_table}
use Rattle.rewind_run.specs.Running.{tested_run, words_run, run_outcome}
use Rattle.run_steps.specs.declared.RewindRun.{RewindRun}
use Rattle.base.specs.declared.refusal.Refusal.{Refusal}

-- the call: what it comes to, its answer, and what is left by it, with the index of the forward table at its end where words for one are enough
module _ (journal image records words : List ℕ) (rewind : Rewind) (heads nexts ends text : List ℕ) where
  abbrev pub run_out : Outcome Run
  run_out = tested_run journal image records words rewind (length text) (length ends)

  abbrev pub table_out : Outcome Table
  table_out = map_outcome run_table run_out

  pub record RunsIndexed (r : Result RewindRun Refusal) (words' heads' nexts' ends' text' : List ℕ) : Type 0 where
    pub answer : run_outcome r ≡ map_outcome run_answer run_out
    pub forward : words' ≡ words_run run_out words
    pub heads-are : heads' ≡ heads_left (slots_in words) table_out heads nexts
    pub nexts-are : nexts' ≡ nexts_left (slots_in words) table_out heads nexts
    pub ends-are : ends' ≡ list_after (λ (x : Run). x.ends) run_out ends
    pub text-is : text' ≡ list_after (λ (x : Run). x.text) run_out text

abbrev pub RunPromise : Lent → Lent → Lent → Rewind → MutLent → MutLent → MutLent → MutLent → MutLent → Result RewindRun Refusal → Type 0
RunPromise journal image records rewind forward heads nexts ends text r =
    RunsIndexed (before journal) (before image) (before records) (before_mut forward) rewind (before_mut heads) (before_mut nexts) (before_mut ends) (before_mut text) r (after forward) (after heads) (after nexts) (after ends) (after text)
