-- What a run of steps, and each step of it, asks and promises, of what the lent slices hold before, and, with ', after.
use Rattle.std.specs.Prelude.{ℕ, ◌-◌, ◌<◌, ◌≤◌, ◌≡◌, List, length, Result, Option}
use Rattle.base.specs.Lent.{Lent, MutLent, before, before_mut, after}
use Rattle.base.specs.Lists.{overwrite}
use Rattle.entry_slots.specs.Slots.{slots_in}
use Rattle.entry_slots.specs.Index.{heads_of, nexts_of, Indexed}
use Rattle.rewind_records.specs.Environment.{environment_of, rewind_refusal}
use Rattle.rewind.specs.Stepping.{forward_table}
use Rattle.rewind.specs.Written.{stepped_with_text}
use Rattle.rewind.specs.declared.Rewind.{Rewind}
use Rattle.rewind_steps.specs.Promise.{StepPromise}
use Rattle.rewind_records.specs.Turning.{next_outcome}
use Rattle.rewind_steps.specs.declared.Told.{Told}
use Rattle.base.specs.declared.refusal.Refusal.{Refusal}
use Rattle.run_steps.specs.Running.{Run, ran, run_numbers, run_answer, run_table}
use Rattle.run_steps.specs.declared.RewindRun.{RewindRun}
use Rattle.run_steps.specs.declared.Standing.{Standing}

-- what the tests before a run have shown: none refuses, and the index is the forward table's, with a link for every slot
pub record RunAsks (journal image records words : List ℕ) (rewind : Rewind) (heads nexts : List ℕ) : Type 0 where
  pub passes : rewind_refusal (environment_of journal image records) (forward_table words rewind) ≡ 0
  pub index : Indexed (forward_table words rewind) heads nexts
  pub wide : 0 < length heads → slots_in words ≤ length nexts

-- the next step of a run
abbrev pub RunStepPromise : Lent → Lent → MutLent → MutLent → MutLent → MutLent → MutLent → Lent → Standing → Result (Option Told) Refusal → Type 0
RunStepPromise journal image forward heads nexts way text records standing r =
    let o = stepped_with_text (before journal) (before image) (before records) (before_mut forward) standing.rewind (length (before_mut text) - standing.at) in
    StepPromise journal image forward heads nexts way text standing.at o (forward_table (before_mut forward) standing.rewind) (next_outcome r)

-- many steps: their run, and what is left of it where the tests have passed
module _ (journal image records words : List ℕ) (rewind : Rewind) (heads nexts ends text : List ℕ) where
  abbrev pub run_made : Run
  run_made = ran journal image records words rewind (length text) (length ends)

  pub record RunLeaves (r : RewindRun) (words' heads' nexts' ends' text' : List ℕ) : Type 0 where
    pub answer : run_numbers r ≡ run_answer run_made
    pub forward : words' ≡ run_made.words
    pub heads-are : heads' ≡ heads_of (length heads) (run_table run_made)
    pub nexts-are : nexts' ≡ nexts_of (length heads) (run_table run_made) nexts
    pub ends-are : ends' ≡ overwrite ends run_made.ends
    pub text-is : text' ≡ overwrite text run_made.text

abbrev pub StepsPromise : Lent → Lent → Lent → Rewind → MutLent → MutLent → MutLent → MutLent → MutLent → RewindRun → Type 0
StepsPromise journal image records rewind forward heads nexts ends text r =
    RunLeaves (before journal) (before image) (before records) (before_mut forward) rewind (before_mut heads) (before_mut nexts) (before_mut ends) (before_mut text) r (after forward) (after heads) (after nexts) (after ends) (after text)
