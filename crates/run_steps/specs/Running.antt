-- Many steps of a rewind, where the tests have passed: each is a step with text, which goes behind the texts before it. A run stops before a step that is
-- refused, at the end of the records, or when as many steps are made as were asked for.
use Rattle.std.specs.Prelude.{ℕ, zero, suc, ◌+◌, ◌-◌, List, [], ◌∷◌, ◌++◌, length, Option, None, Some}
use Rattle.base.specs.Outcome.{Outcome, refused, answered}
use Rattle.base.specs.Refusals.{number_of}
use Rattle.base.specs.declared.refusal.Refusal.{Refusal}
use Rattle.entry_slots.specs.Table.{Table}
use Rattle.rewind_records.specs.Turning.{Next, ended, next}
use Rattle.rewind_steps.specs.Taking.{Step}
use Rattle.rewind.specs.Stepping.{forward_table}
use Rattle.rewind_steps.specs.StepText.{record_text}
use Rattle.rewind.specs.Written.{stepped_with_text}
use Rattle.rewind.specs.declared.Rewind.{Rewind}
use Rattle.run_steps.specs.declared.RewindRun.{RewindRun}

-- where a run stands: the words of the forward table, the state of the rewind, the texts so far, one behind the other, where each of them ends, and 0 or the
-- refusal of the step that stopped it, which is 6 or 8 (`Stopping.antt` of `rewind_run`)
pub record Run : Type 0 where
  pub words : List ℕ
  pub rewind : Rewind
  pub text : List ℕ
  pub ends : List ℕ
  pub stopped : ℕ

-- before the first step
abbrev pub run_from : List ℕ → Rewind → Run
run_from words r = record { words = words; rewind = r; text = []; ends = []; stopped = 0 }

-- after a step more
abbrev pub run_and_step : List ℕ → List ℕ → Run → Step → Run
run_and_step journal image r x =
    let text = r.text ++ record_text journal image x in
    record {
      words = x.table.words;
      rewind = record { used = x.table.used; position = r.rewind.position + 1 };
      text = text;
      ends = r.ends ++ (length text ∷ []);
      stopped = 0;
    }

-- by what the next step comes to
abbrev pub onward : (Run → Run) → List ℕ → List ℕ → Run → Outcome (Next Step) → Run
onward more journal image r (refused n) =
    record { words = r.words; rewind = r.rewind; text = r.text; ends = r.ends; stopped = n }
onward more journal image r (answered ended) = r
onward more journal image r (answered (next x)) = more (run_and_step journal image r x)

-- at most so many steps more, over a journal, an image and a list of records, with room for so many bytes of text in all
unfoldable pub running : List ℕ → List ℕ → List ℕ → ℕ → ℕ → Run → Run
running journal image records room zero r = r
running journal image records room (suc n) r =
    onward (running journal image records room n) journal image r (stepped_with_text journal image records r.words r.rewind (room - length r.text))

-- a call's, where the tests have passed: it is asked for as many steps as ends are lent
abbrev pub ran : List ℕ → List ℕ → List ℕ → List ℕ → Rewind → ℕ → ℕ → Run
ran journal image records words r room asked = running journal image records room asked (run_from words r)

-- what is said of a run: how many steps were made, 0 or the number of the refusal that stopped it, and the rewind after it
pub record RunNumbers : Type 0 where
  pub steps : ℕ
  pub stopped : ℕ
  pub rewind : Rewind

-- what a call answers of its run
abbrev pub run_answer : Run → RunNumbers
run_answer r = record { steps = length r.ends; stopped = r.stopped; rewind = r.rewind }

-- and what its answer says
abbrev pub stop_number : Option Refusal → ℕ
stop_number None = 0
stop_number (Some r) = number_of r

abbrev pub run_numbers : RewindRun → RunNumbers
run_numbers r = record { steps = r.steps; stopped = stop_number r.stopped; rewind = r.rewind }

-- the forward table after it
abbrev pub run_table : Run → Table
run_table r = forward_table r.words r.rewind
