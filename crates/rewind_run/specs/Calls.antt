-- A run as calls of a step with text, one after the other, each on what the last one left: what it is compared with.
use Rattle.std.specs.Prelude.{ℕ, zero, suc, ◌-◌, List, [], ◌∷◌, cond, length}
use Rattle.base.specs.Outcome.{Outcome, refused, answered}
use Rattle.rewind_records.specs.Turning.{Next, ended, next}
use Rattle.rewind_steps.specs.Taking.{Step}
use Rattle.rewind.specs.Stepping.{words_after, rewind_after}
use Rattle.rewind.specs.Written.{stepped_with_text}
use Rattle.rewind.specs.declared.Rewind.{Rewind}
use Rattle.run_steps.specs.Running.{Run, run_from, run_and_step, onward}
use Rattle.rewind_run.specs.Running.{tested_run}
use Rattle.rewind_run.specs.Stopping.{stops}

-- the rooms of the calls after one, by what it comes to: none where it is refused or no record is left
abbrev pub rooms_on : (Run → List ℕ) → List ℕ → List ℕ → Run → Outcome (Next Step) → List ℕ
rooms_on more journal image r (refused n) = []
rooms_on more journal image r (answered ended) = []
rooms_on more journal image r (answered (next x)) = more (run_and_step journal image r x)

-- the room that each call of a run has for its text, where the tests have passed: what is left behind the texts so far
unfoldable pub rooms : List ℕ → List ℕ → List ℕ → ℕ → ℕ → Run → List ℕ
rooms journal image records room zero r = []
rooms journal image records room (suc n) r =
    let spare = room - length r.text in
    spare ∷ rooms_on (rooms journal image records room n) journal image r (stepped_with_text journal image records r.words r.rewind spare)

-- the rooms of the calls that a call of a run stands for: those of its run; one where it is refused, also where no step is asked for, with all of the text
abbrev pub rooms_by : Outcome Run → ℕ → List ℕ → List ℕ
rooms_by (refused n) room more = room ∷ []
rooms_by (answered x) room more = more

abbrev pub call_rooms : List ℕ → List ℕ → List ℕ → List ℕ → Rewind → ℕ → ℕ → List ℕ
call_rooms journal image records words r room asked =
    rooms_by (tested_run journal image records words r room asked) room (rooms journal image records room asked (run_from words r))

-- what calls with these rooms come to
unfoldable pub calls : List ℕ → List ℕ → List ℕ → List ℕ → List ℕ → Rewind → List (Outcome (Next Step))
calls journal image records [] words r = []
calls journal image records (room ∷ more) words r =
    let o = stepped_with_text journal image records words r room in
    o ∷ calls journal image records more (words_after o words) (rewind_after o r)

-- the words of the forward table and the state of the rewind after them
pub record Left : Type 0 where
  pub words : List ℕ
  pub rewind : Rewind

abbrev pub leaving : List ℕ → Rewind → Left
leaving words r = record { words = words; rewind = r }

unfoldable pub calls_leave : List ℕ → List ℕ → List ℕ → List ℕ → List ℕ → Rewind → Left
calls_leave journal image records [] words r = leaving words r
calls_leave journal image records (room ∷ more) words r =
    let o = stepped_with_text journal image records words r room in
    calls_leave journal image records more (words_after o words) (rewind_after o r)

-- and after a call of a run
abbrev pub run_leaves : Outcome Run → List ℕ → Rewind → Left
run_leaves (refused n) words r = leaving words r
run_leaves (answered x) words r = leaving x.words x.rewind

-- a run by what its calls come to
abbrev pub gathered : List ℕ → List ℕ → Run → List (Outcome (Next Step)) → Run
gathered journal image r [] = r
gathered journal image r (o ∷ os) = gathered journal image (onward (λ q. q) journal image r o) os

-- and a call of a run: it is refused where its first one is for what does not stop a run
abbrev pub gathered_call : List ℕ → List ℕ → Run → List (Outcome (Next Step)) → Outcome Run
gathered_call journal image r [] = answered r
gathered_call journal image r (refused n ∷ os) = cond (stops n) (answered (gathered journal image r (refused n ∷ os))) (refused n)
gathered_call journal image r (answered x ∷ os) = answered (gathered journal image r (answered x ∷ os))
