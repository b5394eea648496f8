-- A run is the calls of a step with text that it stands for, however many are asked for: what they come to, put together, and what they leave. So is a
-- call of a run: where it is refused, a single step is refused by the same number, and leaves all as it was. Assumes nothing.
use Prim.Native.Nat.{ℕ, zero, suc, ◌-◌}
use mathlib.Core.Path.{◌≡◌, refl, ap, sym, ◌∙◌}
use mathlib.Core.List.{List, [], ◌∷◌}
use mathlib.Core.Bool.{Bool, true, false}
use borrow.Author.Tests.{eqb-true, eqb-false}
use lib.ListN.{length}
use lib.Dec.{eqb}
use Rattle.base.specs.Outcome.{Outcome, refused, answered}
use Rattle.entry_slots.specs.Table.{Table}
use Rattle.rewind_records.specs.Environment.{Environment, environment_of, rewind_refusal}
use Rattle.rewind_records.specs.Turning.{Next, ended, next, turning}
use Rattle.rewind_records.proofs.TurnLaws.{turning-refused, tested-refused, tested-passed}
use Rattle.rewind_steps.specs.Taking.{Step}
use Rattle.rewind.specs.Stepping.{words_after, rewind_after, forward_table}
use Rattle.rewind.specs.Written.{stepped_with_text}
use Rattle.rewind.specs.declared.Rewind.{Rewind}
use Rattle.run_steps.specs.Running.{Run, run_from, run_and_step, onward, running, ran}
use Rattle.rewind_run.specs.Running.{tested_run}
use Rattle.rewind_run.specs.Calls.{rooms_on, rooms, call_rooms, calls, Left, leaving, calls_leave, run_leaves, gathered, gathered_call}
use Rattle.rewind_run.specs.Stopping.{stops}
use Rattle.rewind_run.proofs.StopLaws.{tests-stop-none, refused-stops}

module _ (journal image records : List ℕ) (room : ℕ) where
  abbrev run : ℕ → Run → Run
  run = running journal image records room

  abbrev rooms_of : ℕ → Run → List ℕ
  rooms_of = rooms journal image records room

  -- what the calls of a run come to, and what they leave
  abbrev pub outcomes_of : ℕ → Run → List (Outcome (Next Step))
  outcomes_of n r = calls journal image records (rooms_of n r) r.words r.rewind

  abbrev pub left_of : ℕ → Run → Left
  left_of n r = calls_leave journal image records (rooms_of n r) r.words r.rewind

  abbrev left_by_run : Run → Left
  left_by_run r = leaving r.words r.rewind

  pub as-steps : (n : ℕ) (r : Run) → run n r ≡ gathered journal image r (outcomes_of n r)
  unfolding running rooms calls
  as-steps zero r = refl
  as-steps (suc n) r = go (stepped_with_text journal image records r.words r.rewind (room - length r.text)) (as-steps n)
    where
      go : (o : Outcome (Next Step)) → ((q : Run) → run n q ≡ gathered journal image q (outcomes_of n q))
          → onward (run n) journal image r o
          ≡ gathered journal image (onward (λ q. q) journal image r o) (calls journal image records (rooms_on (rooms_of n) journal image r o) (words_after o r.words) (rewind_after o r.rewind))
      go (refused k) more = refl
      go (answered ended) more = refl
      go (answered (next x)) more = more (run_and_step journal image r x)

  pub as-steps-left : (n : ℕ) (r : Run) → left_by_run (run n r) ≡ left_of n r
  unfolding running rooms calls_leave
  as-steps-left zero r = refl
  as-steps-left (suc n) r = go (stepped_with_text journal image records r.words r.rewind (room - length r.text)) (as-steps-left n)
    where
      go : (o : Outcome (Next Step)) → ((q : Run) → left_by_run (run n q) ≡ left_of n q)
          → left_by_run (onward (run n) journal image r o) ≡ calls_leave journal image records (rooms_on (rooms_of n) journal image r o) (words_after o r.words) (rewind_after o r.rewind)
      go (refused k) more = refl
      go (answered ended) more = refl
      go (answered (next x)) more = more (run_and_step journal image r x)

-- a call of a run, by its tests
module _ (journal image records words : List ℕ) (r : Rewind) (room asked : ℕ) where
  abbrev env : Environment
  env = environment_of journal image records

  abbrev t : Table
  t = forward_table words r

  abbrev from : Run
  from = run_from words r

  abbrev out : Outcome Run
  out = tested_run journal image records words r room asked

  abbrev outcomes : List (Outcome (Next Step))
  outcomes = outcomes_of journal image records room asked from

  pub answered-run : rewind_refusal env t ≡ 0 → out ≡ answered (ran journal image records words r room asked)
  unfolding tested_run
  answered-run p = tested-passed env t (answered (ran journal image records words r room asked)) (sym p) refl

  pub refused-run : (rewind_refusal env t ≡ 0 → ⊥) → out ≡ refused (rewind_refusal env t)
  unfolding tested_run
  refused-run h = tested-refused env t (answered (ran journal image records words r room asked)) refl h

  -- a step is refused by the same number, whatever room it has
  pub step-refused : (rewind_refusal env t ≡ 0 → ⊥) → (size : ℕ) → stepped_with_text journal image records words r size ≡ refused (rewind_refusal env t)
  step-refused h size =
      let q : turning env t r.position ≡ refused (rewind_refusal env t) = sym (turning-refused journal records (length image) r.position t refl h) in
      rw q

  -- the first call of a run whose tests have passed does not refuse it
  not-refused : rewind_refusal env t ≡ 0 → (n : ℕ) → gathered_call journal image from (outcomes_of journal image records room n from) ≡ answered (gathered journal image from (outcomes_of journal image records room n from))
  unfolding rooms calls
  not-refused p zero = refl
  not-refused p (suc n) =
      let o = stepped_with_text journal image records words r (room - 0) in
      go o (calls journal image records (rooms_on (rooms journal image records room n) journal image from o) (words_after o words) (rewind_after o r)) refl
    where
      go : (o : Outcome (Next Step)) (os : List (Outcome (Next Step))) → stepped_with_text journal image records words r (room - 0) ≡ o
          → gathered_call journal image from (o ∷ os) ≡ answered (gathered journal image from (o ∷ os))
      go (refused k) os e = let f : stops k ≡ true = refused-stops journal image records words r.used r.position p (room - 0) e in rw f
      go (answered x) os e = refl

  -- one call that is refused for what stops no run
  one : stepped_with_text journal image records words r room ≡ refused (rewind_refusal env t)
      → refused (rewind_refusal env t) ≡ gathered_call journal image from (calls journal image records (room ∷ []) words r)
  unfolding calls
  one e = let f : stops (rewind_refusal env t) ≡ false = tests-stop-none env t in rw (e, f)

  one_left : stepped_with_text journal image records words r room ≡ refused (rewind_refusal env t) → leaving words r ≡ calls_leave journal image records (room ∷ []) words r
  unfolding calls_leave
  one_left e = rw e

  pub as-calls : out ≡ gathered_call journal image from (calls journal image records (call_rooms journal image records words r room asked) words r)
  as-calls = go (eqb (rewind_refusal env t) 0) refl
    where
      go : (b : Bool) → eqb (rewind_refusal env t) 0 ≡ b → out ≡ gathered_call journal image from (calls journal image records (call_rooms journal image records words r room asked) words r)
      go true e =
          let p : rewind_refusal env t ≡ 0 = eqb-true _ _ e in
          let o = answered-run p in
          rw o (ap answered (as-steps journal image records room asked from) ∙ sym (not-refused p asked))
      go false e =
          let h = eqb-false _ _ e in
          let o = refused-run h in
          rw o (one (step-refused h room))

  pub as-calls-left : run_leaves out words r ≡ calls_leave journal image records (call_rooms journal image records words r room asked) words r
  as-calls-left = go (eqb (rewind_refusal env t) 0) refl
    where
      go : (b : Bool) → eqb (rewind_refusal env t) 0 ≡ b → run_leaves out words r ≡ calls_leave journal image records (call_rooms journal image records words r room asked) words r
      go true e = let o = answered-run (eqb-true _ _ e) in rw o (as-steps-left journal image records room asked from)
      go false e = let h = eqb-false _ _ e in let o = refused-run h in rw o (one_left (step-refused h room))
