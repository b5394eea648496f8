-- 8 is about text alone: no start and no step without text is refused with it, and a step that it refused is answered once there is room for its
-- text. Assumes nothing.
use Prim.Native.Nat.{ℕ}
use mathlib.Core.Path.{◌≡◌}
use mathlib.Core.List.{List, ◌∷◌}
use mathlib.Core.Bool.{not, ◌||◌}
use native.Mathlib.Omega.{arith}
use lib.Dec.{ltb, eqb}
use Rattle.base.specs.Outcome.{Outcome, refused, answered, map_outcome, and_then}
use Rattle.base.specs.Refusals.{text_full, domain}
use Rattle.base.proofs.ChoiceLaws.{cond_cases}
use Rattle.entry_slots.specs.Names.{all_inside}
use Rattle.entry_slots.specs.Slots.{slots_in, names_in}
use Rattle.entry_slots.specs.Table.{Table, Addition}
use Rattle.additions.specs.Storing.{adding}
use Rattle.chain.specs.Settings.{depth}
use Rattle.path.proofs.TwoRuns.{Answers, retried}
use Rattle.additions.specs.Entries.{forward}
use Rattle.rewind_records.specs.Environment.{Environment, environment_of, all_answered, rewind_refusal, tested}
use Rattle.rewind.specs.Starting.{used_backward, starting}
use Rattle.rewind_records.specs.Turning.{Next, ended, next, turning}
use Rattle.rewind_steps.specs.Taking.{taken}
use Rattle.rewind.specs.Stepping.{forward_table, stepping, stepped}
use Rattle.rewind_steps.specs.StepText.{next_text}
use Rattle.rewind.specs.Written.{stepped_with_text}
use Rattle.rewind.specs.declared.Rewind.{Rewind}
use Rattle.additions.specs.declared.entries.RecordEntry.{RecordEntry}

-- an outcome that is not 8
abbrev pub NotFull : {A : Type 0} → Outcome A → Type 0
NotFull (refused n) = n ≡ text_full → ⊥
NotFull (answered a) = Unit {0}

pub not-full-of : {A : Type 0} (o : Outcome A) → NotFull o → o ≡ refused text_full → ⊥
not-full-of (refused n) h e = h cc
not-full-of (answered a) h e = let z : ◌≡◌ {A = ℕ} 0 1 = cc in absurd (omega arith)

mapped-not-full : {A B : Type 0} (f : A → B) (o : Outcome A) → NotFull o → NotFull (map_outcome f o)
mapped-not-full f (refused n) h = h
mapped-not-full f (answered a) h = tt

pub adding-not-full : (t : Table) (xs : List Addition) → NotFull (adding t xs)
unfolding adding
adding-not-full t xs = cond_cases NotFull (ltb (slots_in t.words) _) (λ _ e. omega arith) (λ _. tt)

-- the refusals before a rewind's work are 1, 9, 12 and 7
refusal-not-full : (env : Environment) (t : Table) → rewind_refusal env t ≡ text_full → ⊥
unfolding rewind_refusal
refusal-not-full env t =
    let P : ℕ → Type 0 = λ n. n ≡ text_full → ⊥ in
    cond_cases P (ltb domain env.lengths.journal || ltb domain env.lengths.image) (λ _ e. omega arith)
    (λ _. cond_cases P (ltb (slots_in t.words) t.used) (λ _ e. omega arith)
    (λ _. cond_cases P (not (all_answered env.records)) (λ _ e. omega arith)
    (λ _. cond_cases P (not (all_inside env.lengths (names_in t.words t.used))) (λ _ e. omega arith) (λ _ e. omega arith))))

tested-not-full : {A : Type 0} (env : Environment) (t : Table) (o : Outcome A) → NotFull o → NotFull (tested env t o)
tested-not-full env t o h = cond_cases NotFull (eqb (rewind_refusal env t) 0) (λ _. h) (λ _. refusal-not-full env t)

pub starting-not-full : (env : Environment) (t : Table) (words : List ℕ) → NotFull (starting env t words)
unfolding starting
starting-not-full env t words =
    tested-not-full env t _
    (cond_cases NotFull (ltb (slots_in t.words) (used_backward env t) || ltb (slots_in words) (used_backward env t)) (λ _ e. omega arith) (λ _. tt))

taken-not-full : (t : Table) (depth : ℕ) (x : Outcome (Next RecordEntry)) → NotFull x → NotFull (and_then x (taken t depth))
taken-not-full t depth (refused n) h = h
taken-not-full t depth (answered ended) h = tt
taken-not-full t depth (answered (next e)) h = mapped-not-full _ (adding t (forward e ∷ _)) (adding-not-full t _)

pub stepping-not-full : (env : Environment) (t : Table) (depth position : ℕ) → NotFull (stepping env t depth position)
unfolding turning
stepping-not-full env t depth position = taken-not-full t depth (turning env t position) (tested-not-full env t _ tt)

-- A step that 8 refused, repeated with a text of at least its path's length, is answered.
pub next-again : (journal image l words : List ℕ) (r : Rewind) (room : ℕ) → stepped_with_text journal image l words r room ≡ refused text_full
    → Answers (next_text journal image) (stepped journal image l words r)
next-again journal image l words r room =
    retried (next_text journal image) room (stepped journal image l words r)
    (not-full-of (stepped journal image l words r) (stepping-not-full (environment_of journal image l) (forward_table words r) depth r.position))
