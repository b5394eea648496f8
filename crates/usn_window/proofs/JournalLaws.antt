-- What is still to come is one step and then what is to come from there: each step moves the position, or refills where the window did not
-- start at the position. And where no record passes the journal's end it is the plain walk of the rule. Assumes nothing.
use Prim.Native.Nat.{ℕ, zero, suc, ◌+◌, ◌-◌, ◌*◌, ◌≤◌, ◌<◌}
use mathlib.Core.Path.{◌≡◌, refl, ap, ◌∙◌}
use mathlib.Core.List.{List, [], ◌++◌}
use mathlib.Core.Bool.{cond, ◌||◌}
use native.Mathlib.Omega.{arith}
use lib.ListN.{length}
use lib.Dec.{ltb, eqb}
use borrow.Author.Tests.{ltb-true, ltb-false, eqb-false, eq-eqb, ne_eqb}
use Rattle.base.specs.declared.Place.{Place}
use Rattle.base.proofs.ChoiceLaws.{cond_cases, or_left, or_right}
use Rattle.usn_record.specs.Bytes.{le_at}
use Rattle.usn_record.specs.Record.{listed}
use Rattle.window_numbers.specs.Numbers.{window_size, window_end}
use Rattle.usn_window.specs.Journal.{WindowStep, over, onto, found, refill_to, step_at, after_step, steps, to_come}

-- a position and an end that a window over s may have
pub record Steady (s : List ℕ) (p e : ℕ) : Type 0 where
  pub inside : e ≤ length s
  pub near : p ≤ e + 7

-- 0 where the window starts at the position
abbrev pub apart : List ℕ → ℕ → ℕ → ℕ
apart s p e = cond (eqb e (window_end p (length s))) 0 1

-- what falls with each step
unfoldable pub left : List ℕ → ℕ → ℕ → ℕ
left s p e = 2 * (length s + 8 - p) + apart s p e

module _ (s : List ℕ) (p e : ℕ) where
  left-most : left s p e ≤ 2 * (length s + 8 - p) + 1
  unfolding left
  left-most = cond_cases (λ (n : ℕ). 2 * (length s + 8 - p) + n ≤ 2 * (length s + 8 - p) + 1) (eqb e (window_end p (length s))) (λ _. omega arith) (λ _. omega arith)

  left-least : 2 * (length s + 8 - p) ≤ left s p e
  unfolding left
  left-least = omega arith

  left_other : (e ≡ window_end p (length s) → ⊥) → left s p e ≡ 2 * (length s + 8 - p) + 1
  unfolding left
  left_other h = simp (ne_eqb _ _ h)

left-start : (s : List ℕ) (p : ℕ) → left s p (window_end p (length s)) ≡ 2 * (length s + 8 - p)
unfolding left
left-start s p = simp (eq-eqb (window_end p (length s)) (window_end p (length s)) refl) (omega arith)

abbrev pub Falls : List ℕ → ℕ → ℕ → WindowStep → Type 0
Falls s p e over = Unit {0}
Falls s p e (onto ps q f) = Steady s q f × (left s q f < left s p e)

module _ (s : List ℕ) (p e : ℕ) (st : Steady s p e) where
  -- a refill with the position kept
  falls-refill : (n : ℕ) → n ≤ window_size → e < p + n → Falls s p e (refill_to (length s) p e p)
  falls-refill n a h =
      cond_cases (Falls s p e) (eqb e (length s)) (λ _. tt) λ d. (
        record { inside = omega arith; near = omega (arith, st.near, st.inside) },
        omega (arith, left-start s p, left_other s p e (λ q. eqb-false e (length s) d (omega arith))),
      )

  falls-on : (q : ℕ) → p + 8 ≤ e → p + 8 ≤ q → q ≤ e + 7 → (ps : List Place) → Falls s p e (onto ps q e)
  falls-on q a b d ps = (record { inside = st.inside; near = d }, omega (arith, left-most s q e, left-least s p e, st.inside))

  -- a refill with the position moved by 8
  falls-skip : p + 8 ≤ e → Falls s p e (refill_to (length s) p e (p + 8))
  falls-skip a =
      cond_cases (Falls s p e) (eqb e (length s)) (λ _. tt) λ _.
      (record { inside = omega arith; near = omega (arith, st.inside) }, omega (arith, left-most s (p + 8) (window_end p (length s)), left-least s p e, st.inside))

  pub step_falls : Falls s p e (step_at s p e)
  unfolding step_at
  step_falls =
      let n = le_at 4 s p in
      let F : WindowStep → Type 0 = Falls s p e in
      cond_cases F (ltb e (p + 8)) (λ a. falls-refill 8 (omega arith) (ltb-true e (p + 8) a)) λ a.
      let r : p + 8 ≤ e = ltb-false e (p + 8) a in
      cond_cases F (ltb n 8 || ltb window_size n) (λ _. falls-on (p + 8) r (omega arith) (omega arith) []) λ b.
      let low : 8 ≤ n = ltb-false n 8 (or_left (ltb n 8) (ltb window_size n) b) in
      let high : n ≤ window_size = ltb-false window_size n (or_right (ltb n 8) (ltb window_size n) b) in
      cond_cases F (ltb e (p + n))
      (λ d. cond_cases (λ (q : ℕ). F (refill_to (length s) p e q)) (ltb (length s) (p + n)) (λ _. falls-skip r) (λ _. falls-refill n high (ltb-true e (p + n) d))) λ d.
      let in' : p + n ≤ e = ltb-false e (p + n) d in
      falls-on _ r (omega arith) (omega arith) (found p n (listed s p))

after-agree : (s : List ℕ) (p e : ℕ) (x : WindowStep) (f g : ℕ → ℕ → List Place) → Falls s p e x
    → ((q h : ℕ) → Steady s q h → left s q h < left s p e → f q h ≡ g q h) → after_step x f ≡ after_step x g
after-agree s p e over f g w h = refl
after-agree s p e (onto ps q d) f g w h = ap (λ (l : List Place). ps ++ l) (h q d w.0 w.1)

-- more steps change nothing once there are enough
steps-enough : (s : List ℕ) (j k p e : ℕ) → Steady s p e → left s p e < j → left s p e < k → steps s j p e ≡ steps s k p e
unfolding steps
steps-enough s zero k p e st a b = absurd (omega arith)
steps-enough s (suc j) zero p e st a b = absurd (omega arith)
steps-enough s (suc j) (suc k) p e st a b =
    after-agree s p e (step_at s p e) (steps s j) (steps s k) (step_falls s p e st) (λ q h t l. steps-enough s j k q h t (omega arith) (omega arith))

pub to-come : (s : List ℕ) (p e : ℕ) → Steady s p e → to_come s p e ≡ after_step (step_at s p e) (to_come s)
unfolding to_come steps
to-come s p e st =
    let m = 2 * (length s + 8 - p) + 1 in
    steps-enough s (2 * (length s + 8 - p) + 2) (suc m) p e st (omega (arith, left-most s p e)) (omega (arith, left-most s p e))
    ∙ after-agree s p e (step_at s p e) (steps s m) (to_come s) (step_falls s p e st)
    (λ q h t l. steps-enough s m (2 * (length s + 8 - q) + 2) q h t (omega (arith, left-most s p e)) (omega (arith, left-most s q h)))

-- a step ends, or goes on with a steady window
abbrev pub GoesSteady : List ℕ → WindowStep → Type 0
GoesSteady s over = Unit {0}
GoesSteady s (onto ps q f) = Steady s q f

holds_of : (s : List ℕ) (p e : ℕ) (x : WindowStep) → Falls s p e x → GoesSteady s x
holds_of s p e over w = tt
holds_of s p e (onto ps q f) w = w.0

pub step-holds : (s : List ℕ) (p e : ℕ) → Steady s p e → GoesSteady s (step_at s p e)
step-holds s p e st = holds_of s p e (step_at s p e) (step_falls s p e st)
