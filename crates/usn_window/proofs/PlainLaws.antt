-- Where no record that the window comes to passes the journal's end, its list is the plain walk of its rule: the refills change nothing.
-- Assumes nothing.
use Prim.Native.Nat.{ℕ, zero, suc, ◌+◌, ◌≤◌, ◌<◌}
use mathlib.Core.Path.{◌≡◌, sym, ap, ◌∙◌}
use mathlib.Core.List.{List, [], ◌++◌}
use mathlib.Core.Bool.{true, ◌||◌}
use native.Mathlib.Omega.{arith}
use lib.ListN.{length}
use lib.Dec.{ltb, eqb}
use borrow.Author.Tests.{ltb-true, ltb-false, eqb-true, lt-ltb, le-ltb}
use Rattle.base.specs.Places.{round8}
use Rattle.base.specs.Walk.{Visit, stop, go, going_on, from}
use Rattle.base.specs.declared.Place.{Place}
use Rattle.base.proofs.ChoiceLaws.{cond_cases, or_left, or_right}
use Rattle.base.proofs.WalkLaws.{Forward, from_step, Stays}
use Rattle.usn_record.specs.Bytes.{le_at}
use Rattle.usn_record.specs.Record.{listed}
use Rattle.window_numbers.specs.Numbers.{window_size, window_end}
use Rattle.usn_window.specs.Journal.{WindowStep, onto, found, refill_to, step_at, after_step, to_come, window_list, plain_visit}
use Rattle.usn_window.proofs.JournalLaws.{Steady, left, Falls, step_falls, to-come}

pub plain-forward : (s : List ℕ) (p : ℕ) → Forward (length s) p (plain_visit s p)
unfolding plain_visit
plain-forward s p =
    let n = le_at 4 s p in
    let F : Visit Place → Type 0 = Forward (length s) p in
    cond_cases F (ltb (length s) (p + 8)) (λ _. tt) λ a.
    let r : p + 8 ≤ length s = ltb-false (length s) (p + 8) a in
    cond_cases F (ltb n 8 || ltb window_size n) (λ _. omega arith) λ b.
    let low : 8 ≤ n = ltb-false n 8 (or_left (ltb n 8) (ltb window_size n) b) in
    omega arith

-- G holds of the positions that the plain walk comes to, and where it holds no record passes the end
module _ (s : List ℕ) (G : ℕ → Type 0) (stays : (p : ℕ) → G p → Stays G (plain_visit s p))
    (ends : (p : ℕ) → G p → 8 ≤ le_at 4 s p → le_at 4 s p ≤ window_size → p + le_at 4 s p ≤ length s) where
  abbrev rest : ℕ → List Place
  rest = from (plain_visit s) (length s)

  -- what the plain walk finds where the visit is v
  plain_at : (p : ℕ) (v : Visit Place) → v ≡ plain_visit s p → going_on v rest ≡ rest p
  plain_at p v e = rw e (sym (from_step (plain_visit s) (length s) (plain-forward s) p))

  keeps : (p : ℕ) (v : Visit Place) → v ≡ plain_visit s p → G p → Stays G v
  keeps p v e g = rw e (stays p g)

  -- one step of the window beside one visit of the plain walk
  module _ (p e : ℕ) (st : Steady s p e) (g : G p) (ih : (q f : ℕ) → left s q f < left s p e → Steady s q f → G q → to_come s q f ≡ rest q) where
    abbrev Same : WindowStep → Type 0
    Same x = Falls s p e x → after_step x (to_come s) ≡ rest p

    -- a refill at the same position
    refill : (eqb e (length s) ≡ true → rest p ≡ []) → Same (refill_to (length s) p e p)
    refill z = cond_cases Same (eqb e (length s)) (λ t _. sym (z t)) (λ _ w. ih p (window_end p (length s)) w.1 w.0 g)

    -- a move of both
    move : (ps : List Place) (q : ℕ) → go ps q ≡ plain_visit s p → Same (onto ps q e)
    move ps q v w = ap (λ (l : List Place). ps ++ l) (ih q e w.1 w.0 (keeps p (go ps q) v g)) ∙ plain_at p (go ps q) v

    past : length s < p + 8 → rest p ≡ []
    unfolding plain_visit
    past a = sym (plain_at p stop (simp (lt-ltb _ _ a)))

    plain_step : Same (step_at s p e)
    unfolding step_at plain_visit
    plain_step =
        let n = le_at 4 s p in
        cond_cases Same (ltb e (p + 8)) (λ a. refill (λ t. past (omega (arith, ltb-true e (p + 8) a, eqb-true e (length s) t)))) λ a.
        let r : p + 8 ≤ length s = omega (arith, ltb-false e (p + 8) a, st.inside) in
        cond_cases Same (ltb n 8 || ltb window_size n) (λ b. move [] (p + 8) (simp (le-ltb _ _ r, b))) λ b.
        let i : p + n ≤ length s =
        ends p g (ltb-false n 8 (or_left (ltb n 8) (ltb window_size n) b)) (ltb-false window_size n (or_right (ltb n 8) (ltb window_size n) b)) in
        cond_cases Same (ltb e (p + n))
        (λ d. cond_cases (λ (q : ℕ). Same (refill_to (length s) p e q)) (ltb (length s) (p + n)) (λ f. absurd (omega (arith, ltb-true (length s) (p + n) f)))
        (λ _. refill (λ t. absurd (omega (arith, ltb-true e (p + n) d, eqb-true e (length s) t)))))
        (λ _. move (found p n (listed s p)) (p + round8 n) (simp (le-ltb _ _ r, b)))

  plain-go : (k p e : ℕ) → left s p e < k → Steady s p e → G p → to_come s p e ≡ rest p
  plain-go zero p e h st g = absurd (omega arith)
  plain-go (suc k) p e h st g =
      to-come s p e st ∙ plain_step p e st g (λ q f l. plain-go k q f (omega arith)) (step_falls s p e st)

  pub window-plain : G 0 → window_list s ≡ from (plain_visit s) (length s) 0
  window-plain g = plain-go (suc (left s 0 0)) 0 0 (omega arith) (record { inside = omega arith; near = omega arith }) g
