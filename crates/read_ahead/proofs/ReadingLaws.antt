-- How many records are read ahead for, by the tests in their order, and the position that is answered. Assumes nothing.
use Prim.Native.Nat.{ℕ, ◌+◌, ◌-◌, ◌≤◌, ◌<◌}
use mathlib.Core.Path.{◌≡◌, ◌∙◌}
use native.Mathlib.Omega.{arith}
use lib.Dec.{eqb, ltb}
use borrow.Author.Tests.{lt-ltb, le-ltb, ltb-true, ltb-false, ne_eqb, eqb-false}
use Rattle.base.proofs.ChoiceLaws.{cond_cases}
use Rattle.read_ahead.specs.Reading.{batch, large, at_once, read_to}

module _ (records slots heads position : ℕ) where
  pub no_index : heads ≡ 0 → 0 ≡ at_once records slots heads position
  unfolding at_once
  no_index e = simp e

  module _ (h : heads ≡ 0 → ⊥) where
    pub small-table : slots < large → 0 ≡ at_once records slots heads position
    unfolding at_once
    small-table l = simp (ne_eqb heads 0 h, lt-ltb _ _ l)

    module _ (l : large ≤ slots) where
      pub some_left : records - position < batch → {n : ℕ} → n ≡ records - position → n ≡ at_once records slots heads position
      unfolding at_once
      some_left k e = e ∙ simp (ne_eqb heads 0 h, le-ltb _ _ l, lt-ltb _ _ k)

      pub many-left : batch ≤ records - position → batch ≡ at_once records slots heads position
      unfolding at_once
      many-left k = simp (ne_eqb heads 0 h, le-ltb _ _ l, le-ltb _ _ k)

-- records that are read ahead for are at most a batch, are there, and are found by an index
pub record Fits (records heads position n : ℕ) : Type 0 where
  pub few : n ≤ batch
  pub there : position + n ≤ records
  pub index : 0 < heads

pub fits : (records slots heads position : ℕ) {n : ℕ} → n ≡ at_once records slots heads position → 0 < n → Fits records heads position n
unfolding at_once
fits records slots heads position {n} =
    let left = records - position in
    let P : ℕ → Type 0 = λ m. n ≡ m → 0 < n → Fits records heads position n in
    cond_cases P (eqb heads 0) (λ _ e h. absurd (omega arith)) λ a.
    cond_cases P (ltb slots large) (λ _ e h. absurd (omega arith)) λ _.
    cond_cases P (ltb left batch)
    (λ k e h. record { few = omega (arith, ltb-true left batch k); there = omega arith; index = omega (arith, eqb-false heads 0 a) })
    (λ k e h. record { few = omega arith; there = omega (arith, ltb-false left batch k); index = omega (arith, eqb-false heads 0 a) })

-- what is answered where it is done further on, and where n records are read ahead for
module _ (records slots heads position done : ℕ) where
  pub done-further : position < done → done ≡ read_to records slots heads position done
  unfolding read_to
  done-further h = simp (lt-ltb _ _ h)

  pub done-to : done ≤ position → {n r : ℕ} → n ≡ at_once records slots heads position → r ≡ position + n
      → r ≡ read_to records slots heads position done
  unfolding read_to
  done-to h e q = q ∙ simp (le-ltb _ _ h, e)
