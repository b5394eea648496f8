-- Facts of tests and numbers that more than one law uses. Assumes nothing.
use Prim.Native.Nat.{ℕ, ◌+◌, ◌-◌, ◌≤◌, ◌<◌}
use mathlib.Core.Path.{◌≡◌, refl, sym, ◌∙◌, subst}
use mathlib.Core.Bool.{Bool, true, false}
use native.Mathlib.Omega.{arith}
use borrow.Author.Tests.{leb-true, leb-false, le-leb, lt-leb, eqb-true, eqb-false}
use lib.Dec.{leb, eqb}

-- a test against what is left, and against the whole
pub leb-sub : (a b e : ℕ) → b ≤ e → leb a (e - b) ≡ leb (a + b) e
leb-sub a b e h = go (leb a (e - b)) refl
  where
    go : (x : Bool) → leb a (e - b) ≡ x → leb a (e - b) ≡ leb (a + b) e
    go true x = let l : a ≤ e - b = leb-true _ _ x in x ∙ sym (le-leb (a + b) e (omega arith))
    go false x = let l : e - b < a = leb-false _ _ x in x ∙ sym (lt-leb (a + b) e (omega arith))

-- what holds at i and after i holds from i on
pub from-here : (P : ℕ → Type 0) (i m : ℕ) → P i → (i + 1 ≤ m → P m) → i ≤ m → P m
from-here P i m here after h = go (eqb i m) refl
  where
    go : (b : Bool) → eqb i m ≡ b → P m
    go true e = subst P (eqb-true i m e) here
    go false e = let other : i ≡ m → ⊥ = eqb-false i m e in after (omega arith)
