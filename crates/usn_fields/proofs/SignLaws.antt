-- A signed number by its sign. Assumes nothing.
use Prim.Native.Nat.{ℕ}
use mathlib.Core.Path.{◌≡◌, refl, sym, ap, ◌∙◌}
use mathlib.Core.Bool.{Bool, true, false, true≢false}
use mathlib.Core.List.{List, ◌++◌}
use native.Mathlib.Omega.{arith}
use borrow.Author.Tests.{ltb-true}
use lib.IntN.{ℤ, pos, negsuc, nat_abs}
use lib.Signed.{lt_z}
use mir.Syntax.{w64}
use mir.Val.{to_z, of_z, SFits}
use mir.ValLaws.{to_z-of_z}
use Rattle.utf16.proofs.PutLaws.{Put, put_as, put_then}
use Rattle.usn_fields.proofs.FieldLaws.{Filled, fill-of, put-of}
use Rattle.usn_fields.specs.Line.{minus, field, signed_field}

-- what code knows of a signed number's sign is a test on its bits, read back
module _ (z : ℤ) (f : SFits w64 z) where
  sign : {b : Bool} → lt_z (to_z w64 (of_z w64 z)) (pos 0) ≡ b → lt_z z (pos 0) ≡ b
  sign e = rw (to_z-of_z w64 z f) at e

  pub signed-negative : lt_z (to_z w64 (of_z w64 z)) (pos 0) ≡ true → signed_field z ≡ minus ++ field (nat_abs z)
  unfolding signed_field
  signed-negative e = by z (sign e)
    where
      by : (z : ℤ) → lt_z z (pos 0) ≡ true → signed_field z ≡ minus ++ field (nat_abs z)
      by (pos n) e = absurd (omega (arith, ltb-true n 0 e))
      by (negsuc n) e = refl

  pub signed_rest : lt_z (to_z w64 (of_z w64 z)) (pos 0) ≡ false → signed_field z ≡ field (nat_abs z)
  unfolding signed_field
  signed_rest e = by z (sign e)
    where
      by : (z : ℤ) → lt_z z (pos 0) ≡ false → signed_field z ≡ field (nat_abs z)
      by (pos n) e = refl
      by (negsuc n) e = absurd (true≢false e)

  -- a minus sign and then the magnitude, or the magnitude alone
  pub signed_below : (l : List ℕ) (i : ℕ) {m o : List ℕ} {r q n : ℕ} → n ≡ nat_abs (to_z w64 (of_z w64 z)) → lt_z (to_z w64 (of_z w64 z)) (pos 0) ≡ true
      → Put l m i r minus → Filled 21 m o r q (field n) → Filled 22 l o i q (signed_field z)
  signed_below l i {m} {o} {r} {q} {n} h e p k =
      fill-of 22 l i (signed_field z)
      (put_as l i (signed-negative e ∙ ap (λ (n : ℕ). minus ++ field n) (sym (h ∙ ap nat_abs (to_z-of_z w64 z f)))) (put_then l i minus (field n) p (put-of 21 m r (field n) k)))
      (omega (arith, p.value, k.upper_bound))

  pub signed_above : (l : List ℕ) (i : ℕ) {m : List ℕ} {r n : ℕ} → n ≡ nat_abs (to_z w64 (of_z w64 z)) → lt_z (to_z w64 (of_z w64 z)) (pos 0) ≡ false
      → Filled 21 l m i r (field n) → Filled 22 l m i r (signed_field z)
  signed_above l i {m} {r} {n} h e k =
      fill-of 22 l i (signed_field z)
      (put_as l i (signed_rest e ∙ ap field (sym (h ∙ ap nat_abs (to_z-of_z w64 z f)))) (put-of 21 l i (field n) k))
      (omega (arith, k.upper_bound))
