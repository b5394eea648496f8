-- Pairs, units by themselves, and the first code point of units, by the tests that lead there. Assumes nothing.
use Prim.Native.Nat.{ℕ, zero, suc, ◌+◌, ◌*◌, ◌≤◌, ◌<◌}
use mathlib.Core.Path.{◌≡◌, refl, ap}
use mathlib.Core.List.{List, [], ◌∷◌}
use mathlib.Core.Bool.{Bool, true, false, ◌&&◌, false≢true}
use native.Mathlib.Omega.{arith}
use native.Mathlib.Nat.{add_assoc}
use borrow.Author.Tests.{lt-leb, leb-true}
use lib.ListN.{length}
use lib.Dec.{leb}
use Rattle.base.specs.Places.{part}
use Rattle.base.proofs.ChoiceLaws.{cond_cases}
use Rattle.usn_record.proofs.ByteLaws.{read-part}
use Rattle.utf16.specs.Utf16.{is_high, is_low, is_surrogate, is_pair, joined, alone, code_points, units_at}

-- a unit by itself
pub alone-below : (u : ℕ) → u < 0xD800 → u ≡ alone u
unfolding alone
alone-below u h = simp (lt-leb 0xD800 u h)

pub alone-small : (u : ℕ) → u < 0x10000 → alone u < 0x10000
unfolding alone
alone-small u h = cond_cases (λ (c : ℕ). c < 0x10000) (is_surrogate u) (λ _. omega arith) (λ _. h)

-- the units of a pair
pub record Pair (u v : ℕ) : Type 0 where
  pub from : 0xD800 ≤ u
  pub to : u ≤ 0xDBFF
  pub from' : 0xDC00 ≤ v
  pub to' : v ≤ 0xDFFF

both : (a b : Bool) → (a && b) ≡ true → (a ≡ true) × (b ≡ true)
both true b e = (refl, e)
both false b e = absurd (false≢true e)

pub pair-units : (u v : ℕ) → is_pair u v ≡ true → Pair u v
pair-units u v e =
    let (high, low) = both (is_high u) (is_low v) e in
    let (a, b) = both (leb 0xD800 u) (leb u 0xDBFF) high in
    let (a', b') = both (leb 0xDC00 v) (leb v 0xDFFF) low in
    record { from = leb-true _ _ a; to = leb-true _ _ b; from' = leb-true _ _ a'; to' = leb-true _ _ b' }

-- the first code point
pub points-pair : (u v : ℕ) (us : List ℕ) → is_pair u v ≡ true → code_points (u ∷ (v ∷ us)) ≡ joined u v ∷ code_points us
unfolding code_points
points-pair u v us e = simp e

pub points-alone : (u v : ℕ) (us : List ℕ) → is_pair u v ≡ false → code_points (u ∷ (v ∷ us)) ≡ alone u ∷ code_points (v ∷ us)
unfolding code_points
points-alone u v us e = simp e

-- a unit below the surrogates stands for itself, whatever follows
pub points-below : (u : ℕ) (us : List ℕ) → u < 0xD800 → code_points (u ∷ us) ≡ u ∷ code_points us
unfolding code_points
points-below u [] h = rw (← alone-below u h)
points-below u (v ∷ us) h = simp (lt-leb 0xD800 u h) (rw (← alone-below u h))

-- as many units as are asked for
pub units-length : (s : List ℕ) (o n : ℕ) → length (units_at s o n) ≡ n
unfolding units_at
units-length s o zero = refl
units-length s o (suc n) = ap suc (units-length s (o + 2) n)

-- those of a part are the whole's
pub units-part : (s : List ℕ) (o m k n : ℕ) → o + m ≤ length s → k + 2 * n ≤ m → units_at (part s o m) k n ≡ units_at s (o + k) n
unfolding units_at
units-part s o m k zero a h = refl
units-part s o m k (suc n) a h = rw (read-part s o m 2 k a (omega arith), units-part s o m (k + 2) n a (omega arith), add_assoc o k 2)
