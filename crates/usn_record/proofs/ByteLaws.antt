-- Laws of little-endian reads, for any width: halves, bounds, reads of a part, and reads of two lists that agree. Assumes nothing.
use Prim.Native.Nat.{ℕ, zero, suc, ◌+◌, ◌*◌, ◌^◌, ◌≤◌, ◌<◌}
use mathlib.Core.Path.{◌≡◌, refl, sym, ◌∙◌}
use mathlib.Core.List.{List}
use native.Mathlib.Nat.{add-zero, add-suc, add_assoc, zero-mul, add-mul, mul_assoc, mul_comm, pow-succ', mul-le-mul_right}
use native.Mathlib.Omega.{arith}
use borrow.Author.Tests.{le-leb, lt-leb}
use lib.ListN.{length, get_or}
use lib.Dec.{leb, lit<}
use lib.Pow.{pow-add}
use Rattle.base.specs.Places.{part}
use Rattle.base.specs.Agree.{Agree}
use Rattle.base.proofs.ChoiceLaws.{cond_cases}
use Rattle.base.proofs.AgreeLaws.{part_in, part_length}
use Rattle.usn_record.specs.Bytes.{le, le_at}

-- w bytes and v more
le_split : (w v : ℕ) (s : List ℕ) (o : ℕ) → le (w + v) s o ≡ le w s o + le v s (o + w) * 256 ^ w
unfolding le
le_split w zero s o = rw add-zero (omega (arith, zero-mul (256 ^ w)))
le_split w (suc v) s o =
    rw (
      add-suc w v,
      le_split w v s o,
      pow-add 256 w v,
      ← add_assoc o w v,
      add-mul (le v s (o + w)) (get_or s (o + w + v) 0 * 256 ^ v) (256 ^ w),
      mul_assoc (get_or s (o + w + v) 0) (256 ^ v) (256 ^ w),
      mul_comm (256 ^ w) (256 ^ v),
    )
    (add_assoc _ _ _)

-- a read that lies inside
pub read-inside : (w : ℕ) (s : List ℕ) (o : ℕ) → o + w ≤ length s → le_at w s o ≡ le w s o
unfolding le_at
read-inside w s o h = simp (le-leb (o + w) (length s) h)

-- a read that runs past the end
pub read_past : (w : ℕ) (s : List ℕ) (o : ℕ) → length s < o + w → le_at w s o ≡ 0
unfolding le_at
read_past w s o h = simp (lt-leb (o + w) (length s) h)

-- a read of one byte
pub read_byte : (s : List ℕ) (o : ℕ) → o + 1 ≤ length s → get_or s o 0 ≡ le_at 1 s o
unfolding le
read_byte s o h = rw (read-inside 1 s o h, add-zero o) (omega arith)

-- what a read of twice the width gives, from what two reads gave
pub read_join : (w : ℕ) (s : List ℕ) (o : ℕ) {a b : ℕ} → o + (w + w) ≤ length s → a ≡ le_at w s o → b ≡ le_at w s (o + w) → a + b * 256 ^ w ≡ le_at (w + w) s o
read_join w s o h p q =
    rw (p, q, read-inside (w + w) s o h, read-inside w s o (omega arith), read-inside w s (o + w) (omega arith), le_split w w s o)

below : (x : ℕ) → x < 256 → x ≤ 255
below x h = omega arith

-- bytes spell a number below 256 ^ w
pub le-lt : (w : ℕ) (s : List ℕ) (o : ℕ) → ((i : ℕ) → get_or s i 0 < 256) → le w s o < 256 ^ w
unfolding le
le-lt zero s o b = lit< tt
le-lt (suc w) s o b =
    rw pow-succ' (omega (arith, le-lt w s o b, mul-le-mul_right (256 ^ w) (below (get_or s (o + w) 0) (b (o + w)))))

pub read-lt : (w : ℕ) (s : List ℕ) (o : ℕ) → ((i : ℕ) → get_or s i 0 < 256) → le_at w s o < 256 ^ w
unfolding le_at
read-lt w s o b = cond_cases (λ (n : ℕ). n < 256 ^ w) (leb (o + w) (length s)) (λ _. le-lt w s o b) (λ _. omega (arith, le-lt w s o b))

-- a read inside a part is a read of the whole
module _ (s : List ℕ) (o n : ℕ) where
  le-part : (w k : ℕ) → k + w ≤ n → le w (part s o n) k ≡ le w s (o + k)
  unfolding le
  le-part zero k h = refl
  le-part (suc w) k h = rw (le-part w k (omega arith), part_in s o n (k + w) (omega arith), add_assoc o k w)

  pub read-part : (w k : ℕ) → o + n ≤ length s → k + w ≤ n → le_at w (part s o n) k ≡ le_at w s (o + k)
  read-part w k a h =
      read-inside w (part s o n) k (rw (part_length s o n a) h)
      ∙ le-part w k h
      ∙ sym (read-inside w s (o + k) (omega arith))

-- lists that agree on a range give the same reads there
le-agree : {s t : List ℕ} {lo hi : ℕ} (w o : ℕ) → Agree s t lo hi → lo ≤ o → o + w ≤ hi → le w t o ≡ le w s o
unfolding le
le-agree zero o a h k = refl
le-agree (suc w) o a h k = rw (le-agree w o a h (omega arith), a.at (o + w) (omega arith) (omega arith))

pub read-agree : {s t : List ℕ} {lo hi : ℕ} (w o : ℕ) → Agree s t lo hi → lo ≤ o → o + w ≤ hi → le_at w t o ≡ le_at w s o
unfolding le_at
read-agree w o a h k = rw (a.long, le-agree w o a h k)
