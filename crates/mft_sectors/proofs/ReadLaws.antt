-- Reads of a restored entry: those of the entry where no sector's end is met, and those byte by byte. Assumes nothing.
use Prim.Native.Nat.{ℕ, zero, suc, ◌+◌, ◌-◌, ◌*◌, ◌^◌, ◌≤◌, ◌<◌}
use mathlib.Core.Path.{◌≡◌, sym, ◌∙◌}
use mathlib.Core.List.{List}
use native.Mathlib.Nat.{mul_assoc, mul_comm, pow-le-pow_right, pow-succ'}
use native.Mathlib.Omega.{arith}
use lib.ListN.{length, get_or}
use Rattle.usn_record.specs.Bytes.{le, le_at}
use Rattle.usn_record.proofs.ByteLaws.{read-inside, read_byte}

-- one byte, and then w more
le-next : (w : ℕ) (s : List ℕ) (o : ℕ) → le (suc w) s o ≡ get_or s o 0 + le w s (o + 1) * 256
unfolding le
le-next zero s o = let e : o + 0 ≡ o = omega arith in rw e (omega arith)
le-next (suc w) s o =
    let e : o + 1 + w ≡ o + suc w = omega arith in
    let g = get_or s (o + suc w) 0 in
    let h = le-next w s o in
    let p : g * 256 ^ suc w ≡ g * 256 ^ w * 256 = rw (pow-succ' 256 w, mul_comm 256 (256 ^ w)) (sym (mul_assoc g (256 ^ w) 256)) in
    rw e (omega (arith, h, p))

-- k bytes are still to be read, and those behind them, up to width, spell the number
pub record Across (s : List ℕ) (o width number k : ℕ) : Type 0 where
  pub read : number ≡ le (width - k) s (o + k)
  pub bound : number < 256 ^ (width - k)

pub across-start : (s : List ℕ) (o width : ℕ) → Across s o width 0 width
unfolding le
across-start s o width = let z : width - width ≡ 0 = omega arith in record { read = rw z; bound = rw z (omega arith) }

module _ {s : List ℕ} {o width number k : ℕ} (w : Across s o width number k) (h : 0 < k) (i : k ≤ width) where
  m : width - (k - 1) ≡ suc (width - k)
  m = omega arith

  more : 256 ^ (width - (k - 1)) ≡ 256 * 256 ^ (width - k)
  more = rw m (pow-succ' 256 (width - k))

  -- the number with one byte more fits where eight bytes do
  pub across-fits : (b : ℕ) → b < 256 → width ≤ 8 → number * 256 + b < 2 ^ 64
  across-fits b l e =
      let p : 256 ^ (width - (k - 1)) ≤ 256 ^ 8 = pow-le-pow_right {n = 256} (omega arith) {i = width - (k - 1)} {j = 8} (omega arith) in
      omega (arith, w.bound, more, p)

  pub across-next : {b : ℕ} → b < 256 → b ≡ le_at 1 s (o + (k - 1)) → o + width ≤ length s → Across s o width (number * 256 + b) (k - 1)
  across-next {b} l f e =
      let a : b ≡ get_or s (o + (k - 1)) 0 = f ∙ sym (read_byte s (o + (k - 1)) (omega arith)) in
      let j : o + k ≡ o + (k - 1) + 1 = omega arith in
      let n = le-next (width - k) s (o + (k - 1)) in
      let r = rw j at w.read in
      record { read = rw m (omega (arith, a, r, n)); bound = omega (arith, w.bound, more) }

module _ {s : List ℕ} {o width number k : ℕ} (w : Across s o width number k) (h : k ≤ 0) where
  all : width - k ≡ width
  all = omega arith

  pub across-end : o + width ≤ length s → number ≡ le_at width s o
  across-end l = let b : o + k ≡ o = omega arith in (rw (all, b) at w.read) ∙ sym (read-inside width s o l)

  pub across-bound : number < 256 ^ width
  across-bound = rw all at w.bound
