-- Four units at once: by their tests, and by the bytes that are read. Assumes nothing.
use Prim.Native.Nat.{ℕ, ◌+◌, ◌-◌, ◌*◌, ◌/◌, ◌%◌, ◌≤◌, ◌<◌}
use mathlib.Core.Path.{◌≡◌, refl, sym, ◌∙◌}
use mathlib.Core.List.{List}
use mathlib.Core.Bool.{true}
use native.Mathlib.Nat.{add-zero}
use native.Mathlib.Omega.{arith}
use borrow.Author.Tests.{ltb-true}
use lib.ListN.{length, get_or, take, drop}
use lib.Dec.{ltb}
use Rattle.base.proofs.ChoiceLaws.{and_left, and_right}
use Rattle.usn_record.specs.Bytes.{le_at}
use Rattle.usn_record.proofs.ByteLaws.{read_join, read-lt, read-part}
use Rattle.utf16.specs.Ascii.{four_ascii}

-- each of the four units is below 80h
pub record Four (n : ℕ) : Type 0 where
  pub first : n % 0x10000 < 0x80
  pub second : n / 0x10000 % 0x10000 < 0x80
  pub third : n / 0x100000000 % 0x10000 < 0x80
  pub fourth : n / 0x1000000000000 % 0x10000 < 0x80

pub four-units : (n : ℕ) → four_ascii n ≡ true → Four n
unfolding four_ascii
four-units n e =
    let later = and_right (ltb (n % 0x10000) 0x80) _ e in
    let last = and_right (ltb (n / 0x10000 % 0x10000) 0x80) _ later in
    record {
      first = ltb-true _ _ (and_left (ltb (n % 0x10000) 0x80) _ e);
      second = ltb-true _ _ (and_left (ltb (n / 0x10000 % 0x10000) 0x80) _ later);
      third = ltb-true _ _ (and_left (ltb (n / 0x100000000 % 0x10000) 0x80) _ last);
      fourth = ltb-true _ _ (and_right (ltb (n / 0x100000000 % 0x10000) 0x80) _ last);
    }

-- four units that are joined to a number, out of it again
apart : (a b c d : ℕ) {n : ℕ} → a < 0x10000 → b < 0x10000 → c < 0x10000 → d < 0x10000
    → n ≡ (a + b * 0x10000) + (c + d * 0x10000) * 0x100000000
    → ((n % 0x10000 ≡ a) × (n / 0x10000 % 0x10000 ≡ b)) × ((n / 0x100000000 % 0x10000 ≡ c) × (n / 0x1000000000000 % 0x10000 ≡ d))
apart a b c d p q r t e = ((omega arith, omega arith), (omega arith, omega arith))

-- the four units of eight bytes, each as it is read by itself
pub record Units (s : List ℕ) (o n : ℕ) : Type 0 where
  pub first : n % 0x10000 ≡ le_at 2 s o
  pub second : n / 0x10000 % 0x10000 ≡ le_at 2 s (o + 2)
  pub third : n / 0x100000000 % 0x10000 ≡ le_at 2 s (o + 2 + 2)
  pub fourth : n / 0x1000000000000 % 0x10000 ≡ le_at 2 s (o + 2 + 2 + 2)

pub eight-units : (s : List ℕ) (o : ℕ) {n : ℕ} → ((i : ℕ) → get_or s i 0 < 256) → o + 8 ≤ length s → n ≡ le_at 8 s o → Units s o n
eight-units s o {n} bytes h e =
    let half : o + 4 ≡ o + 2 + 2 = omega arith in
    let low = read_join 2 s o (omega arith) refl refl in
    let high : le_at 2 s (o + 2 + 2) + le_at 2 s (o + 2 + 2 + 2) * 0x10000 ≡ le_at 4 s (o + 4) = rw half (read_join 2 s (o + 2 + 2) (omega arith) refl refl) in
    let whole = read_join 4 s o h low high in
    let small : (i : ℕ) → le_at 2 s i < 0x10000 = λ i. read-lt 2 s i bytes in
    let ((a, b), (c, d)) = apart _ _ _ _ (small o) (small (o + 2)) (small (o + 2 + 2)) (small (o + 2 + 2 + 2)) (e ∙ sym whole) in
    record { first = a; second = b; third = c; fourth = d }

-- a read of a part of just eight bytes
pub eight-part : (s : List ℕ) (o : ℕ) {n : ℕ} → o + 8 ≤ length s → n ≡ le_at 8 (take (o + 8 - o) (drop o s)) 0 → n ≡ le_at 8 s o
eight-part s o h e =
    let size : o + 8 - o ≡ 8 = omega arith in
    rw size at e ∙ read-part s o 8 8 0 h (omega arith) ∙ rw add-zero
