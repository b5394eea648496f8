-- The fields of a line, each written after the one before. Assumes nothing.
use Prim.Native.Nat.{ℕ, zero, suc, ◌+◌, ◌-◌, ◌/◌, ◌%◌, ◌^◌, ◌≤◌, ◌<◌}
use mathlib.Core.Path.{◌≡◌, refl, ap, sym, ◌∙◌}
use mathlib.Core.Bool.{Bool, true, false}
use mathlib.Core.List.{List, [], ◌∷◌, ◌++◌}
use native.Mathlib.Nat.{pow-succ'}
use native.Mathlib.Numerals.{unary_clauses}
use native.Mathlib.Omega.{arith}
use borrow.Author.Tests.{ltb-true, ltb-false}
use lib.Dec.{ltb}
use lib.ListN.{length, length-append}
use lib.Seq.{sets}
use Rattle.io.specs.Digits.{last_digits, hex_digit_ascii}
use Rattle.utf16.specs.Decimal.{decimal}
use Rattle.utf16.proofs.DecimalLaws.{decimal-one, decimal-next}
use Rattle.utf16.proofs.PutLaws.{Put, put_as, put_then}
use Rattle.usn_fields.specs.Line.{space, field, pair, hex_digits, hex_field}

-- a number below a power of ten has no more digits than the power
digits-most : (k n : ℕ) → n < 10 ^ suc k → length (decimal n) ≤ suc k
digits-most zero n h = omega (arith, ap length (decimal-one n (omega (arith, h))))
digits-most (suc k) n h = by (digits-most k) (ltb n 10) refl
  where
    by : ((m : ℕ) → m < 10 ^ suc k → length (decimal m) ≤ suc k) → (b : Bool) → ltb n 10 ≡ b → length (decimal n) ≤ suc (suc k)
    by ih true e = omega (arith, ap length (decimal-one n (ltb-true n 10 e)))
    by ih false e = omega (arith, decimal-next n (ltb-false n 10 e), ih (n / 10) (omega (arith, h, pow-succ' 10 (suc k))))

pub decimal-word : (n : ℕ) → n < 2 ^ 64 → length (decimal n) ≤ 20
decimal-word n h = digits-most 19 n (omega (arith, h))

-- what a field's writer ensures: vs, written over l from i on, leaves m and ends at r, no more than k further
abbrev pub Filled : ℕ → List ℕ → List ℕ → ℕ → ℕ → List ℕ → Type 0
Filled k l m i r vs = record { value : r ≡ i + length vs; text_after : m ≡ sets l i vs; upper_bound : r ≤ i + k }

pub fill-of : (k : ℕ) (l : List ℕ) (i : ℕ) (vs : List ℕ) {m : List ℕ} {r : ℕ} → Put l m i r vs → r ≤ i + k → Filled k l m i r vs
fill-of k l i vs p h = record { value = p.value; text_after = p.text_after; upper_bound = h }

-- what is written, without the bound on its length
pub put-of : (k : ℕ) (l : List ℕ) (i : ℕ) (vs : List ℕ) {m : List ℕ} {r : ℕ} → Filled k l m i r vs → Put l m i r vs
put-of k l i vs f = record { value = f.value; text_after = f.text_after }

-- a number's digits, and then a space
pub field-filled : (l : List ℕ) (i n : ℕ) {m o : List ℕ} {r q : ℕ} → n < 2 ^ 64 → Put l m i r (decimal n) → Put m o r q space
    → Filled 21 l o i q (field n)
unfolding field
field-filled l i n h p s = fill-of 21 l i (decimal n ++ space) (put_then l i (decimal n) space p s) (omega (arith, decimal-word n h, p.value, s.value))

pub pair-filled : (l : List ℕ) (i a b : ℕ) {m o : List ℕ} {r q : ℕ} → Filled 21 l m i r (field a) → Filled 21 m o r q (field b)
    → Filled 42 l o i q (pair a b)
unfolding pair
pair-filled l i a b {m} {o} {r} {q} f g =
    fill-of 42 l i (field a ++ field b) (put_then l i (field a) (field b) (put-of 21 l i (field a) f) (put-of 21 m r (field b) g)) (omega (arith, f.upper_bound, g.upper_bound))

-- hexadecimal digits: none, or those of a sixteenth and the last
pub hex-none : (n : ℕ) → hex_digits 0 n ≡ []
unfolding hex_digits
hex-none n = refl

pub hex-more : (k n : ℕ) → 0 < k → hex_digits k n ≡ hex_digits (k - 1) (n / 16) ++ (hex_digit_ascii (n % 16) ∷ [])
unfolding hex_digits
hex-more zero n h = absurd (omega arith)
hex-more (suc k) n h = simp unary_clauses refl

pub hex-length : (k n : ℕ) → length (hex_digits k n) ≡ k
unfolding hex_digits
hex-length zero n = refl
hex-length (suc k) n = length-append (last_digits 16 k (n / 16)) (hex_digit_ascii (n % 16) ∷ []) ∙ omega (arith, hex-length k (n / 16))

pub hex-put-none : (l : List ℕ) (i n : ℕ) {k : ℕ} → k ≡ 0 → Put l l i i (hex_digits k n)
hex-put-none l i n h = put_as l i (ap (λ (k : ℕ). hex_digits k n) h ∙ hex-none n) (record { value = omega arith; text_after = refl })

pub hex-put-last : (l : List ℕ) (i k n : ℕ) {m o : List ℕ} {r q d : ℕ} → 0 < k → Put l m i r (hex_digits (k - 1) (n / 16)) → d ≡ hex_digit_ascii (n % 16)
    → Put m o r q (d ∷ []) → Put l o i q (hex_digits k n)
hex-put-last l i k n {m} {o} {r} {q} {d} h p e s =
    put_as l i (hex-more k n h ∙ ap (λ (g : ℕ). hex_digits (k - 1) (n / 16) ++ (g ∷ [])) (sym e)) (put_then l i (hex_digits (k - 1) (n / 16)) (d ∷ []) p s)

pub hex-filled : (l : List ℕ) (i n : ℕ) {m o : List ℕ} {r q : ℕ} → Put l m i r (hex_digits 8 n) → Put m o r q space
    → Filled 9 l o i q (hex_field n)
unfolding hex_field
hex-filled l i n p s = fill-of 9 l i (hex_digits 8 n ++ space) (put_then l i (hex_digits 8 n) space p s) (omega (arith, hex-length 8 n, p.value, s.value))
