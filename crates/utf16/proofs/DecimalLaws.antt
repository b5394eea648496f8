-- The digits of a number: they do not depend on the fuel, and are those of its tenth and the last. Assumes nothing.
use Prim.Native.Nat.{ℕ, zero, suc, ◌+◌, ◌*◌, ◌/◌, ◌%◌, ◌^◌, ◌≤◌, ◌<◌}
use native.Mathlib.Nat.{pow-succ', one-le-pow}
use mathlib.Core.Path.{◌≡◌, refl, ap, ◌∙◌}
use mathlib.Core.List.{List, [], ◌∷◌, ◌++◌}
use native.Mathlib.Omega.{arith}
use borrow.Author.Tests.{lt-ltb, le-ltb, ltb-false}
use lib.ListN.{length, length-append, set}
use lib.Dec.{ltb}
use Rattle.base.proofs.ChoiceLaws.{cond_cases, cond-two}
use Rattle.utf16.specs.Decimal.{digit, digits, decimal}
use Rattle.utf16.proofs.PutLaws.{Put, put_as, put-room, put_then}

-- any fuel from n on gives the same digits
digits_same : (j k n : ℕ) → n ≤ j → n ≤ k → digits j n ≡ digits k n
unfolding digits
digits_same zero zero n g h = refl
digits_same zero (suc k) n g h = let z : n ≡ 0 = omega arith in rw z
digits_same (suc j) zero n g h = let z : n ≡ 0 = omega arith in rw z
digits_same (suc j) (suc k) n g h =
    cond-two (λ (xs ys : List ℕ). xs ≡ ys) (ltb n 10) (λ _. refl) λ e.
    let m : 10 ≤ n = ltb-false n 10 e in
    ap (λ (ds : List ℕ). ds ++ (digit (n % 10) ∷ [])) (digits_same j k (n / 10) (omega arith) (omega arith))

digits-one : (k n : ℕ) → n < 10 → digits k n ≡ digit n ∷ []
unfolding digits
digits-one zero n h = let e : n % 10 ≡ n = omega arith in rw e
digits-one (suc k) n h = simp (lt-ltb n 10 h)

digits_more : (k n : ℕ) → 10 ≤ n → n ≤ k → digits k n ≡ digits (n / 10) (n / 10) ++ (digit (n % 10) ∷ [])
unfolding digits
digits_more zero n h g = absurd (omega arith)
digits_more (suc k) n h g = simp (le-ltb n 10 h) (rw (digits_same k (n / 10) (n / 10) (omega arith) (omega arith)))

digits-most : (k n : ℕ) → length (digits k n) ≤ k + 1
unfolding digits
digits-most zero n = omega arith
digits-most (suc k) n =
    cond_cases (λ (ds : List ℕ). length ds ≤ suc k + 1) (ltb n 10) (λ _. omega arith)
    (λ _. simp length-append (omega (arith, digits-most k (n / 10))))

-- one digit; more than one; at most one more than the value
pub decimal-one : (n : ℕ) → n < 10 → decimal n ≡ digit n ∷ []
decimal-one n h = digits-one n n h

pub decimal-more : (n : ℕ) → 10 ≤ n → decimal n ≡ decimal (n / 10) ++ (digit (n % 10) ∷ [])
decimal-more n h = digits_more n n h (omega arith)

pub decimal-most : (n : ℕ) → length (decimal n) ≤ n + 1
decimal-most n = digits-most n n

pub decimal-next : (n : ℕ) → 10 ≤ n → length (decimal n) ≡ length (decimal (n / 10)) + 1
decimal-next n h = ap length (decimal-more n h) ∙ length-append (decimal (n / 10)) (digit (n % 10) ∷ [])

-- the digits of the tenth are written: the last digit has room, and with it all digits are written
module _ (l : List ℕ) (i n : ℕ) {m : List ℕ} {r : ℕ} (more : 10 ≤ n) (p : Put l m i r (decimal (n / 10))) where
  pub last-room : i + length (decimal n) ≤ length l → r < length m
  last-room h = omega (arith, put-room l i (decimal (n / 10)) (digit (n % 10) ∷ []) p (rw (decimal-more n more) at h))

  pub put_last : Put l (set m r (digit (n % 10))) i (r + 1) (decimal n)
  put_last = put_as l i (decimal-more n more) (put_then l i (decimal (n / 10)) (digit (n % 10) ∷ []) p (record { value = refl; text_after = refl }))

-- from a power of ten on, and below the next, a number has a digit more than the power
pub digits-at : (k n : ℕ) → 10 ^ k ≤ n → n < 10 * 10 ^ k → length (decimal n) ≡ k + 1
digits-at zero n g h = ap length (decimal-one n (omega arith))
digits-at (suc k) n g h =
    let p : 10 ^ suc k ≡ 10 * 10 ^ k = pow-succ' 10 k in
    let one : 1 ≤ 10 ^ k = one-le-pow k 10 (omega arith) in
    omega (arith, decimal-next n (omega arith), digits-at k (n / 10) (omega arith) (omega arith))
