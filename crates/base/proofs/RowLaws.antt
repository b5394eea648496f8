-- What a function gives for numbers one after the other: what a loop over them passes, how many they are, which stands where, and such as are places.
-- Assumes nothing.
use Prim.Native.Nat.{ℕ, zero, suc, ◌+◌, ◌-◌, ◌≤◌, ◌<◌}
use mathlib.Core.Path.{◌≡◌, refl, ap, ◌∙◌}
use mathlib.Core.List.{List, [], ◌∷◌, map}
use mathlib.Core.Bool.{Bool, true, false}
use native.Mathlib.Omega.{arith}
use lib.ListN.{length, get_or}
use lib.Dec.{eqb}
use borrow.Author.Tests.{eqb-true, eqb-false}
use Rattle.base.specs.Lists.{rows}
use Rattle.base.specs.Masked.{Within, Apart, Masked}
use Rattle.base.specs.declared.Place.{Place}

-- the next row, and those after it
pub rows_next : {A : Type 0} (f : ℕ → A) (i n : ℕ) → i < n → rows f i (n - i) ≡ f i ∷ rows f (i + 1) (n - (i + 1))
unfolding rows
rows_next f i n h =
    let m : n - i ≡ suc (n - (i + 1)) = omega arith in
    rw (m, rows)

pub rows_end : {A : Type 0} (f : ℕ → A) (i n : ℕ) → n ≤ i → rows f i (n - i) ≡ []
unfolding rows
rows_end f i n h =
    let m : n - i ≡ 0 = omega arith in
    rw (m, rows)

-- what is taken of every row
pub map_rows : {A B : Type 0} (g : A → B) (f : ℕ → A) (i n : ℕ) → map g (rows f i n) ≡ rows (λ j. g (f j)) i n
unfolding rows
map_rows g f i zero = refl
map_rows g f i (suc n) = ap (λ (r : List _). g (f i) ∷ r) (map_rows g f (i + 1) n)

pub length-rows : {A : Type 0} (f : ℕ → A) (i n : ℕ) → length (rows f i n) ≡ n
unfolding rows
length-rows f i zero = refl
length-rows f i (suc n) = ap suc (length-rows f (i + 1) n)

-- the row of number k
pub rows_at : {A : Type 0} (f : ℕ → A) (i n k : ℕ) (d : A) → k < n → get_or (rows f i n) k d ≡ f (i + k)
unfolding rows
rows_at f i zero k d h = absurd (omega arith)
rows_at f i (suc n) zero d h = ap f (let z : i ≡ i + 0 = omega arith in z)
rows_at f i (suc n) (suc k) d h = rows_at f (i + 1) n k d (omega arith) ∙ ap f (let z : i + 1 + k ≡ i + suc k = omega arith in z)

-- j lies in none of these places where it lies in no single one
pub apart-rows : (f : ℕ → Place) (i n j : ℕ) → ((k : ℕ) → i ≤ k → k < i + n → Within (f k) j → ⊥) → Apart (rows f i n) j
unfolding rows
apart-rows f i zero j h = tt
apart-rows f i (suc n) j h = (h i (omega arith) (omega arith), apart-rows f (i + 1) n j (λ k a b. h k (omega arith) (omega arith)))

-- a place as places of one byte each: what lies in none of them does not lie in it
at-or-past : (o i : ℕ) → o ≤ i → (i ≡ o → ⊥) → (o + 1 ≤ i → ⊥) → (b : Bool) → eqb i o ≡ b → ⊥
at-or-past o i l h k true f = h (eqb-true i o f)
at-or-past o i l h k false f = let g = eqb-false i o f in k (omega arith)

bytes_apart : (o n i : ℕ) → Apart (rows (λ k. record { offset = k; length = 1 }) o n) i → o ≤ i → i < o + n → ⊥
unfolding rows
bytes_apart o zero i h l u = omega arith
bytes_apart o (suc n) i h l u =
    at-or-past o i l (λ e. h.0 (record { from = l; to = omega arith })) (λ k. bytes_apart (o + 1) n i h.1 k (omega arith)) (eqb i o) refl

pub masked-bytes : {s t : List ℕ} (o n : ℕ) → Masked s t (record { offset = o; length = n } ∷ [])
    → Masked s t (rows (λ k. record { offset = k; length = 1 }) o n)
masked-bytes o n m = record { long = m.long; same = λ i h. m.same i (λ w. bytes_apart o n i h w.from w.to, tt) }
