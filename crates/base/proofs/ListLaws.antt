-- A loop that stores rows of k words from the front of a lent list: what it holds to, and its turns. Assumes nothing.
use Prim.Native.Nat.{ℕ, suc, ◌+◌, ◌*◌, ◌/◌, ◌≤◌, ◌<◌}
use mathlib.Core.Path.{◌≡◌, refl, ap, sym, ◌∙◌}
use mathlib.Core.List.{List, [], ◌∷◌, ◌++◌}
use native.Mathlib.Nat.{zero-add, add-zero, add-suc, suc-add, mul-zero, mul-suc, mul-le-mul_left, mul-div-le, le_trans}
use native.Mathlib.Numerals.{add-one}
use native.Mathlib.Omega.{arith}
use lib.ListN.{length, length-append, length-set, set, get_or, drop}
use lib.Seq.{sets, sets-eq, length-sets, drop-cons, drop-length}
use Rattle.base.specs.Lists.{flatten, overwrite}

-- stores of one row and then another
pub sets-append : (l : List ℕ) (i : ℕ) (xs ys : List ℕ) → sets l i (xs ++ ys) ≡ sets (sets l i xs) (i + length xs) ys
sets-append l i [] ys = rw add-zero
sets-append l i (x ∷ xs) ys = rw (add-suc, ← suc-add) (sets-append (set l i x) (suc i) xs ys)

-- stores from the front leave the rest
pub sets-front : (l vs : List ℕ) → length vs ≤ length l → sets l 0 vs ≡ overwrite l vs
sets-front l vs h = sets-eq vs l 0 (rw zero-add h) ∙ rw zero-add

-- The list was l₀ and is l, the next index is i, and of all the things those of todo are still to be stored: what the loop goes
-- on to store ends in what all of them would have from the start.
pub record Writing {A : Type 0} (words : A → List ℕ) (k : ℕ) (l₀ l : List ℕ) (i : ℕ) (todo all : List A) : Type 0 where
  pub ends : sets l i (flatten words todo) ≡ sets l₀ 0 (flatten words all)
  pub same : length l ≡ length l₀
  pub count : i + k * length todo ≡ k * length all

pub writing_start : {A : Type 0} (words : A → List ℕ) (k : ℕ) (l : List ℕ) (all : List A) → Writing words k l l 0 all all
writing_start words k l all = record { ends = refl; same = refl; count = rw zero-add }

pub writing-skip : {A : Type 0} {words : A → List ℕ} {k : ℕ} {l₀ l : List ℕ} {i : ℕ} {todo rest all : List A}
    → Writing words k l₀ l i todo all → todo ≡ rest → Writing words k l₀ l i rest all
writing-skip w e = rw e at w

module _ {A : Type 0} (words : A → List ℕ) (k : ℕ) (rows : (x : A) → length (words x) ≡ k) where
  pub length-flatten : (xs : List A) → length (flatten words xs) ≡ k * length xs
  length-flatten [] = rw mul-zero
  length-flatten (x ∷ xs) = simp (length-append, rows x, length-flatten xs, mul-suc) (omega arith)

  -- as many rows as the list has room for lie inside it
  pub rows_inside : (xs : List A) (n : ℕ) → length xs ≤ n / k → length (flatten words xs) ≤ n
  rows_inside xs n h = rw (length-flatten xs) (le_trans (mul-le-mul_left k h) (mul-div-le n k))

  module _ {l₀ l : List ℕ} {i : ℕ} {todo all : List A} (w : Writing words k l₀ l i todo all) where
    row_count : {x : A} {rest : List A} → todo ≡ x ∷ rest → i + (k * length rest + k) ≡ k * length all
    row_count {x} {rest} e = ap (λ (n : ℕ). i + n) (sym (mul-suc k (length rest)) ∙ ap (λ (xs : List A). k * length xs) (sym e)) ∙ w.count

    -- a row that is still to be stored has room
    pub writing-room : {x : A} {rest : List A} → todo ≡ x ∷ rest → length all ≤ length l₀ / k → i + k ≤ length l
    writing-room e h = omega (arith, row_count e, w.same, mul-le-mul_left k h, mul-div-le (length l₀) k)

    pub writing-row : {l' : List ℕ} {x : A} {rest : List A} → todo ≡ x ∷ rest → l' ≡ sets l i (words x) → Writing words k l₀ l' (i + k) rest all
    writing-row {l'} {x} {rest} e f =
        record {
          ends =
              rw f
              (ap (λ (n : ℕ). sets (sets l i (words x)) (i + n) (flatten words rest)) (sym (rows x))
              ∙ sym (sets-append l i (words x) (flatten words rest))
              ∙ ap (λ (xs : List A). sets l i (flatten words xs)) (sym e)
              ∙ w.ends);
          same = rw f (length-sets l i (words x) ∙ w.same);
          count = omega (arith, row_count e);
        }

    -- once nothing is left to store, the list holds all rows in front
    pub writing-end : todo ≡ [] → length all ≤ length l₀ / k → l ≡ overwrite l₀ (flatten words all)
    writing-end e h = ap (λ (xs : List A). sets l i (flatten words xs)) (sym e) ∙ w.ends ∙ sets-front l₀ (flatten words all) (rows_inside all (length l₀) h)

-- A loop that copies all items into a list that was l₀, from i on, and has copied k of them: what it goes on to store ends in all of them.
pub record Copying {A : Type 0} (items l₀ l : List A) (i k : ℕ) : Type 0 where
  pub ends : sets l (i + k) (drop k items) ≡ sets l₀ i items
  pub same : length l ≡ length l₀
  pub near : k ≤ length items

pub copying-start : {A : Type 0} (items l : List A) (i : ℕ) → Copying items l l i 0
copying-start items l i = record { ends = rw add-zero; same = refl; near = omega arith }

module _ {A : Type 0} {items l₀ l : List A} {i k : ℕ} (w : Copying items l₀ l i k) where
  pub copying-word : (d : A) → k < length items → Copying items l₀ (set l (i + k) (get_or items k d)) i (k + 1)
  copying-word d h =
      record {
        ends =
            rw (add-one k, add-suc i k)
            (ap (λ (xs : List A). sets l (i + k) xs) (sym (drop-cons items k d h)) ∙ w.ends);
        same = length-set l (i + k) (get_or items k d) ∙ w.same;
        near = omega arith;
      }

  pub copying-end : length items ≤ k → l ≡ sets l₀ i items
  copying-end h =
      let e : k ≡ length items = omega (arith, w.near) in
      ap (λ (xs : List A). sets l (i + k) xs) (sym (drop-length items) ∙ ap (λ (n : ℕ). drop n items) (sym e)) ∙ w.ends
