-- The test of a name's place, and of all names' places, by its ways out. Assumes nothing.
use Prim.Native.Nat.{ℕ, zero, suc, ◌+◌, ◌-◌, ◌≤◌, ◌<◌}
use mathlib.Core.Path.{◌≡◌, refl, ap, sym, ◌∙◌}
use mathlib.Core.List.{[], ◌∷◌}
use mathlib.Core.Bool.{Bool, true, false, ◌&&◌, and-true}
use native.Mathlib.Omega.{arith}
use native.Mathlib.Nat.{sub-zero}
use borrow.Author.Tests.{lt-leb}
use lib.Dec.{leb}
use Rattle.base.specs.Lists.{every, rows}
use Rattle.base.proofs.ChoiceLaws.{and_left, and_right}
use Rattle.entry_slots.specs.Names.{Lengths, length_of, inside, all_inside}
use Rattle.entry_slots.specs.declared.NamePlace.{NamePlace}
use Rattle.entry_slots.proofs.TestLaws.{from-here, leb-sub}
use Rattle.base.proofs.RowLaws.{rows_next, rows_end}

module _ (ls : Lengths) (p : NamePlace) {end : ℕ} (e : end ≡ length_of ls p.source) where
  pub inside-long : end < p.length → false ≡ inside ls p
  unfolding inside
  inside-long h = sym (rw (← e) (lt-leb (p.offset + p.length) end (omega arith)))

  pub inside-else : p.length ≤ end → leb p.offset (end - p.length) ≡ inside ls p
  unfolding inside
  inside-else h = rw (← e) (leb-sub p.offset p.length end h)

-- a loop over the rows of a list has passed those below i of n: a test holds of all exactly if it holds of those left
pub record Passing {A : Type 0} (test : A → Bool) (f : ℕ → A) (i n : ℕ) : Type 0 where
  pub near : i ≤ n
  pub rest : every test (rows f 0 n) ≡ every test (rows f i (n - i))

pub passing-start : {A : Type 0} (test : A → Bool) (f : ℕ → A) (n : ℕ) → Passing test f 0 n
passing-start test f n = record { near = omega arith; rest = rw sub-zero }

module _ {A : Type 0} {test : A → Bool} {f : ℕ → A} {i n : ℕ} (w : Passing test f i n) where
  next : {p : A} {b : Bool} → i < n → p ≡ f i → b ≡ test p → every test (rows f 0 n) ≡ (b && every test (rows f (i + 1) (n - (i + 1))))
  unfolding every
  next h e t = w.rest ∙ ap (every test) (rows_next f i n h) ∙ rw (t, e)

  pub passing-row : {p : A} {b : Bool} → i < n → p ≡ f i → b ≡ test p → b ≡ true → Passing test f (i + 1) n
  passing-row h e t y = record { near = omega arith; rest = next h e (sym y ∙ t) }

  pub passing-outside : {p : A} {b : Bool} → i < n → p ≡ f i → b ≡ test p → b ≡ false → false ≡ every test (rows f 0 n)
  passing-outside h e t y = sym (next h e (sym y ∙ t))

  pub passing-end : n ≤ i → true ≡ every test (rows f 0 n)
  unfolding every
  passing-end h = sym (w.rest ∙ ap (every test) (rows_end f i n h))

-- where it holds of all, it holds of each
pub every-at : {A : Type 0} (test : A → Bool) (f : ℕ → A) (i n m : ℕ) → every test (rows f i n) ≡ true → i ≤ m → m < i + n → test (f m) ≡ true
unfolding every rows
every-at test f i zero m e x y = absurd (omega arith)
every-at test f i (suc n) m e x y =
    let first : test (f i) ≡ true = and_left (test (f i)) (every test (rows f (i + 1) n)) e in
    let rest : every test (rows f (i + 1) n) ≡ true = and_right (test (f i)) (every test (rows f (i + 1) n)) e in
    from-here (λ q. test (f q) ≡ true) i m first (λ l. every-at test f (i + 1) n m rest l (omega arith)) x

-- and where it holds of each, it holds of all
pub at_every : {A : Type 0} (test : A → Bool) (f : ℕ → A) (i n : ℕ) → ((m : ℕ) → i ≤ m → m < i + n → test (f m) ≡ true) → every test (rows f i n) ≡ true
unfolding every rows
at_every test f i zero h = refl
at_every test f i (suc n) h =
    rw (h i (omega arith) (omega arith), at_every test f (i + 1) n (λ m x y. h m (omega arith) (omega arith)))

pub all-inside-at : (ls : Lengths) (f : ℕ → NamePlace) (i n m : ℕ) → all_inside ls (rows f i n) ≡ true → i ≤ m → m < i + n → inside ls (f m) ≡ true
all-inside-at ls f i n m = every-at (inside ls) f i n m

-- one name alone
pub one_inside : (ls : Lengths) (p : NamePlace) {b b' : Bool} → b ≡ inside ls p → b ≡ b' → all_inside ls (p ∷ []) ≡ b'
unfolding every
one_inside ls p t y = rw (← t, y) (and-true _)
