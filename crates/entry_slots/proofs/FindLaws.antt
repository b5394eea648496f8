-- The slot of a key: the lowest one that has it. Assumes nothing.
use Prim.Native.Nat.{ℕ, zero, suc, ◌+◌, ◌-◌, ◌≤◌, ◌<◌}
use mathlib.Core.Path.{◌≡◌, refl, ap, sym, ◌∙◌}
use mathlib.Core.List.{List}
use mathlib.Core.Bool.{Bool, true, false, cond, ◌&&◌}
use native.Mathlib.Omega.{arith}
use native.Mathlib.Nat.{add-zero}
use borrow.Author.Tests.{eq-eqb, eqb-true}
use lib.Dec.{eqb}
use Rattle.base.proofs.ChoiceLaws.{and_left, and_right}
use Rattle.entry_slots.specs.Slots.{same_key, key_at, find_from}
use Rattle.entry_slots.specs.declared.EntryKey.{EntryKey}
use Rattle.std.specs.Prelude.{Option, Some, None}
use Rattle.entry_slots.proofs.TestLaws.{from-here}

-- two keys compared field by field
pub fields-same : {x : Bool} (a b : EntryKey) → x ≡ (eqb a.entry b.entry && eqb a.sequence b.sequence) → x ≡ same_key a b
unfolding same_key
fields-same a b e = e

-- keys that are the same are equal
pub same-equal : (a b : EntryKey) → same_key a b ≡ true → a ≡ b
unfolding same_key
same-equal a b e =
    let p : a.entry ≡ b.entry = eqb-true _ _ (and_left (eqb a.entry b.entry) (eqb a.sequence b.sequence) e) in
    let q : a.sequence ≡ b.sequence = eqb-true _ _ (and_right (eqb a.entry b.entry) (eqb a.sequence b.sequence) e) in
    λ z. record { entry = p z; sequence = q z }

pub same_self : (a : EntryKey) → same_key a a ≡ true
unfolding same_key
same_self a = rw (eq-eqb a.entry a.entry refl, eq-eqb a.sequence a.sequence refl)

-- a loop over the slots has passed those below i of n: the key's slot is the lowest of those left that has it
pub record Finding (s : List ℕ) (k : EntryKey) (i n : ℕ) : Type 0 where
  pub near : i ≤ n
  pub rest : find_from s k 0 n ≡ find_from s k i (n - i)

module _ {s : List ℕ} {k : EntryKey} {i n : ℕ} (w : Finding s k i n) where
  next : {j : EntryKey} {b : Bool} → i < n → j ≡ key_at s i → b ≡ same_key j k → find_from s k 0 n ≡ cond b (Some i) (find_from s k (i + 1) (n - (i + 1)))
  unfolding find_from
  next h e t =
      let m : n - i ≡ suc (n - (i + 1)) = omega arith in
      w.rest ∙ rw (m, find_from, t, e)

  pub finding-slot : {j : EntryKey} {b : Bool} → i < n → j ≡ key_at s i → b ≡ same_key j k → b ≡ false → Finding s k (i + 1) n
  finding-slot h e t y = record { near = omega arith; rest = next h e (sym y ∙ t) }

  pub finding-found : {j : EntryKey} {b : Bool} → i < n → j ≡ key_at s i → b ≡ same_key j k → b ≡ true → Some i ≡ find_from s k 0 n
  finding-found h e t y = sym (next h e (sym y ∙ t))

  pub finding-end : n ≤ i → None ≡ find_from s k 0 n
  unfolding find_from
  finding-end h =
      let m : n - i ≡ 0 = omega arith in
      sym (w.rest ∙ rw (m, find_from))

-- slot j is the lowest of the n from i on that has the key
pub record Lowest (s : List ℕ) (k : EntryKey) (i n j : ℕ) : Type 0 where
  pub from : i ≤ j
  pub below : j < i + n
  pub has : same_key (key_at s j) k ≡ true
  pub lower : (m : ℕ) → i ≤ m → m < j → same_key (key_at s m) k ≡ false

-- a slot that is found is the lowest that has the key
pub find_at : (s : List ℕ) (k : EntryKey) (i n j : ℕ) → find_from s k i n ≡ Some j → Lowest s k i n j
unfolding find_from
find_at s k i zero j e = let z : ◌≡◌ {A = ℕ} 0 1 = cc in absurd (omega arith)
find_at s k i (suc n) j e = go (same_key (key_at s i) k) refl (find_at s k (i + 1) n j) e
  where
    go : (b : Bool) → same_key (key_at s i) k ≡ b → (find_from s k (i + 1) n ≡ Some j → Lowest s k (i + 1) n j)
        → cond b (Some i) (find_from s k (i + 1) n) ≡ Some j → Lowest s k i (suc n) j
    go true h ih e =
        let z : i ≡ j = cc in
        record { from = omega arith; below = omega arith; has = rw (← z) h; lower = λ m x y. absurd (omega arith) }
    go false h ih e =
        let w : Lowest s k (i + 1) n j = ih e in
        record {
          from = omega arith;
          below = omega arith;
          has = w.has;
          lower = λ m x y. from-here (λ q. same_key (key_at s q) k ≡ false) i m h (λ l. w.lower m l y) x;
        }

-- where none is found, none has it
pub find-nothing : (s : List ℕ) (k : EntryKey) (i n : ℕ) → find_from s k i n ≡ None → (m : ℕ) → i ≤ m → m < i + n → same_key (key_at s m) k ≡ false
unfolding find_from
find-nothing s k i zero e m x y = absurd (omega arith)
find-nothing s k i (suc n) e m x y = go (same_key (key_at s i) k) refl (find-nothing s k (i + 1) n) e
  where
    go : (b : Bool) → same_key (key_at s i) k ≡ b
        → (find_from s k (i + 1) n ≡ None → (m : ℕ) → i + 1 ≤ m → m < i + 1 + n → same_key (key_at s m) k ≡ false)
        → cond b (Some i) (find_from s k (i + 1) n) ≡ None → same_key (key_at s m) k ≡ false
    go true h ih e = let z : ◌≡◌ {A = ℕ} 0 1 = cc in absurd (omega arith)
    go false h ih e = from-here (λ q. same_key (key_at s q) k ≡ false) i m h (λ l. ih e m l (omega arith)) x

-- slots with the same keys: a key stands in the same one
pub find-keys : (s t : List ℕ) (k : EntryKey) (i n : ℕ) → ((m : ℕ) → m < i + n → key_at t m ≡ key_at s m) → find_from t k i n ≡ find_from s k i n
unfolding find_from
find-keys s t k i zero h = refl
find-keys s t k i (suc n) h =
    ap (λ (j : EntryKey). cond (same_key j k) (Some i) (find_from t k (i + 1) n)) (h i (omega arith))
    ∙ ap (λ (f : Option ℕ). cond (same_key (key_at s i) k) (Some i) f) (find-keys s t k (i + 1) n (λ m l. h m (omega arith)))

-- one slot more: it counts where none before it has the key
abbrev pub or_at : Option ℕ → Option ℕ → Option ℕ
or_at (Some i) f = Some i
or_at None f = f

pub find-more : (s : List ℕ) (k : EntryKey) (i n : ℕ)
    → find_from s k i (suc n) ≡ or_at (find_from s k i n) (cond (same_key (key_at s (i + n)) k) (Some (i + n)) None)
unfolding find_from
find-more s k i zero = rw add-zero
find-more s k i (suc n) = go (same_key (key_at s i) k) (find-more s k (i + 1) n)
  where
    go : (b : Bool) → find_from s k (i + 1) (suc n) ≡ or_at (find_from s k (i + 1) n) (cond (same_key (key_at s (i + 1 + n)) k) (Some (i + 1 + n)) None)
        → cond b (Some i) (find_from s k (i + 1) (suc n))
        ≡ or_at (cond b (Some i) (find_from s k (i + 1) n)) (cond (same_key (key_at s (i + suc n)) k) (Some (i + suc n)) None)
    go true ih = refl
    go false ih = let m : i + suc n ≡ i + 1 + n = omega arith in rw m ih
