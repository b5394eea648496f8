-- The index is made from the last used slot to the first. Assumes nothing.
use Prim.Native.Nat.{ℕ, suc, ◌+◌, ◌-◌, ◌≤◌, ◌<◌}
use mathlib.Core.Path.{◌≡◌, refl, ap, sym, ◌∙◌, subst}
use mathlib.Core.List.{List}
use mathlib.Core.Bool.{Bool, true, false}
use native.Mathlib.Omega.{arith}
use native.Mathlib.Numerals.{add-one}
use borrow.Author.Tests.{eq-eqb, ne_eqb, eqb-true, eqb-false}
use lib.ListN.{length, get_or, set, replicate, length-set, length-replicate, get_or-replicate}
use lib.Seq.{get_or-set_same, get_or-set_other}
use lib.Dec.{eqb}
use Rattle.entry_slots.specs.Slots.{key_at}
use Rattle.entry_slots.specs.Table.{Table}
use Rattle.entry_slots.specs.declared.EntryKey.{EntryKey}
use Rattle.entry_slots.specs.Index.{hash, first_link, next_of}
use Rattle.entry_slots.proofs.IndexLaws.{hash-below, Links}
use Rattle.entry_slots.proofs.ProbeLaws.{hash_at}

-- a slot of the hash is the first, and one of another hash is passed over
pub first-here : (m : ℕ) (s : List ℕ) (h i n : ℕ) → hash_at m s i ≡ h → first_link m s h i (suc n) ≡ suc i
unfolding first_link
first-here m s h i n e = rw (first_link, eq-eqb (hash_at m s i) h e)

pub first_on : (m : ℕ) (s : List ℕ) (h i n : ℕ) → (hash_at m s i ≡ h → ⊥) → first_link m s h i (suc n) ≡ first_link m s h (i + 1) n
unfolding first_link
first_on m s h i n e = rw (first_link, ne_eqb (hash_at m s i) h e)

-- no slot is left from the last used one on
pub first-end : (m : ℕ) (s : List ℕ) (h i n : ℕ) → n ≤ 0 → first_link m s h i n ≡ 0
unfolding first_link
first-end m s h i n e = let z : n ≡ 0 = omega arith in rw z

-- words that are all 0
pub length-zeros : {w : List ℕ} (n : ℕ) → w ≡ replicate n 0 → length w ≡ n
length-zeros n e = ap length e ∙ length-replicate n 0

zero-at : {w : List ℕ} (n : ℕ) → w ≡ replicate n 0 → (i : ℕ) → i < n → get_or w i 0 ≡ 0
zero-at n e i h = ap (λ (z : List ℕ). get_or z i 0) e ∙ get_or-replicate n i 0 0 h

-- what the loop keeps: the links are right for the slots from i on
pub record Built (m : ℕ) (t : Table) (nexts₀ heads nexts : List ℕ) (i : ℕ) : Type 0 where
  pub some : 0 < m
  pub near : i ≤ t.used
  pub room : t.used ≤ length nexts
  pub many : length heads ≡ m
  pub long : length nexts ≡ length nexts₀
  pub head : (h : ℕ) → h < m → get_or heads h 0 ≡ first_link m t.words h i (t.used - i)
  pub next : (j : ℕ) → i ≤ j → j < length nexts → get_or nexts j 0 ≡ next_of m t j

pub built-none : {m n : ℕ} (t : Table) {heads nexts : List ℕ} → 0 < m → t.used ≤ n → heads ≡ replicate m 0 → nexts ≡ replicate n 0 → Built m t nexts heads nexts t.used
built-none {m} {n} t {heads} {nexts} some room x y =
    record {
      some = some;
      near = omega arith;
      room = omega (arith, length-zeros n y);
      many = length-zeros m x;
      long = refl;
      head = λ h g. zero-at m x h g ∙ sym (first-end m t.words h t.used (t.used - t.used) (omega arith));
      next = λ j g k. zero-at n y j (omega (arith, length-zeros n y)) ∙ sym (first-end m t.words (hash_at m t.words j) (j + 1) (t.used - (j + 1)) (omega arith));
    }

module _ {m : ℕ} {t : Table} {nexts₀ heads nexts : List ℕ} {i : ℕ} (x : Built m t nexts₀ heads nexts i) where
  pub built-below : {b : ℕ} (k : EntryKey) → b ≡ hash m k → b < length heads
  built-below k e = rw (e, x.many) (hash-below m k x.some)

  -- slot p, before the ones that are linked, becomes the first of its hash
  pub built-more : {b : ℕ} (p : ℕ) (k : EntryKey) → i ≡ p + 1 → k ≡ key_at t.words p → b ≡ hash m k
      → Built m t nexts₀ (set heads b (p + 1)) (set nexts p (get_or heads b 0)) p
  built-more {b} p k at e f =
      record {
        some = x.some;
        near = omega (arith, x.near);
        room = omega (arith, x.room, length-set nexts p (get_or heads b 0));
        many = length-set heads b (p + 1) ∙ x.many;
        long = length-set nexts p (get_or heads b 0) ∙ x.long;
        head = λ h g. go-head h g (eqb b h) refl;
        next = λ j g k. go-next j g (omega (arith, length-set nexts p (get_or heads b 0))) (eqb p j) refl;
      }
    where
      d : b ≡ hash_at m t.words p
      d = f ∙ ap (hash m) e

      below : b < m
      below = rw f (hash-below m k x.some)

      n : t.used - p ≡ suc (t.used - (p + 1))
      n = omega (arith, x.near)

      before : (h : ℕ) → h < m → get_or heads h 0 ≡ first_link m t.words h (p + 1) (t.used - (p + 1))
      before h g = x.head h g ∙ ap (λ (j : ℕ). first_link m t.words h j (t.used - j)) at

      go-head : (h : ℕ) → h < m → (c : Bool) → eqb b h ≡ c → get_or (set heads b (p + 1)) h 0 ≡ first_link m t.words h p (t.used - p)
      go-head h g true c =
          let z : b ≡ h = eqb-true b h c in
          rw (n, ← z) (get_or-set_same heads b (p + 1) 0 (omega (arith, x.many, below)) ∙ add-one p ∙ sym (first-here m t.words b p (t.used - (p + 1)) (sym d)))
      go-head h g false c =
          let z = eqb-false b h c in
          rw n (get_or-set_other heads b h (p + 1) 0 (λ y. z (sym y)) ∙ before h g ∙ sym (first_on m t.words h p (t.used - (p + 1)) (λ y. z (d ∙ y))))

      go-next : (j : ℕ) → p ≤ j → j < length nexts → (c : Bool) → eqb p j ≡ c → get_or (set nexts p (get_or heads b 0)) j 0 ≡ next_of m t j
      go-next j g k true c =
          let z : p ≡ j = eqb-true p j c in
          subst (λ (a : ℕ). get_or (set nexts p (get_or heads b 0)) a 0 ≡ next_of m t a) z
          (get_or-set_same nexts p (get_or heads b 0) 0 (omega (arith, x.room, x.near)) ∙ before b below ∙ ap (λ (h : ℕ). first_link m t.words h (p + 1) (t.used - (p + 1))) d)
      go-next j g k false c =
          let z = eqb-false p j c in
          get_or-set_other nexts p j (get_or heads b 0) 0 (λ y. z (sym y)) ∙ x.next j (omega arith) k

  pub built-all : i ≤ 0 → Links m t heads nexts
  built-all h =
      let z : i ≡ 0 = omega arith in
      let n : t.used - 0 ≡ t.used = omega arith in
      record {
        some = x.some;
        many = x.many;
        head = λ j g. x.head j g ∙ ap (λ (a : ℕ). first_link m t.words j a (t.used - a)) z ∙ ap (first_link m t.words j 0) n;
        next = λ j g. x.next j (omega arith) g;
      }
