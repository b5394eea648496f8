-- The links after a change of the table: a slot that keeps its key keeps its links, and a new slot is linked behind the last one of its hash.
-- Assumes nothing.
use Prim.Native.Nat.{ℕ, zero, suc, ◌+◌, ◌-◌, ◌≤◌, ◌<◌}
use mathlib.Core.Path.{◌≡◌, refl, ap, sym, ◌∙◌, subst}
use mathlib.Core.List.{List}
use mathlib.Core.Bool.{Bool, true, false, cond}
use native.Mathlib.Omega.{arith}
use native.Mathlib.Numerals.{add-one}
use borrow.Author.Tests.{eq-eqb, ne_eqb, eqb-true, eqb-false, ltb-true, ltb-false}
use lib.ListN.{length, get_or, set, length-set}
use lib.Seq.{get_or-set_same, get_or-set_other}
use lib.Dec.{eqb, ltb}
use Rattle.entry_slots.specs.Slots.{key_at}
use Rattle.entry_slots.specs.Table.{Table, table}
use Rattle.entry_slots.specs.declared.EntryKey.{EntryKey}
use Rattle.entry_slots.proofs.TestLaws.{from-here}
use Rattle.entry_slots.specs.Index.{hash, first_link, head_of, next_of}
use Rattle.entry_slots.specs.Probing.{following, LinkOf, LastOf, heads_linked, nexts_linked}
use Rattle.entry_slots.proofs.IndexLaws.{Links}
use Rattle.entry_slots.proofs.ProbeLaws.{hash_at}
use Rattle.entry_slots.proofs.BuildLaws.{first-here, first_on, first-end}

-- slots with the same keys have the same links
first-same : (m : ℕ) (s s' : List ℕ) (h i n : ℕ) → ((j : ℕ) → key_at s' j ≡ key_at s j) → first_link m s' h i n ≡ first_link m s h i n
unfolding first_link
first-same m s s' h i zero f = refl
first-same m s s' h i (suc n) f =
    ap (λ (k : EntryKey). cond (eqb (hash m k) h) (suc i) (first_link m s' h (i + 1) n)) (f i)
    ∙ ap (λ (l : ℕ). cond (eqb (hash_at m s i) h) (suc i) l) (first-same m s s' h (i + 1) n f)

pub links-same : {m : ℕ} {t : Table} {heads nexts : List ℕ} (s' : List ℕ) → Links m t heads nexts → ((j : ℕ) → key_at s' j ≡ key_at t.words j) → Links m (table s' t.used) heads nexts
links-same {m} {t} s' x f =
    record {
      some = x.some;
      many = x.many;
      head = λ h g. x.head h g ∙ sym (first-same m t.words s' h 0 t.used f);
      next = λ i g.
          x.next i g
          ∙ sym (ap (λ (k : EntryKey). first_link m s' (hash m k) (i + 1) (t.used - (i + 1))) (f i) ∙ first-same m t.words s' (hash_at m t.words i) (i + 1) (t.used - (i + 1)) f);
    }

-- a hash that has no link is that of no slot
first-none : (m : ℕ) (s : List ℕ) (h i n : ℕ) → first_link m s h i n ≡ 0 → (j : ℕ) → i ≤ j → j < i + n → hash_at m s j ≡ h → ⊥
unfolding first_link
first-none m s h i zero e j a b = absurd (omega arith)
first-none m s h i (suc n) e j a b = go (eqb (hash_at m s i) h) refl e (first-none m s h (i + 1) n)
  where
    go : (c : Bool) → eqb (hash_at m s i) h ≡ c → cond c (suc i) (first_link m s h (i + 1) n) ≡ 0
        → (first_link m s h (i + 1) n ≡ 0 → (j : ℕ) → i + 1 ≤ j → j < i + 1 + n → hash_at m s j ≡ h → ⊥) → hash_at m s j ≡ h → ⊥
    go true x e ih = absurd (omega arith)
    go false x e ih = from-here (λ q. hash_at m s q ≡ h → ⊥) i j (eqb-false _ _ x) (λ l. ih e j l (omega arith)) a

-- the first of two links that is one
abbrev or_else : ℕ → ℕ → ℕ
or_else zero l = l
or_else (suc i) l = suc i

or-none : (l : ℕ) → or_else l 0 ≡ l
or-none zero = refl
or-none (suc l) = refl

or_some : (l n : ℕ) → (l ≡ 0 → ⊥) → or_else l n ≡ l
or_some zero n h = absurd (h refl)
or_some (suc l) n h = refl

-- one slot more, whose key has the hash g
module _ (m : ℕ) (s s' : List ℕ) (used g : ℕ) (kept : (j : ℕ) → j < used → key_at s' j ≡ key_at s j) (new : hash_at m s' used ≡ g) where
  abbrev tip : ℕ → ℕ
  tip h = cond (eqb g h) (suc used) 0

  same : (j : ℕ) → j < used → hash_at m s' j ≡ hash_at m s j
  same j h = ap (hash m) (kept j h)

  first_more : (h i n : ℕ) → i + n ≡ used → first_link m s' h i (suc n) ≡ or_else (first_link m s h i n) (tip h)
  unfolding first_link
  first_more h i zero e =
      let z : i ≡ used = omega arith in
      rw (z, ← new)
  first_more h i (suc n) e = go (eqb (hash_at m s i) h) refl (first_more h (i + 1) n (omega arith))
    where
      go : (b : Bool) → eqb (hash_at m s i) h ≡ b → first_link m s' h (i + 1) (suc n) ≡ or_else (first_link m s h (i + 1) n) (tip h)
          → first_link m s' h i (suc (suc n)) ≡ or_else (cond b (suc i) (first_link m s h (i + 1) n)) (tip h)
      go true x ih = first-here m s' h i (suc n) (same i (omega arith) ∙ eqb-true _ _ x)
      go false x ih = first_on m s' h i (suc n) (λ y. eqb-false _ _ x (sym (same i (omega arith)) ∙ y)) ∙ ih

  head_more : (h : ℕ) → head_of m (table s' (used + 1)) h ≡ or_else (head_of m (table s used) h) (tip h)
  head_more h = ap (first_link m s' h 0) (add-one used) ∙ first_more h 0 used (omega arith)

  next_more : (j : ℕ) → j < used → next_of m (table s' (used + 1)) j ≡ or_else (next_of m (table s used) j) (tip (hash_at m s j))
  next_more j l =
      let n : used + 1 - (j + 1) ≡ suc (used - (j + 1)) = omega arith in
      ap (λ (h : ℕ). first_link m s' h (j + 1) (used + 1 - (j + 1))) (same j l) ∙ ap (first_link m s' (hash_at m s j) (j + 1)) n ∙ first_more (hash_at m s j) (j + 1) (used - (j + 1)) (omega arith)

  -- past the slots that were used there is no next link, before and after
  next_past : (j : ℕ) → used ≤ j → next_of m (table s' (used + 1)) j ≡ next_of m (table s used) j
  next_past j l = first-end m s' (hash_at m s' j) (j + 1) (used + 1 - (j + 1)) (omega arith) ∙ sym (first-end m s (hash_at m s j) (j + 1) (used - (j + 1)) (omega arith))

  tip_other : (h : ℕ) → (h ≡ g → ⊥) → (l : ℕ) → or_else l (tip h) ≡ l
  tip_other h n l = rw (ne_eqb g h (λ e. n (sym e))) (or-none l)

  tip_same : (h : ℕ) → h ≡ g → or_else 0 (tip h) ≡ used + 1
  tip_same h e = rw (eq-eqb g h (sym e)) (sym (add-one used))

  module _ {heads nexts : List ℕ} (x : Links m (table s used) heads nexts) (below : g < m) (room : used < length nexts) where
    -- what holds of the slots that were used, and of those past them, holds of all
    each : (P : ℕ → Type 0) (j : ℕ) → (j < used → P j) → (used ≤ j → P j) → P j
    each P j before past = go (ltb j used) refl
      where
        go : (b : Bool) → ltb j used ≡ b → P j
        go true e = before (ltb-true j used e)
        go false e = past (ltb-false j used e)

    -- first where no slot has the hash
    links-first : head_of m (table s used) g ≡ 0 → Links m (table s' (used + 1)) (set heads g (used + 1)) nexts
    links-first none =
        record {
          some = x.some;
          many = length-set heads g (used + 1) ∙ x.many;
          head = λ h l. go-head h l (eqb h g) refl;
          next = λ j l.
              each (λ i. get_or nexts i 0 ≡ next_of m (table s' (used + 1)) i) j
              (λ b. x.next j l ∙ sym (next_more j b ∙ tip_other (hash_at m s j) (first-none m s g 0 used none j (omega arith) (omega arith)) (next_of m (table s used) j)))
              (λ p. x.next j l ∙ sym (next_past j p));
        }
      where
        go-head : (h : ℕ) → h < m → (b : Bool) → eqb h g ≡ b → get_or (set heads g (used + 1)) h 0 ≡ head_of m (table s' (used + 1)) h
        go-head h l true e =
            let z : h ≡ g = eqb-true h g e in
            rw z (get_or-set_same heads g (used + 1) 0 (omega (arith, x.many)) ∙ sym (head_more g ∙ ap (λ (n : ℕ). or_else n (tip g)) none ∙ tip_same g refl))
        go-head h l false e =
            let z = eqb-false h g e in
            get_or-set_other heads g h (used + 1) 0 z ∙ x.head h l ∙ sym (head_more h ∙ tip_other h z (head_of m (table s used) h))

    -- behind slot q, the last that has the hash
    links-behind : (q : ℕ) → q < used → hash_at m s q ≡ g → first_link m s g (q + 1) (used - (q + 1)) ≡ 0 → Links m (table s' (used + 1)) heads (set nexts q (used + 1))
    links-behind q lq hq none =
        record {
          some = x.some;
          many = x.many;
          head = λ h l. go-head h l (eqb h g) refl;
          next = λ j l. let k : j < length nexts = omega (arith, length-set nexts q (used + 1)) in
              each (λ i. get_or (set nexts q (used + 1)) i 0 ≡ next_of m (table s' (used + 1)) i) j
              (λ b. go-next j k b (eqb j q) refl (eqb (hash_at m s j) g) refl)
              (λ p. get_or-set_other nexts q j (used + 1) 0 (omega arith) ∙ x.next j k ∙ sym (next_past j p));
        }
      where
        go-head : (h : ℕ) → h < m → (b : Bool) → eqb h g ≡ b → get_or heads h 0 ≡ head_of m (table s' (used + 1)) h
        go-head h l true e =
            let z : h ≡ g = eqb-true h g e in
            x.head h l ∙ sym (head_more h ∙ or_some (head_of m (table s used) h) (tip h) (λ n. first-none m s h 0 used n q (omega arith) (omega arith) (hq ∙ sym z)))
        go-head h l false e = x.head h l ∙ sym (head_more h ∙ tip_other h (eqb-false h g e) (head_of m (table s used) h))

        -- another slot of the hash stands before the last
        earlier : (j : ℕ) → j < used → (j ≡ q → ⊥) → hash_at m s j ≡ g → j < q
        earlier j b n e = go (ltb j q) refl
          where
            go : (c : Bool) → ltb j q ≡ c → j < q
            go true y = ltb-true j q y
            go false y = let l : q ≤ j = ltb-false j q y in absurd (first-none m s g (q + 1) (used - (q + 1)) none j (omega arith) (omega arith) e)

        go-next : (j : ℕ) → j < length nexts → j < used → (b : Bool) → eqb j q ≡ b → (c : Bool) → eqb (hash_at m s j) g ≡ c
            → get_or (set nexts q (used + 1)) j 0 ≡ next_of m (table s' (used + 1)) j
        go-next j k b true e c y =
            let z : j ≡ q = eqb-true j q e in
            subst (λ (i : ℕ). get_or (set nexts q (used + 1)) i 0 ≡ next_of m (table s' (used + 1)) i) (sym z)
            (get_or-set_same nexts q (used + 1) 0 (omega arith)
            ∙ sym (next_more q lq ∙ ap (λ (n : ℕ). or_else n (tip (hash_at m s q))) (ap (λ (h : ℕ). first_link m s h (q + 1) (used - (q + 1))) hq ∙ none) ∙ tip_same (hash_at m s q) hq))
        go-next j k b false e true y =
            let z = eqb-false j q e in
            let h : hash_at m s j ≡ g = eqb-true _ _ y in
            let l : j < q = earlier j b z h in
            get_or-set_other nexts q j (used + 1) 0 z ∙ x.next j k
            ∙ sym (next_more j b ∙ or_some (next_of m (table s used) j) (tip (hash_at m s j)) (λ n. first-none m s (hash_at m s j) (j + 1) (used - (j + 1)) n q (omega arith) (omega arith) (hq ∙ sym h)))
        go-next j k b false e false y =
            get_or-set_other nexts q j (used + 1) 0 (eqb-false j q e) ∙ x.next j k ∙ sym (next_more j b ∙ tip_other (hash_at m s j) (eqb-false _ _ y) (next_of m (table s used) j))

    pub links-more : (last : ℕ) → LastOf m (table s used) g last → Links m (table s' (used + 1)) (heads_linked heads g last (used + 1)) (nexts_linked nexts last (used + 1))
    unfolding following LinkOf heads_linked nexts_linked
    links-more zero d = links-first d.none
    links-more (suc q) d =
        let e : suc q - 1 ≡ q = omega arith in
        let n : suc q ≡ 0 → ⊥ = λ z. omega arith in
        rw (heads_linked, nexts_linked, ne_eqb (suc q) 0 n, e) (links-behind q d.is.0 d.is.1 d.none)
