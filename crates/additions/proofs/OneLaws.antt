-- One addition that goes ahead: the table that it leaves, whose names are inside where they were and its own is, and how it is taken back.
-- Assumes nothing.
use Prim.Native.Nat.{ℕ, zero, suc, ◌+◌, ◌-◌, ◌*◌, ◌≤◌, ◌<◌}
use mathlib.Core.Path.{◌≡◌, refl, ap, sym, ◌∙◌}
use mathlib.Core.List.{List, [], ◌∷◌}
use mathlib.Core.Bool.{Bool, true, false, cond}
use native.Mathlib.Omega.{arith}
use native.Mathlib.Nat.{add-zero}
use borrow.Author.Tests.{ltb-true, ltb-false, eqb-true, eqb-false}
use lib.ListN.{length, get_or, set}
use lib.Seq.{sets, set-get_or, ext_get_or, length-sets}
use lib.Dec.{ltb, eqb}
use Rattle.base.specs.Outcome.{Outcome, refused, answered}
use Rattle.base.specs.Refusals.{table_full}
use Rattle.base.proofs.ChoiceLaws.{cond_cases}
use Rattle.entry_slots.specs.Names.{Lengths, inside, all_inside}
use Rattle.entry_slots.specs.Slots.{stride, slots_in, key_at, slot_name, info_at, slot_words, put_at, names_in}
use Rattle.entry_slots.specs.Table.{Table, table, find, slot_for, known, Addition, add}
use Rattle.additions.specs.Storing.{adding, used_after, words_after}
use Rattle.entry_slots.specs.declared.EntryKey.{EntryKey}
use Rattle.entry_slots.specs.declared.EntryInfo.{EntryInfo}
use Rattle.std.specs.Prelude.{Option, Some, None}
use Rattle.entry_slots.proofs.NameLaws.{all-inside-at, at_every}
use Rattle.entry_slots.proofs.PutLaws.{sets-before, sets-at, sets-after, put-info, put-info-other}
use Rattle.entry_slots.proofs.TableLaws.{find-used, used-added, length-added, by-find}
use Rattle.additions.proofs.StoringLaws.{adding-one, add-full}

-- stores of what stands there already, and stores over stores
sets_same : (vs l : List ℕ) (a : ℕ) → ((r : ℕ) → r < length vs → get_or vs r 0 ≡ get_or l (a + r) 0) → sets l a vs ≡ l
sets_same [] l a h = refl
sets_same (v ∷ vs) l a h =
    let first : v ≡ get_or l a 0 = h 0 (omega arith) ∙ ap (λ (i : ℕ). get_or l i 0) (add-zero a) in
    let same : set l a v ≡ l = ap (set l a) first ∙ set-get_or l a 0 in
    ap (λ (m : List ℕ). sets m (suc a) vs) same
    ∙ sets_same vs l (suc a) (λ r k. let e : a + suc r ≡ suc a + r = omega arith in h (suc r) (omega arith) ∙ ap (λ (i : ℕ). get_or l i 0) e)

-- the words of a slot are those that its key and its entry make
slot-words : (s : List ℕ) (i r : ℕ) → r < stride → get_or (slot_words (key_at s i) (info_at s i)) r 0 ≡ get_or s (i * stride + r) 0
slot-words s i zero h = let e : i * stride ≡ i * stride + 0 = omega arith in ap (λ (j : ℕ). get_or s j 0) e
slot-words s i (suc zero) h = refl
slot-words s i (suc (suc zero)) h = refl
slot-words s i (suc (suc (suc zero))) h = let e : i * stride + 2 + 1 ≡ i * stride + 3 = omega arith in ap (λ (j : ℕ). get_or s j 0) e
slot-words s i (suc (suc (suc (suc zero)))) h = refl
slot-words s i (suc (suc (suc (suc (suc zero))))) h = let e : i * stride + 4 + 1 ≡ i * stride + 5 = omega arith in ap (λ (j : ℕ). get_or s j 0) e
slot-words s i (suc (suc (suc (suc (suc (suc zero)))))) h = let e : i * stride + 4 + 2 ≡ i * stride + 6 = omega arith in ap (λ (j : ℕ). get_or s j 0) e
slot-words s i (suc (suc (suc (suc (suc (suc (suc r))))))) h = absurd (omega arith)

pub put_same : (s : List ℕ) (i : ℕ) → put_at s i (key_at s i) (info_at s i) ≡ s
unfolding put_at
put_same s i = sets_same (slot_words (key_at s i) (info_at s i)) s (i * stride) (slot-words s i)

pub put-over : (s : List ℕ) (i : ℕ) (k k' : EntryKey) (e e' : EntryInfo) → i * stride + stride ≤ length s → put_at (put_at s i k e) i k' e' ≡ put_at s i k' e'
unfolding put_at
put-over s i k k' e e' h =
    let a : ℕ = i * stride in
    let us = slot_words k e in
    let vs = slot_words k' e' in
    ext_get_or 0 (sets (sets s a us) a vs) (sets s a vs)
    (length-sets (sets s a us) a vs ∙ length-sets s a us ∙ sym (length-sets s a vs))
    (λ p _. go a us vs refl refl h p (ltb p a) refl (ltb p (a + stride)) refl)
  where
    go : (a : ℕ) (us vs : List ℕ) → length us ≡ stride → length vs ≡ stride → a + stride ≤ length s → (p : ℕ) (b : Bool) → ltb p a ≡ b → (d : Bool) → ltb p (a + stride) ≡ d
        → get_or (sets (sets s a us) a vs) p 0 ≡ get_or (sets s a vs) p 0
    go a us vs lu lv g p true x d y =
        let l : p < a = ltb-true p a x in
        sets-before vs (sets s a us) a p l ∙ sets-before us s a p l ∙ sym (sets-before vs s a p l)
    go a us vs lu lv g p false x true y =
        let l : a ≤ p = ltb-false p a x in
        let m : p < a + stride = ltb-true p (a + stride) y in
        let e : p ≡ a + (p - a) = omega arith in
        rw e (sets-at vs (sets s a us) a (p - a) (omega (arith, lv)) (omega (arith, lv, length-sets s a us)) ∙ sym (sets-at vs s a (p - a) (omega (arith, lv)) (omega (arith, lv))))
    go a us vs lu lv g p false x false y =
        let l : a + stride ≤ p = ltb-false p (a + stride) y in
        sets-after vs (sets s a us) a p (omega (arith, lv)) ∙ sets-after us s a p (omega (arith, lu)) ∙ sym (sets-after vs s a p (omega (arith, lv)))

-- by what code learns of an addition: the table is what it answers and leaves
module _ (t : Table) (a : Addition) {o : Outcome ℕ} {s : List ℕ} (x : o ≡ used_after (adding t (a ∷ []))) (z : s ≡ words_after (adding t (a ∷ [])) t.words) where
  pub added-table : {n : ℕ} → o ≡ answered n → adding t (a ∷ []) ≡ answered (table s n)
  added-table {n} y = go (adding t (a ∷ [])) (sym y ∙ x) z
    where
      go : (p : Outcome Table) → answered n ≡ used_after p → s ≡ words_after p t.words → p ≡ answered (table s n)
      go (refused m) e f = let w : ◌≡◌ {A = ℕ} 0 1 = cc in absurd (omega arith)
      go (answered u) e f =
          let used : u.used ≡ n = cc in
          let words : u.words ≡ s = sym f in
          λ i. answered (record { words = words i; used = used i })

  pub added_none : {n : ℕ} → o ≡ refused n → (adding t (a ∷ []) ≡ refused n) × (s ≡ t.words)
  added_none {n} y = go (adding t (a ∷ [])) (sym y ∙ x) z
    where
      go : (p : Outcome Table) → refused n ≡ used_after p → s ≡ words_after p t.words → (p ≡ refused n) × (s ≡ t.words)
      go (refused m) e f = (cc, f)
      go (answered u) e f = let w : ◌≡◌ {A = ℕ} 0 1 = cc in absurd (omega arith)

-- what holds where it goes ahead
pub record Added (t : Table) (a : Addition) (u : Table) : Type 0 where
  pub room : t.used + cond (known t a.key) 0 1 ≤ slots_in t.words
  pub leaves : u ≡ add t a

pub adding-added : (t : Table) (a : Addition) {u : Table} → adding t (a ∷ []) ≡ answered u → Added t a u
adding-added t a {u} e =
    cond_cases (λ (p : Outcome Table). p ≡ answered u → Added t a u) (ltb (slots_in t.words) (t.used + cond (known t a.key) 0 1))
    (λ _ q. let w : ◌≡◌ {A = ℕ} 0 1 = cc in absurd (omega arith))
    (λ f q. record { room = ltb-false _ _ f; leaves = cc })
    (sym (adding-one t a) ∙ e)

module _ (t : Table) (a : Addition) (room : t.used + cond (known t a.key) 0 1 ≤ slots_in t.words) where
  pub added-fits : (add t a).used ≤ slots_in (add t a).words
  added-fits = omega (arith, used-added t a room, length-added t a room)

  -- the names of the used slots
  module _ (ls : Lengths) (old : all_inside ls (names_in t.words t.used) ≡ true) (own : inside ls a.info.name ≡ true) where
    name-put : (i j : ℕ) → i * stride + stride ≤ length t.words → ((j ≡ i → ⊥) → j < t.used)
        → inside ls (slot_name (put_at t.words i a.key a.info) j) ≡ true
    name-put i j h k = go (eqb j i) refl
      where
        go : (b : Bool) → eqb j i ≡ b → inside ls (slot_name (put_at t.words i a.key a.info) j) ≡ true
        go true e =
            let q : j ≡ i = eqb-true j i e in
            rw q (ap (λ (x : EntryInfo). inside ls x.name) (put-info t.words i a.key a.info h) ∙ own)
        go false e =
            ap (λ (x : EntryInfo). inside ls x.name) (put-info-other t.words i a.key a.info j (eqb-false j i e))
            ∙ all-inside-at ls (slot_name t.words) 0 t.used j old (omega arith) (omega (arith, k (eqb-false j i e)))

    pub names-added : all_inside ls (names_in (add t a).words (add t a).used) ≡ true
    names-added =
        by-find t a room (λ u. all_inside ls (names_in u.words u.used) ≡ true)
        (λ i e r.
        let below : i < t.used = find-used t a.key i e in
        at_every (inside ls) (slot_name (put_at t.words i a.key a.info)) 0 t.used (λ j x y. name-put i j (omega (arith, room)) (λ _. omega arith)))
        (λ i e r. old)
        (λ e h.
        at_every (inside ls) (slot_name (put_at t.words t.used a.key a.info)) 0 (t.used + 1) (λ j x y. name-put t.used j (omega arith) (λ q. omega arith)))

  -- what stood in its slot, put back, takes it back
  pub put_back : {at : ℕ} → at ≡ slot_for t a.key → put_at (add t a).words at (key_at t.words at) (info_at t.words at) ≡ t.words
  put_back {at} q =
      by-find t a room (λ u. put_at u.words at (key_at t.words at) (info_at t.words at) ≡ t.words)
      (λ i e r.
      let below : i < t.used = find-used t a.key i e in
      let w : at ≡ i = q ∙ rw e in
      rw w (put-over t.words i a.key (key_at t.words i) a.info (info_at t.words i) (omega (arith, room)) ∙ put_same t.words i))
      (λ i e r. put_same t.words at)
      (λ e h.
      let w : at ≡ t.used = q ∙ rw e in
      rw w (put-over t.words t.used a.key (key_at t.words t.used) a.info (info_at t.words t.used) (omega arith) ∙ put_same t.words t.used))

-- where no slot is left for a key, it is refused
pub slot-full : (t : Table) (a : Addition) → t.used ≤ slots_in t.words → slots_in t.words ≤ slot_for t a.key → adding t (a ∷ []) ≡ refused table_full
slot-full t a fits h = go (find t a.key) refl
  where
    go : (f : Option ℕ) → find t a.key ≡ f → adding t (a ∷ []) ≡ refused table_full
    go (Some i) e = let b : i < t.used = find-used t a.key i e in let k : slots_in t.words ≤ i = rw e at h in absurd (omega arith)
    go None e = let k : slots_in t.words ≤ t.used = rw e at h in add-full t a (sym e) refl k
