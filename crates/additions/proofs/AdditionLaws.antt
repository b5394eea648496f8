-- Additions that a loop makes one after the other, whatever they are read from: the count of their new keys, and what they lead to. Assumes
-- nothing.
use Prim.Native.Nat.{ℕ, zero, suc, ◌+◌, ◌-◌, ◌≤◌, ◌<◌}
use mathlib.Core.Path.{◌≡◌, refl, ap, sym, ◌∙◌}
use mathlib.Core.List.{List, [], ◌∷◌}
use mathlib.Core.Bool.{Bool, true, false, cond, ◌||◌}
use native.Mathlib.Omega.{arith}
use native.Mathlib.Nat.{add-zero, add-suc, zero-add, sub-zero}
use native.Mathlib.Numerals.{add-one}
use borrow.Author.Tests.{le-leb}
use lib.ListN.{length}
use lib.Dec.{leb}
use Rattle.base.specs.Outcome.{Outcome, refused, answered}
use Rattle.entry_slots.specs.Slots.{slots_in, same_key}
use Rattle.base.specs.Lists.{rows}
use Rattle.entry_slots.specs.Table.{Table, table, find, is_at, known, Addition, addition}
use Rattle.entry_slots.specs.Names.{Lengths, all_inside}
use Rattle.entry_slots.specs.declared.NamePlace.{NamePlace}
use Rattle.additions.specs.Storing.{new_keys, seen, keys_of, names_of, adding, used_after, words_after}
use Rattle.entry_slots.specs.declared.EntryKey.{EntryKey}
use Rattle.entry_slots.specs.declared.EntryInfo.{EntryInfo}
use Rattle.std.specs.Prelude.{Option, Some, None}
use Rattle.std.specs.Option.{is_some}
use Rattle.base.proofs.RowLaws.{rows_next, rows_end, map_rows, length-rows}
use Rattle.additions.proofs.CountLaws.{new-same, new-at-most, new-first, new_none, Adding, adding-start, adding-slot, adding-next, adding-end, adding-room, added-used, added-refused}

-- the key and the name's place of each addition, and the additions from i on, of so many
abbrev pub keys_at : (ℕ → Addition) → ℕ → EntryKey
keys_at f i = (f i).key

abbrev pub names_at : (ℕ → Addition) → ℕ → NamePlace
names_at f i = (f i).info.name

abbrev pub rows_from : (ℕ → Addition) → ℕ → ℕ → List Addition
rows_from f count i = rows f i (count - i)

-- what is shown of the names by their numbers is shown of the additions
pub names-of-rows : (ls : Lengths) (f : ℕ → Addition) (count : ℕ) {b : Bool} → b ≡ all_inside ls (rows (names_at f) 0 count) → b ≡ all_inside ls (names_of (rows f 0 count))
names-of-rows ls f count e = e ∙ ap (all_inside ls) (sym (map_rows (λ (a : Addition). a.info.name) f 0 count))

-- what code puts together is an addition, where its key and its entry are
pub same-addition : {k k' : EntryKey} {e e' : EntryInfo} {b b' : Bool} → k ≡ k' → e ≡ e' → b ≡ b' → addition k e b ≡ addition k' e' b'
same-addition p q r = cc

-- a key that was seen stays seen
later : (t : Table) (keys : ℕ → EntryKey) (k : EntryKey) (j n : ℕ) → seen t keys j k ≡ true → seen t keys (j + n) k ≡ true
unfolding seen
later t keys k j zero h = rw add-zero h
later t keys k j (suc n) h = rw (add-suc j n, seen, later t keys k j n h)

seen-later : (t : Table) (keys : ℕ → EntryKey) (k : EntryKey) (j i : ℕ) → j ≤ i → seen t keys j k ≡ true → seen t keys i k ≡ true
seen-later t keys k j i l h =
    let m : i ≡ j + (i - j) = omega arith in
    rw m (later t keys k j (i - j) h)

-- by the table alone, and by one key more
seen_none : (t : Table) (keys : ℕ → EntryKey) (k : EntryKey) → seen t keys 0 k ≡ known t k
unfolding seen
seen_none t keys k = refl

seen_more : (t : Table) (keys : ℕ → EntryKey) (i : ℕ) (k : EntryKey) → seen t keys (i + 1) k ≡ (seen t keys i k || same_key (keys i) k)
unfolding seen
seen_more t keys i k = rw (add-one i)

-- a slot that is found tells that the key is known
some-at : (f : Option ℕ) → is_some f ≡ is_at f
some-at (Some i) = refl
some-at None = refl

-- A loop looks for a key among the first i keys, and has not found it among the first j, nor in the table.
pub record Looking (t : Table) (keys : ℕ → EntryKey) (k : EntryKey) (j i : ℕ) : Type 0 where
  pub near : j ≤ i
  pub unseen : seen t keys j k ≡ false

module _ (t : Table) (keys : ℕ → EntryKey) (k : EntryKey) (i : ℕ) {f : Option ℕ} (e : f ≡ find t k) where
  by-find : {b : Bool} → b ≡ is_some f → b ≡ seen t keys 0 k
  by-find g = g ∙ some-at f ∙ ap is_at e ∙ sym (seen_none t keys k)

  pub looking-start : {b : Bool} → b ≡ is_some f → b ≡ false → Looking t keys k 0 i
  looking-start g n = record { near = omega arith; unseen = sym (by-find g) ∙ n }

  pub looking-table : {b : Bool} → b ≡ is_some f → b ≡ true → true ≡ seen t keys i k
  looking-table g y = sym (seen-later t keys k 0 i (omega arith) (sym (by-find g) ∙ y))

module _ {t : Table} {keys : ℕ → EntryKey} {k : EntryKey} {j i : ℕ} (w : Looking t keys k j i) where
  step : {q : EntryKey} {b : Bool} → q ≡ keys j → b ≡ same_key q k → seen t keys (j + 1) k ≡ b
  step e s = seen_more t keys j k ∙ rw (w.unseen, ← e, s)

  pub looking-next : {q : EntryKey} {b : Bool} → j < i → q ≡ keys j → b ≡ same_key q k → b ≡ false → Looking t keys k (j + 1) i
  looking-next h e s y = record { near = omega arith; unseen = step e s ∙ y }

  pub looking-found : {q : EntryKey} {b : Bool} → j < i → q ≡ keys j → b ≡ same_key q k → b ≡ true → true ≡ seen t keys i k
  looking-found h e s y = sym (seen-later t keys k (j + 1) i (omega arith) (step e s ∙ y))

-- A loop counts the new keys of so many additions, and has counted n among the first i.
pub record Counting (t : Table) (f : ℕ → Addition) (count n i : ℕ) : Type 0 where
  pub near : i ≤ count
  pub few : n ≤ i
  pub whole : n + new_keys (seen t (keys_at f) i) (keys_of (rows_from f count i)) ≡ new_keys (known t) (keys_of (rows f 0 count))

pub counting-start : (t : Table) (f : ℕ → Addition) (count : ℕ) → Counting t f count 0 0
counting-start t f count =
    record {
      near = omega arith;
      few = omega arith;
      whole = rw (zero-add, sub-zero) (new-same (seen t (keys_at f) 0) (known t) (seen_none t (keys_at f)) (keys_of (rows f 0 count)));
    }

module _ {t : Table} {f : ℕ → Addition} {count n i : ℕ} (w : Counting t f count n i) where
  first : {q : EntryKey} {b : Bool} → i < count → q ≡ keys_at f i → b ≡ seen t (keys_at f) i q
      → new_keys (seen t (keys_at f) i) (keys_of (rows_from f count i)) ≡ cond b 0 1 + new_keys (seen t (keys_at f) (i + 1)) (keys_of (rows_from f count (i + 1)))
  first {q} {b} h e s =
      ap (λ (xs : List Addition). new_keys (seen t (keys_at f) i) (keys_of xs)) (rows_next f i count h)
      ∙ new-first (seen t (keys_at f) i) (keys_at f i) (keys_of (rows_from f count (i + 1)))
      ∙ ap (λ (m : ℕ). cond (seen t (keys_at f) i (keys_at f i)) 0 1 + m)
      (sym (new-same (seen t (keys_at f) (i + 1)) (λ j. seen t (keys_at f) i j || same_key (keys_at f i) j) (seen_more t (keys_at f) i) (keys_of (rows_from f count (i + 1)))))
      ∙ ap (λ (x : Bool). cond x 0 1 + new_keys (seen t (keys_at f) (i + 1)) (keys_of (rows_from f count (i + 1)))) (ap (seen t (keys_at f) i) (sym e) ∙ sym s)

  pub counting-new : {q : EntryKey} {b : Bool} {m : ℕ} → i < count → q ≡ keys_at f i → b ≡ seen t (keys_at f) i q → b ≡ false → m ≡ n + 1
      → Counting t f count m (i + 1)
  counting-new h e s y c = record { near = omega arith; few = omega (arith, w.few); whole = omega (arith, w.whole, first h e (sym y ∙ s)) }

  pub counting-known : {q : EntryKey} {b : Bool} {m : ℕ} → i < count → q ≡ keys_at f i → b ≡ seen t (keys_at f) i q → b ≡ true → m ≡ n
      → Counting t f count m (i + 1)
  counting-known h e s y c = record { near = omega arith; few = omega (arith, w.few); whole = omega (arith, w.whole, first h e (sym y ∙ s)) }

  pub counting-end : count ≤ i → n ≡ new_keys (known t) (keys_of (rows f 0 count))
  counting-end h =
      omega (
        arith,
        w.whole,
        ap (λ (xs : List Addition). new_keys (seen t (keys_at f) i) (keys_of xs)) (rows_end f i count h) ∙ new_none (seen t (keys_at f) i),
      )

-- whether so many slots have room: they do where they have it for all additions, and else the count tells
module _ (t : Table) (f : ℕ → Addition) (count slots : ℕ) (fits : t.used ≤ slots) where
  few : new_keys (known t) (keys_of (rows f 0 count)) ≤ count
  few =
      omega (
        arith,
        new-at-most (known t) (keys_of (rows f 0 count)),
        ap length (map_rows (λ (a : Addition). a.key) f 0 count) ∙ length-rows (keys_at f) 0 count,
      )

  pub room-for-all : count ≤ slots - t.used → true ≡ leb (t.used + new_keys (known t) (keys_of (rows f 0 count))) slots
  room-for-all h = sym (le-leb (t.used + new_keys (known t) (keys_of (rows f 0 count))) slots (omega (arith, few)))

-- A loop makes so many additions, and has come to addition i.
pub record AddingRows (t₀ t : Table) (f : ℕ → Addition) (count i : ℕ) : Type 0 where
  pub near : i ≤ count
  pub rest : Adding t₀ t (rows_from f count i) (rows f 0 count)

pub rows_start : (t : Table) (f : ℕ → Addition) (count : ℕ) → t.used + new_keys (known t) (keys_of (rows f 0 count)) ≤ slots_in t.words → AddingRows t t f count 0
rows_start t f count h = record { near = omega arith; rest = rw sub-zero (adding-start t (rows f 0 count) h) }

module _ {t₀ t : Table} {f : ℕ → Addition} {count i : ℕ} (w : AddingRows t₀ t f count i) (h : i < count) where
  next : rows_from f count i ≡ f i ∷ rows_from f count (i + 1)
  next = rows_next f i count h

  slot : t.used + cond (known t (keys_at f i)) 0 1 ≤ slots_in t.words
  slot = adding-slot w.rest next

  pub rows-added : {a : Addition} {o : Outcome ℕ} {n : ℕ} {s : List ℕ} → a ≡ f i
      → o ≡ used_after (adding t (a ∷ [])) → o ≡ answered n → s ≡ words_after (adding t (a ∷ [])) t.words
      → AddingRows t₀ (table s n) f count (i + 1)
  rows-added p x y z = record { near = omega arith; rest = rw (added-used t (f i) slot (rw p at x) y (rw p at z)) (adding-next w.rest next) }

  pub rows-refused : {a : Addition} {o : Outcome ℕ} {n : ℕ} → a ≡ f i → o ≡ used_after (adding t (a ∷ [])) → o ≡ refused n → ⊥
  rows-refused p x y = added-refused t (f i) slot (rw p at x) y

-- once all are made, that is what adding them comes to
pub rows-added-all : {t₀ t : Table} {f : ℕ → Addition} {count i : ℕ} → AddingRows t₀ t f count i → count ≤ i
    → t₀.used + new_keys (known t₀) (keys_of (rows f 0 count)) ≤ slots_in t₀.words → adding t₀ (rows f 0 count) ≡ answered t
rows-added-all {t₀} {t} {f} {count} {i} w h room =
    adding-room t₀ (rows f 0 count) room ∙ ap answered (sym (adding-end w.rest (rows_end f i count h)))
