-- Seeding is its tests, one after the other, and then the entries inserted if absent, one after the other: where such a walk stands, a turn of it, and what it
-- comes to. Assumes nothing.
use Prim.Native.Nat.{ℕ, ◌+◌, ◌≤◌, ◌<◌}
use mathlib.Core.Path.{◌≡◌, refl, ap, sym, ◌∙◌}
use mathlib.Core.List.{List, [], ◌∷◌}
use mathlib.Core.Bool.{true, false}
use native.Mathlib.Omega.{arith}
use borrow.Author.Tests.{ltb-true, ltb-false, leb-true, leb-false, lt-ltb, le-ltb}
use lib.Dec.{ltb}
use Rattle.base.specs.Outcome.{Outcome, refused, answered, outcome}
use Rattle.base.specs.Refusals.{bad_state, name_outside, table_full, number_of}
use Rattle.base.proofs.ChoiceLaws.{cond_cases}
use Rattle.entry_slots.specs.Names.{Lengths, inside, all_inside}
use Rattle.entry_slots.specs.Slots.{slots_in}
use Rattle.base.specs.Lists.{every, rows}
use Rattle.entry_slots.specs.Table.{Table, table, Addition, addition}
use Rattle.entry_slots.specs.declared.EntryKey.{EntryKey}
use Rattle.entry_slots.specs.declared.EntryInfo.{EntryInfo}
use Rattle.base.proofs.RowLaws.{map_rows}
use Rattle.entry_slots.proofs.NameLaws.{all-inside-at, one_inside}
use Rattle.additions.specs.Storing.{new_in, fits, names_of, adding, storing, inserting, used_after, words_after}
use Rattle.additions.proofs.StoringLaws.{adding-full, stored-bad-state, stored-outside, stored-inside}
use Rattle.additions.proofs.AdditionLaws.{AddingRows, rows_start, rows-added, rows-refused, rows-added-all}
use Rattle.entry_table.specs.Promise.{Stores}
use Rattle.base.specs.declared.refusal.Refusal.{Refusal}
use Rattle.std.specs.Prelude.{Result, Ok, Err}
use Rattle.carved_seed.specs.Tests.{state_tested, names_tested, room_tested, onward, used_in}

-- the test of names: of none, and after a refusal, which is handed on whatever is left
pub names-none : (ls : Lengths) (o : Outcome ℕ) → names_tested ls [] o ≡ o
unfolding names_tested every
names-none ls (refused n) = refl
names-none ls (answered used) = refl

pub names-handed : (ls : Lengths) (xs ys : List Addition) (n : ℕ) → names_tested ls xs (refused n) ≡ names_tested ls ys (refused n)
unfolding names_tested
names-handed ls xs ys n = refl

-- The tests are passed, and the entries before number i are inserted.
pub record Inserting (ls : Lengths) (t₀ : Table) (f : ℕ → Addition) (count i : ℕ) (t : Table) : Type 0 where
  pub inside-all : all_inside ls (rows (λ j. (f j).info.name) 0 count) ≡ true
  pub all : storing ls t₀ (rows f 0 count) ≡ adding t₀ (rows f 0 count)
  pub room : t₀.used + new_in t₀ (rows f 0 count) ≤ slots_in t₀.words
  pub added : AddingRows t₀ t f count i

-- Where seeding stands, with the words s and the answer o: at entry i, or past the last one after a refusal.
pub data Stands (ls : Lengths) (t₀ : Table) (f : ℕ → Addition) (count : ℕ) (s : List ℕ) (o : Outcome ℕ) (i : ℕ) : Type 0 where
  inserted : (used : ℕ) → o ≡ answered used → Inserting ls t₀ f count i (table s used) → Stands ls t₀ f count s o i
  over : (n : ℕ) → s ≡ t₀.words → o ≡ refused n → i ≡ count → storing ls t₀ (rows f 0 count) ≡ refused n → Stands ls t₀ f count s o i

module _ (ls : Lengths) (t₀ : Table) (f : ℕ → Addition) (count : ℕ) where
  abbrev xs : List Addition
  xs = rows f 0 count

  abbrev Tested : Outcome ℕ → Type 0
  Tested o = Stands ls t₀ f count t₀.words o (onward o 0 count)

  -- after the tests, the last first: a refusal is handed on
  handed : (n : ℕ) → storing ls t₀ xs ≡ refused n → Tested (room_tested t₀.words xs (refused n))
  unfolding room_tested
  handed n q = over n refl refl refl q

  pub inserting-start : t₀.used ≤ slots_in t₀.words → all_inside ls (names_of xs) ≡ true → fits t₀ xs (slots_in t₀.words) ≡ true → Inserting ls t₀ f count 0 t₀
  inserting-start g q e =
      record {
        inside-all = sym (ap (all_inside ls) (map_rows _ f 0 count)) ∙ q;
        all = stored-inside ls t₀ xs g q;
        room = leb-true _ _ e;
        added = rows_start t₀ f count (leb-true _ _ e);
      }

  by-room : t₀.used ≤ slots_in t₀.words → all_inside ls (names_of xs) ≡ true → Tested (room_tested t₀.words xs (answered t₀.used))
  unfolding room_tested
  by-room g q =
      cond_cases Tested (fits t₀ xs (slots_in t₀.words))
      (λ e. inserted t₀.used refl (inserting-start g q e))
      (λ e. over table_full refl refl refl (stored-inside ls t₀ xs g q ∙ adding-full t₀ xs (leb-false _ _ e)))

  by_names : t₀.used ≤ slots_in t₀.words → Tested (room_tested t₀.words xs (names_tested ls xs (answered t₀.used)))
  unfolding names_tested
  by_names g =
      cond_cases (λ (o : Outcome ℕ). Tested (room_tested t₀.words xs o)) (all_inside ls (names_of xs))
      (λ e. by-room g e)
      (λ e. handed name_outside (stored-outside ls t₀ xs g e))

  pub stands-tested : Tested (room_tested t₀.words xs (names_tested ls xs (state_tested (slots_in t₀.words) t₀.used)))
  unfolding state_tested
  stands-tested =
      cond_cases (λ (o : Outcome ℕ). Tested (room_tested t₀.words xs (names_tested ls xs o))) (ltb (slots_in t₀.words) t₀.used)
      (λ e. bad (stored-bad-state ls t₀ xs (ltb-true _ _ e)))
      (λ e. by_names (ltb-false _ _ e))
    where
      bad : storing ls t₀ xs ≡ refused bad_state → Tested (room_tested t₀.words xs (names_tested ls xs (refused bad_state)))
      bad q = rw (names-handed ls xs [] bad_state, names-none ls (refused bad_state)) (handed bad_state q)

  -- by the answers of the tests, one after the other
  pub stands-first : {ys : List Addition} {o₁ o₂ o₃ : Outcome ℕ} {i : ℕ} → xs ≡ ys → o₁ ≡ state_tested (slots_in t₀.words) t₀.used → o₂ ≡ names_tested ls ys o₁
      → o₃ ≡ room_tested t₀.words ys o₂ → i ≡ onward o₃ 0 count → Stands ls t₀ f count t₀.words o₃ i
  stands-first e e₁ e₂ e₃ h = rw (h, e₃, e₂, e₁, ← e) stands-tested

  -- a turn: what inserting entry i if absent leaves
  pub stands-next : {s s' : List ℕ} {o : Outcome ℕ} {i used : ℕ} {k : EntryKey} {e : EntryInfo} {r : Result ℕ Refusal} → Stands ls t₀ f count s o i → i < count
      → used ≡ used_in o → addition k e false ≡ f i → Stores (inserting ls (table s used) k e false) s r s' → Stands ls t₀ f count s' (outcome r) (i + 1)
  stands-next (over n es eo ei q) l h a w = absurd (omega arith)
  stands-next {s} {s'} {o} {i} {used} {k} {e} {r} (inserted u eo v) l h a w = go (adding (table s u) (addition k e false ∷ [])) refl
    where
      name : inside ls e.name ≡ true
      name = ap (λ (x : Addition). inside ls x.info.name) a ∙ all-inside-at ls (λ j. (f j).info.name) 0 count i v.inside-all (omega arith) (omega arith)

      same : inserting ls (table s used) k e false ≡ adding (table s u) (addition k e false ∷ [])
      same =
          ap (λ (n : ℕ). inserting ls (table s n) k e false) (h ∙ ap used_in eo)
          ∙ stored-inside ls (table s u) (addition k e false ∷ []) (omega (arith, v.added.rest.room)) (one_inside ls e.name refl name)

      go : (p : Outcome Table) → adding (table s u) (addition k e false ∷ []) ≡ p → Stands ls t₀ f count s' (outcome r) (i + 1)
      go (refused n) q = absurd (rows-refused v.added l a (w.answer ∙ ap used_after same) (w.answer ∙ ap used_after (same ∙ q)))
      go (answered t) q =
          inserted t.used (w.answer ∙ ap used_after (same ∙ q))
          (record {
            inside-all = v.inside-all;
            all = v.all;
            room = v.room;
            added = rows-added v.added l a (w.answer ∙ ap used_after same) (w.answer ∙ ap used_after (same ∙ q)) (w.slots-are ∙ ap (λ (x : Outcome Table). words_after x s) same);
          })

  -- past the last entry, what is answered and left is what storing does
  pub stands-over : {s : List ℕ} {i : ℕ} {r : Result ℕ Refusal} → Stands ls t₀ f count s (outcome r) i → count ≤ i → Stores (storing ls t₀ xs) t₀.words r s
  stands-over (over n es eo ei q) l = record { answer = eo ∙ sym (ap used_after q); slots-are = es ∙ sym (ap (λ (x : Outcome Table). words_after x t₀.words) q) }
  stands-over {s} (inserted u eo v) l =
      let q : storing ls t₀ xs ≡ answered (table s u) = v.all ∙ rows-added-all v.added l v.room in
      record { answer = eo ∙ sym (ap used_after q); slots-are = sym (ap (λ (x : Outcome Table). words_after x t₀.words) q) }

  -- by the tests, one after the other: which of them refuses, and what seeding then does
  abbrev tests : Outcome ℕ
  tests = room_tested t₀.words xs (names_tested ls xs (state_tested (slots_in t₀.words) t₀.used))

  pub tests-bad-state : slots_in t₀.words < t₀.used → tests ≡ refused bad_state
  unfolding state_tested names_tested room_tested
  tests-bad-state h = rw (lt-ltb _ _ h)

  pub tests-outside : t₀.used ≤ slots_in t₀.words → all_inside ls (names_of xs) ≡ false → tests ≡ refused name_outside
  unfolding state_tested names_tested room_tested
  tests-outside h e = rw (le-ltb _ _ h, e)

  pub tests-full : t₀.used ≤ slots_in t₀.words → all_inside ls (names_of xs) ≡ true → fits t₀ xs (slots_in t₀.words) ≡ false → tests ≡ refused table_full
  unfolding state_tested names_tested room_tested
  tests-full h e g = rw (le-ltb _ _ h, e, g)

  pub tests-passed : t₀.used ≤ slots_in t₀.words → all_inside ls (names_of xs) ≡ true → fits t₀ xs (slots_in t₀.words) ≡ true → tests ≡ answered t₀.used
  unfolding state_tested names_tested room_tested
  tests-passed h e g = rw (le-ltb _ _ h, e, g)

  -- where one refuses, seeding does
  pub tests-refused : {n : ℕ} → tests ≡ refused n → storing ls t₀ xs ≡ refused n
  tests-refused {n} h = go (rw h at stands-tested)
    where
      go : {i : ℕ} → Stands ls t₀ f count t₀.words (refused n) i → storing ls t₀ xs ≡ refused n
      go (over m es eo ei q) = let same : m ≡ n = cc in q ∙ ap refused same
      go (inserted u eo v) = let z : ◌≡◌ {A = ℕ} 0 1 = cc in absurd (omega arith)

  -- and where none does, no entry is inserted yet
  pub tests-start : tests ≡ answered t₀.used → Inserting ls t₀ f count 0 t₀
  tests-start h = go (rw h at stands-tested)
    where
      go : Stands ls t₀ f count t₀.words (answered t₀.used) 0 → Inserting ls t₀ f count 0 t₀
      go (over n es eo ei q) = let z : ◌≡◌ {A = ℕ} 0 1 = cc in absurd (omega arith)
      go (inserted u eo v) = let same : t₀.used ≡ u = cc in rw (← same) at v

  -- a refused seeding answers the refusal and leaves the table
  pub seed-refused : {k : Refusal} → storing ls t₀ xs ≡ refused (number_of k) → Stores (storing ls t₀ xs) t₀.words (Err k) t₀.words
  seed-refused q = record { answer = sym (ap used_after q); slots-are = sym (ap (λ (x : Outcome Table). words_after x t₀.words) q) }

  -- a turn is not refused, and leads to the next one
  module _ {s s' : List ℕ} {i u : ℕ} {k : EntryKey} {e : EntryInfo} {r : Result ℕ Refusal} (v : Inserting ls t₀ f count i (table s u)) (l : i < count)
      (a : addition k e false ≡ f i) (w : Stores (inserting ls (table s u) k e false) s r s') where
    name-inside : inside ls e.name ≡ true
    name-inside = ap (λ (x : Addition). inside ls x.info.name) a ∙ all-inside-at ls (λ j. (f j).info.name) 0 count i v.inside-all (omega arith) (omega arith)

    as-adding : inserting ls (table s u) k e false ≡ adding (table s u) (addition k e false ∷ [])
    as-adding = stored-inside ls (table s u) (addition k e false ∷ []) (omega (arith, v.added.rest.room)) (one_inside ls e.name refl name-inside)

    pub inserting-never : {q : Refusal} → r ≡ Err q → ⊥
    inserting-never h = rows-refused v.added l a (w.answer ∙ ap used_after as-adding) (ap outcome h)

    pub inserting-next : {n : ℕ} → r ≡ Ok n → Inserting ls t₀ f count (i + 1) (table s' n)
    inserting-next h =
        record {
          inside-all = v.inside-all;
          all = v.all;
          room = v.room;
          added = rows-added v.added l a (w.answer ∙ ap used_after as-adding) (ap outcome h) (w.slots-are ∙ ap (λ (x : Outcome Table). words_after x s) as-adding);
        }
