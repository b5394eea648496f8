-- What the calls come to: when they go ahead, that names decide nothing, and that seeding is one insertion after the other.
-- Assumes nothing.
use Prim.Native.Nat.{ℕ, ◌+◌, ◌≤◌, ◌<◌}
use mathlib.Core.Path.{◌≡◌, refl, ap, sym, ◌∙◌}
use mathlib.Core.List.{List, [], ◌∷◌}
use mathlib.Core.Bool.{Bool, true, false, cond, not, ◌||◌}
use native.Mathlib.Omega.{arith}
use borrow.Author.Tests.{ltb-true, ltb-false, not-false}
use lib.ListN.{length}
use lib.Dec.{ltb}
use Rattle.base.specs.Lists.{every}
use Rattle.base.specs.Outcome.{Outcome, refused, answered, and_then}
use Rattle.base.specs.Refusals.{bad_state, name_outside, table_full}
use Rattle.base.proofs.ChoiceLaws.{cond_cases, and_left, and_right}
use Rattle.entry_slots.specs.Names.{Lengths, lengths_of, inside, all_inside}
use Rattle.entry_slots.specs.Slots.{slots_in, same_key}
use Rattle.entry_slots.specs.Table.{Table, entered, lookup, known, Addition, addition, add}
use Rattle.additions.specs.Storing.{add_all, new_keys, keys_of, names_of, adding, storing, inserting}
use Rattle.additions.specs.InTurn.{in_turn}
use Rattle.entry_slots.specs.declared.EntryKey.{EntryKey}
use Rattle.entry_slots.specs.declared.EntryInfo.{EntryInfo}
use Rattle.additions.proofs.StoringLaws.{adding-one, stored-inside}
use Rattle.entry_slots.proofs.TableLaws.{used-added, length-added, known-added, lookup-other, lookup-inserted, add-known}
use Rattle.additions.proofs.CountLaws.{new-same, new-first, new_none, adding-room, Adding, adding-start, adding-slot, adding-next, used_all}
use Rattle.additions.proofs.KeptLaws.{Kept, all-kept}

-- names decide nothing: over journals and images of equal lengths every call comes out the same, its table included
pub names-decide-nothing : (journal journal' image image' : List ℕ) (t : Table) (xs : List Addition) → length journal' ≡ length journal → length image' ≡ length image
    → storing (lengths_of journal' image') t xs ≡ storing (lengths_of journal image) t xs
names-decide-nothing journal journal' image image' t xs e f = rw (e, f)

-- what holds where a call goes ahead, and the table that it leaves
pub record Accepted (ls : Lengths) (t : Table) (xs : List Addition) (u : Table) : Type 0 where
  pub fits : t.used ≤ slots_in t.words
  pub places : all_inside ls (names_of xs) ≡ true
  pub room : t.used + new_keys (known t) (keys_of xs) ≤ slots_in t.words
  pub leaves : u ≡ add_all t xs

never : {A B : Type 0} {n : ℕ} {x : A} → refused n ≡ answered x → B
never e = let z : ◌≡◌ {A = ℕ} 0 1 = cc in absurd (omega arith)

module _ (ls : Lengths) (t : Table) (xs : List Addition) where
  pub accepted-stored : {u : Table} → Accepted ls t xs u → storing ls t xs ≡ answered u
  accepted-stored w = stored-inside ls t xs w.fits w.places ∙ adding-room t xs w.room ∙ ap answered (sym w.leaves)

  pub stored-accepted : {u : Table} → storing ls t xs ≡ answered u → Accepted ls t xs u
  unfolding storing adding
  stored-accepted {u} =
      cond_cases (λ (o : Outcome Table). o ≡ answered u → Accepted ls t xs u) (ltb (slots_in t.words) t.used) (λ y e. never e)
      (λ fits. cond_cases (λ (o : Outcome Table). o ≡ answered u → Accepted ls t xs u) (not (all_inside ls (names_of xs))) (λ y e. never e)
      (λ places. cond_cases (λ (o : Outcome Table). o ≡ answered u → Accepted ls t xs u) (ltb (slots_in t.words) (t.used + new_keys (known t) (keys_of xs))) (λ y e. never e)
      (λ room e.
      record {
        fits = ltb-false _ _ fits;
        places = not-false _ places;
        room = ltb-false _ _ room;
        leaves = cc;
      })))

-- An accepted call takes a slot for each new key, so that the next call does not meet 9. Words after the used slots, and so those after
-- the last whole slot, are left alone.
pub accepted-used : {ls : Lengths} {t u : Table} {xs : List Addition} → Accepted ls t xs u → u.used ≡ t.used + new_keys (known t) (keys_of xs)
accepted-used {ls} {t} {u} {xs} w = rw w.leaves (used_all t xs w.room)

pub accepted-keeps : {ls : Lengths} {t u : Table} {xs : List Addition} → Accepted ls t xs u → Kept t u
accepted-keeps {ls} {t} {u} {xs} w = rw w.leaves (all-kept t xs)

pub accepted-fits : {ls : Lengths} {t u : Table} {xs : List Addition} → Accepted ls t xs u → u.used ≤ slots_in u.words
accepted-fits w = omega (arith, accepted-used w, w.room, (accepted-keeps w).long)

-- an insertion that goes ahead is looked up again, and lookups of other keys stay as they were
module _ (ls : Lengths) (t u : Table) (k : EntryKey) (info : EntryInfo) where
  one-slot : (replace : Bool) → Accepted ls t (addition k info replace ∷ []) u → t.used + cond (known t k) 0 1 ≤ slots_in t.words
  one-slot replace w = adding-slot (adding-start t (addition k info replace ∷ []) w.room) refl

  pub inserted-lookup : inserting ls t k info true ≡ answered u → lookup u k ≡ entered info
  unfolding add_all
  inserted-lookup e =
      let w : Accepted ls t (addition k info true ∷ []) u = stored-accepted ls t (addition k info true ∷ []) e in
      ap (λ (v : Table). lookup v k) w.leaves ∙ lookup-inserted t (addition k info true) (one-slot true w) refl

  pub inserted-others : (replace : Bool) → inserting ls t k info replace ≡ answered u → (j : EntryKey) → same_key k j ≡ false → lookup u j ≡ lookup t j
  unfolding add_all
  inserted-others replace e j apart =
      let w : Accepted ls t (addition k info replace ∷ []) u = stored-accepted ls t (addition k info replace ∷ []) e in
      ap (λ (v : Table). lookup v j) w.leaves ∙ lookup-other t (addition k info replace) (one-slot replace w) j apart

  -- and one if absent changes nothing where the key is known
  pub absent-known : known t k ≡ true → inserting ls t k info false ≡ answered u → u ≡ t
  unfolding add_all
  absent-known y e =
      let w : Accepted ls t (addition k info false ∷ []) u = stored-accepted ls t (addition k info false ∷ []) e in
      w.leaves ∙ add-known t (addition k info false) (one-slot false w) y refl

-- an insertion says 6 only where its key is new and every slot is used
pub record Full (t : Table) (k : EntryKey) : Type 0 where
  pub new : known t k ≡ false
  pub all : t.used ≡ slots_in t.words

pub inserted-full : (ls : Lengths) (t : Table) (k : EntryKey) (info : EntryInfo) (replace : Bool) → inserting ls t k info replace ≡ refused table_full → Full t k
unfolding storing
inserted-full ls t k info replace =
    cond_cases (λ (o : Outcome Table). o ≡ refused table_full → Full t k) (ltb (slots_in t.words) t.used) (λ y e. other bad_state (λ z. omega arith) e)
    (λ fits. cond_cases (λ (o : Outcome Table). o ≡ refused table_full → Full t k) (not (all_inside ls (names_of (addition k info replace ∷ [])))) (λ y e. other name_outside (λ z. omega arith) e)
    (λ places e. full (ltb-false _ _ fits) (sym (adding-one t (addition k info replace)) ∙ e)))
  where
    other : (n : ℕ) → (n ≡ table_full → ⊥) → ◌≡◌ {A = Outcome Table} (refused n) (refused table_full) → Full t k
    other n h e = let z : n ≡ table_full = cc in absurd (h z)

    full : t.used ≤ slots_in t.words
        → cond (ltb (slots_in t.words) (t.used + cond (known t k) 0 1)) (refused table_full) (answered (add t (addition k info replace))) ≡ refused table_full → Full t k
    full fits = go (known t k) refl (ltb (slots_in t.words) (t.used + cond (known t k) 0 1)) refl
      where
        go : (b : Bool) → known t k ≡ b → (c : Bool) → ltb (slots_in t.words) (t.used + cond (known t k) 0 1) ≡ c
            → cond c (refused table_full) (answered (add t (addition k info replace))) ≡ refused table_full → Full t k
        go b x false y e = never (sym e)
        go true x true y e = let h : slots_in t.words < t.used + 0 = ltb-true _ _ (rw x at y) in absurd (omega arith)
        go false x true y e = let h : slots_in t.words < t.used + 1 = ltb-true _ _ (rw x at y) in record { new = x; all = omega arith }

-- where all of a list can be stored, so can each entry by a call of its own, in turn
accepted-in-turn : (ls : Lengths) (t : Table) (xs : List Addition) → all_inside ls (names_of xs) ≡ true → t.used + new_keys (known t) (keys_of xs) ≤ slots_in t.words
    → in_turn ls t xs ≡ answered (add_all t xs)
unfolding in_turn add_all every
accepted-in-turn ls t [] places room = refl
accepted-in-turn ls t (x ∷ xs) places room =
    let w : Adding t t (x ∷ xs) (x ∷ xs) = adding-start t (x ∷ xs) room in
    let one : storing ls t (x ∷ []) ≡ answered (add t x) =
    accepted-stored ls t (x ∷ [])
    record {
      fits = omega arith;
      places = rw (and_left (inside ls x.info.name) (all_inside ls (names_of xs)) places);
      room = omega (arith, adding-slot w refl, new-first (known t) x.key [], new_none (λ j. known t j || same_key x.key j));
      leaves = refl;
    } in
    rw one
    (accepted-in-turn ls (add t x) xs (and_right (inside ls x.info.name) (all_inside ls (names_of xs)) places) (adding-next w refl).room)

-- and where each call in turn goes ahead, so does storing all at once
in-turn-accepted : (ls : Lengths) (t u : Table) (xs : List Addition) → in_turn ls t xs ≡ answered u → t.used ≤ slots_in t.words → Accepted ls t xs u
unfolding in_turn add_all every
in-turn-accepted ls t u [] e fits = record { fits = fits; places = refl; room = omega (arith, new_none (known t)); leaves = cc }
in-turn-accepted ls t u (x ∷ xs) e fits = go (storing ls t (x ∷ [])) refl (in-turn-accepted ls (add t x) u xs) e
  where
    after : Accepted ls t (x ∷ []) (add t x) → ((add t x).used ≤ slots_in (add t x).words → Accepted ls (add t x) xs u) → Accepted ls t (x ∷ xs) u
    after one ih =
        let slot : t.used + cond (known t x.key) 0 1 ≤ slots_in t.words = adding-slot (adding-start t (x ∷ []) one.room) refl in
        let w : Accepted ls (add t x) xs u = ih (omega (arith, used-added t x slot, length-added t x slot)) in
        record {
          fits = fits;
          places = rw (and_left (inside ls x.info.name) true one.places) w.places;
          room =
              omega (
                arith,
                w.room,
                used-added t x slot,
                length-added t x slot,
                new-first (known t) x.key (keys_of xs),
                new-same (known (add t x)) (λ j. known t j || same_key x.key j) (known-added t x slot) (keys_of xs),
              );
          leaves = w.leaves;
        }

    go : (o : Outcome Table) → storing ls t (x ∷ []) ≡ o → (in_turn ls (add t x) xs ≡ answered u → (add t x).used ≤ slots_in (add t x).words → Accepted ls (add t x) xs u)
        → and_then o (λ v. in_turn ls v xs) ≡ answered u → Accepted ls t (x ∷ xs) u
    go (refused n) q ih e = never e
    go (answered v) q ih e =
        let w : Accepted ls t (x ∷ []) v = stored-accepted ls t (x ∷ []) q in
        let l : v ≡ add t x = w.leaves in
        after (rw l at w) (ih (rw l at e))

-- seeding is the insertion if absent of each entry in turn: one goes ahead exactly if the other does, and they leave the same table
pub stored-in-turn : (ls : Lengths) (t : Table) (xs : List Addition) {u : Table} → storing ls t xs ≡ answered u → in_turn ls t xs ≡ answered u
stored-in-turn ls t xs e = let w = stored-accepted ls t xs e in accepted-in-turn ls t xs w.places w.room ∙ ap answered (sym w.leaves)

pub in-turn-stored : (ls : Lengths) (t : Table) (xs : List Addition) {u : Table} → t.used ≤ slots_in t.words → in_turn ls t xs ≡ answered u → storing ls t xs ≡ answered u
in-turn-stored ls t xs {u} fits e = accepted-stored ls t xs (in-turn-accepted ls t u xs e fits)
