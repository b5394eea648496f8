-- The calls that store entries: how many keys are new, the refusals in their order, and what the lent words hold after them.
use Rattle.std.specs.Prelude.{ℕ, zero, suc, ◌+◌, List, [], ◌∷◌, map, Bool, cond, not, ◌||◌, ltb, leb}
use Rattle.base.specs.Outcome.{Outcome, refused, answered, map_outcome}
use Rattle.base.specs.Refusals.{bad_state, name_outside, table_full}
use Rattle.entry_slots.specs.Names.{Lengths, all_inside}
use Rattle.entry_slots.specs.Slots.{slots_in, same_key}
use Rattle.entry_slots.specs.Table.{Table, known, Addition, addition, add}
use Rattle.entry_slots.specs.declared.EntryKey.{EntryKey}
use Rattle.entry_slots.specs.declared.NamePlace.{NamePlace}
use Rattle.entry_slots.specs.declared.EntryInfo.{EntryInfo}

-- how many different keys of a list are new: neither known before nor earlier in the list
unfoldable pub new_keys : (EntryKey → Bool) → List EntryKey → ℕ
new_keys is_known [] = 0
new_keys is_known (k ∷ ks) = cond (is_known k) 0 1 + new_keys (λ j. is_known j || same_key k j) ks

-- a key is in the table or among the first i of these keys: what a loop that counts new keys asks
unfoldable pub seen : Table → (ℕ → EntryKey) → ℕ → EntryKey → Bool
seen t keys zero k = known t k
seen t keys (suc i) k = seen t keys i k || same_key (keys i) k

abbrev pub keys_of : List Addition → List EntryKey
keys_of xs = map (λ (a : Addition). a.key) xs

abbrev pub names_of : List Addition → List NamePlace
names_of xs = map (λ (a : Addition). a.info.name) xs

-- how many different keys of these additions are new to a table, and whether so many slots are enough for its used ones and for them
abbrev pub new_in : Table → List Addition → ℕ
new_in t xs = new_keys (known t) (keys_of xs)

abbrev pub fits : Table → List Addition → ℕ → Bool
fits t xs slots = leb (t.used + new_in t xs) slots

-- the table after all of these, in turn
unfoldable pub add_all : Table → List Addition → Table
add_all t [] = t
add_all t (x ∷ xs) = add_all (add t x) xs

-- 6: the used slots plus the different keys to be added exceed the slots; else all are added in turn
unfoldable pub adding : Table → List Addition → Outcome Table
adding t xs =
    cond (ltb (slots_in t.words) (t.used + new_keys (known t) (keys_of xs))) (refused table_full)
    (answered (add_all t xs))

-- 9: the used slots are above the slots; 7: a name's place, of a known key too, is outside its slice; then 6
unfoldable pub storing : Lengths → Table → List Addition → Outcome Table
storing ls t xs =
    cond (ltb (slots_in t.words) t.used) (refused bad_state)
    (cond (not (all_inside ls (names_of xs))) (refused name_outside)
    (adding t xs))

-- insert replaces a known entry, and insert if absent does not
abbrev pub inserting : Lengths → Table → EntryKey → EntryInfo → Bool → Outcome Table
inserting ls t k e replace = storing ls t (addition k e replace ∷ [])

-- what a call answers: the used slots, or a refusal
abbrev pub used_after : Outcome Table → Outcome ℕ
used_after = map_outcome (λ (t : Table). t.used)

-- what the lent words hold after it; a refusal writes nothing
abbrev pub words_after : Outcome Table → List ℕ → List ℕ
words_after (refused n) s = s
words_after (answered t) s = t.words
