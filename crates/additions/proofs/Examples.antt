-- A table of two slots and one word more, computed: each refusal in its order, and what an accepted call leaves. Assumes nothing.
use Prim.Native.Nat.{ℕ}
use mathlib.Core.Path.{◌≡◌, refl}
use mathlib.Core.List.{List, [], ◌∷◌}
use mathlib.Core.Bool.{true, false}
use Rattle.base.specs.Lists.{every, rows}
use Rattle.base.specs.Outcome.{refused, answered}
use Rattle.entry_slots.specs.Names.{Lengths, lengths, inside}
use Rattle.entry_slots.specs.Slots.{same_key, put_at, find_from}
use Rattle.entry_slots.specs.Table.{table, entered, lookup, add_found}
use Rattle.additions.specs.Storing.{add_all, new_keys, adding, storing, inserting}
use Rattle.additions.specs.Carved.{seeding}
use Rattle.entry_slots.specs.declared.EntryKey.{EntryKey}
use Rattle.entry_slots.specs.declared.EntryInfo.{EntryInfo}

-- a journal of 64 bytes and an image of 1024
abbrev sizes : Lengths
sizes = lengths 64 1024

abbrev key : ℕ → ℕ → EntryKey
key e s = record { entry = e; sequence = s }

-- under the root, with a name of 4 bytes in the journal at this offset
abbrev under_root : ℕ → EntryInfo
under_root o = record { parent = key 5 5; name = record { source = 0; offset = o; length = 4 } }

-- 42:3 in the first slot, and then in both
abbrev one : List ℕ
one = 42 ∷ 3 ∷ 5 ∷ 5 ∷ 0 ∷ 60 ∷ 4 ∷ 7 ∷ 7 ∷ 7 ∷ 7 ∷ 7 ∷ 7 ∷ 7 ∷ 99 ∷ []

abbrev twice : List ℕ
twice = 42 ∷ 3 ∷ 5 ∷ 5 ∷ 0 ∷ 60 ∷ 4 ∷ 42 ∷ 3 ∷ 6 ∷ 1 ∷ 1 ∷ 512 ∷ 8 ∷ 99 ∷ []

-- a new key takes the first slot that is not used; a name may end where its slice does
pub inserted : inserting sizes (table one 0) (key 42 3) (under_root 60) true ≡ answered (table one 1)
unfolding storing adding add_all add_found put_at new_keys find_from same_key every inside
inserted = refl

-- a known key is replaced, and its slot stays; the other slot and the last word are left alone
pub replaced : inserting sizes (table one 1) (key 42 3) (under_root 8) true
    ≡ answered (table (42 ∷ 3 ∷ 5 ∷ 5 ∷ 0 ∷ 8 ∷ 4 ∷ 7 ∷ 7 ∷ 7 ∷ 7 ∷ 7 ∷ 7 ∷ 7 ∷ 99 ∷ []) 1)
unfolding storing adding add_all add_found put_at new_keys find_from same_key every inside
replaced = refl

-- and if absent it stays
pub kept : inserting sizes (table one 1) (key 42 3) (under_root 8) false ≡ answered (table one 1)
unfolding storing adding add_all add_found put_at new_keys find_from same_key every inside
kept = refl

-- the sequence is part of the key, and the second slot is the last
pub second : inserting sizes (table one 1) (key 42 4) (under_root 8) true
    ≡ answered (table (42 ∷ 3 ∷ 5 ∷ 5 ∷ 0 ∷ 60 ∷ 4 ∷ 42 ∷ 4 ∷ 5 ∷ 5 ∷ 0 ∷ 8 ∷ 4 ∷ 99 ∷ []) 2)
unfolding storing adding add_all add_found put_at new_keys find_from same_key every inside
second = refl

-- 6: no slot is left for a new key; a known one needs none
pub full : inserting sizes (table one 2) (key 42 4) (under_root 8) true ≡ refused 6
unfolding storing adding add_all add_found put_at new_keys find_from same_key every inside
full = refl

pub full-known : inserting sizes (table one 2) (key 7 7) (under_root 8) false ≡ answered (table one 2)
unfolding storing adding add_all add_found put_at new_keys find_from same_key every inside
full-known = refl

-- 7 before 6: a name that ends a byte past the journal
pub outside : inserting sizes (table one 2) (key 42 4) (under_root 61) true ≡ refused 7
unfolding storing adding add_all add_found put_at new_keys find_from same_key every inside
outside = refl

-- 9 before 7: three used slots of two
pub bad-state : inserting sizes (table one 3) (key 42 4) (under_root 61) true ≡ refused 9
unfolding storing adding add_all add_found put_at new_keys find_from same_key every inside
bad-state = refl

-- of equal keys the lowest slot counts
pub lowest : lookup (table twice 2) (key 42 3) ≡ entered (under_root 60)
unfolding find_from same_key
lowest = refl

-- two carved entries with one key, a known one, and a word more: one slot is enough, and the first of equal keys is stored
abbrev carved : List ℕ
carved =
    0 ∷ 50 ∷ 2 ∷ 250 ∷ 6 ∷ 42 ∷ 3 ∷ 0 ∷ 1 ∷
    1024 ∷ 50 ∷ 2 ∷ 300 ∷ 8 ∷ 42 ∷ 3 ∷ 0 ∷ 1 ∷
    2048 ∷ 42 ∷ 3 ∷ 400 ∷ 2 ∷ 5 ∷ 5 ∷ 1 ∷ 1 ∷ 9 ∷ []

pub seeded : seeding sizes (table one 1) carved ≡ answered (table (42 ∷ 3 ∷ 5 ∷ 5 ∷ 0 ∷ 60 ∷ 4 ∷ 50 ∷ 2 ∷ 42 ∷ 3 ∷ 1 ∷ 250 ∷ 6 ∷ 99 ∷ []) 2)
unfolding storing adding add_all add_found put_at new_keys find_from same_key every inside rows
seeded = refl

-- into an empty table of two slots they are two keys; into one whose slots are used by others, one too many
pub seeded-empty : seeding sizes (table one 0) carved ≡ answered (table (50 ∷ 2 ∷ 42 ∷ 3 ∷ 1 ∷ 250 ∷ 6 ∷ 42 ∷ 3 ∷ 5 ∷ 5 ∷ 1 ∷ 400 ∷ 2 ∷ 99 ∷ []) 2)
unfolding storing adding add_all add_found put_at new_keys find_from same_key every inside rows
seeded-empty = refl

pub seeded-full : seeding sizes (table one 2) carved ≡ refused 6
unfolding storing adding add_all add_found put_at new_keys find_from same_key every inside rows
seeded-full = refl

-- 7 looks at a known entry's name too: an image of 401 bytes
pub seeded-outside : seeding (lengths 64 401) (table one 1) carved ≡ refused 7
unfolding storing adding add_all add_found put_at new_keys find_from same_key every inside rows
seeded-outside = refl
