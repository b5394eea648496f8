-- The table as a map from keys to entries: lookups and additions. Of equal keys the lowest slot counts.
use Rattle.std.specs.Prelude.{ℕ, ◌+◌, List, Bool, true, false, cond, Option, Some, None}
use Rattle.entry_slots.specs.Slots.{find_from, info_at, put_at}
use Rattle.entry_slots.specs.declared.EntryKey.{EntryKey}
use Rattle.entry_slots.specs.declared.EntryInfo.{EntryInfo}

-- the words of the slots, and how many of them are used
pub record Table : Type 0 where
  pub words : List ℕ
  pub used : ℕ

abbrev pub table : List ℕ → ℕ → Table
table s used = record { words = s; used = used }

-- the slot of a key: the lowest used one that has it
abbrev pub find : Table → EntryKey → Option ℕ
find t k = find_from t.words k 0 t.used

-- the slot that an entry under a key goes to: that of the key, or the first that is not used
abbrev pub slot_or : ℕ → Option ℕ → ℕ
slot_or used (Some i) = i
slot_or used None = used

abbrev pub slot_for : Table → EntryKey → ℕ
slot_for t k = slot_or t.used (find t k)

-- what a table says of a key
pub data Lookup : Type 0 where
  unknown : Lookup
  entered : EntryInfo → Lookup

abbrev pub lookup_found : List ℕ → Option ℕ → Lookup
lookup_found s (Some i) = entered (info_at s i)
lookup_found s None = unknown

abbrev pub lookup : Table → EntryKey → Lookup
lookup t k = lookup_found t.words (find t k)

-- a key is known if a used slot has it
abbrev pub is_at : Option ℕ → Bool
is_at (Some i) = true
is_at None = false

abbrev pub known : Table → EntryKey → Bool
known t k = is_at (find t k)

-- an entry to be added, and whether it replaces a known one
pub record Addition : Type 0 where
  pub key : EntryKey
  pub info : EntryInfo
  pub replace : Bool

abbrev pub addition : EntryKey → EntryInfo → Bool → Addition
addition k e replace = record { key = k; info = e; replace = replace }

-- by where the key stands: a known entry is replaced or left alone; a new one takes the first slot that is not used
unfoldable pub add_found : Table → Addition → Option ℕ → Table
add_found t a (Some i) = cond a.replace (table (put_at t.words i a.key a.info) t.used) t
add_found t a None = table (put_at t.words t.used a.key a.info) (t.used + 1)

-- the table after an addition, where there is room for it
abbrev pub add : Table → Addition → Table
add t a = add_found t a (find t a.key)
