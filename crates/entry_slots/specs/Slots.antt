-- The slots of a table in a flat list of words: seven words a slot.
use Rattle.std.specs.Prelude.{ℕ, zero, suc, ◌+◌, ◌*◌, ◌/◌, List, [], ◌∷◌, ◌++◌, Bool, cond, ◌&&◌, length, get_or, eqb, Option, Some, None}
use Rattle.std.proofs.lemmas.List.Edits.{sets}
use Rattle.base.specs.Lists.{rows}
use Rattle.entry_slots.specs.declared.EntryKey.{EntryKey}
use Rattle.entry_slots.specs.declared.NamePlace.{NamePlace}
use Rattle.entry_slots.specs.declared.EntryInfo.{EntryInfo}

-- the words of a slot
abbrev pub stride : ℕ
stride = 7

-- how many whole slots the words make
abbrev pub slots_in : List ℕ → ℕ
slots_in s = length s / stride

-- two keys are the same
unfoldable pub same_key : EntryKey → EntryKey → Bool
same_key a b = eqb a.entry b.entry && eqb a.sequence b.sequence

-- the key, and the name's place, that stand from word p on
abbrev pub key_in : List ℕ → ℕ → EntryKey
key_in s p = record { entry = get_or s p 0; sequence = get_or s (p + 1) 0 }

abbrev pub name_in : List ℕ → ℕ → NamePlace
name_in s p = record { source = get_or s p 0; offset = get_or s (p + 1) 0; length = get_or s (p + 2) 0 }

-- the key in slot i, where its name lies, and what the slot says of the key
abbrev pub key_at : List ℕ → ℕ → EntryKey
key_at s i = key_in s (i * stride)

abbrev pub slot_name : List ℕ → ℕ → NamePlace
slot_name s i = name_in s (i * stride + 4)

abbrev pub info_at : List ℕ → ℕ → EntryInfo
info_at s i = record { parent = key_in s (i * stride + 2); name = slot_name s i }

-- the words of a key, and those of an entry: its key, its parent, its name's source, offset and length
abbrev pub key_words : EntryKey → List ℕ
key_words k = k.entry ∷ k.sequence ∷ []

abbrev pub slot_words : EntryKey → EntryInfo → List ℕ
slot_words k e = key_words k ++ key_words e.parent ++ (e.name.source ∷ e.name.offset ∷ e.name.length ∷ [])

-- the words with an entry in slot i
unfoldable pub put_at : List ℕ → ℕ → EntryKey → EntryInfo → List ℕ
put_at s i k e = sets s (i * stride) (slot_words k e)

-- the lowest of the n slots from i on that has the key k
unfoldable pub find_from : List ℕ → EntryKey → ℕ → ℕ → Option ℕ
find_from s k i zero = None
find_from s k i (suc n) = cond (same_key (key_at s i) k) (Some i) (find_from s k (i + 1) n)

-- where the names of the first n slots lie
abbrev pub names_in : List ℕ → ℕ → List NamePlace
names_in s n = rows (slot_name s) 0 n
