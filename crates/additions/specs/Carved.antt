-- Seeding: the image carver's flat list of entries, nine words an entry, added if absent.
use Rattle.std.specs.Prelude.{ℕ, ◌+◌, ◌*◌, ◌/◌, List, false, length, get_or}
use Rattle.base.specs.Outcome.{Outcome}
use Rattle.mft_carver.specs.Carve.{entry_stride}
use Rattle.mft_carver.specs.declared.CarvedMftEntry.{CarvedMftEntry}
use Rattle.entry_slots.specs.Names.{Lengths}
use Rattle.entry_slots.specs.Slots.{key_in}
use Rattle.base.specs.Lists.{rows}
use Rattle.entry_slots.specs.Table.{Table, Addition, addition}
use Rattle.additions.specs.Storing.{storing}
use Rattle.entry_slots.specs.declared.EntryKey.{EntryKey}
use Rattle.entry_slots.specs.declared.NamePlace.{NamePlace}
use Rattle.entry_slots.specs.declared.EntryInfo.{EntryInfo}

-- the words of a carved entry: offset, entry number, sequence, name offset, name length, parent entry, parent sequence, directory, in use
abbrev pub row : ℕ
row = entry_stride

-- the source of its name: the image
abbrev pub image_source : ℕ
image_source = 1

-- the key of carved entry i, where its name lies, and what it says of the key
abbrev pub carved_key : List ℕ → ℕ → EntryKey
carved_key es i = key_in es (i * row + 1)

abbrev pub carved_name : List ℕ → ℕ → NamePlace
carved_name es i = record { source = image_source; offset = get_or es (i * row + 3) 0; length = get_or es (i * row + 4) 0 }

abbrev pub carved_info : List ℕ → ℕ → EntryInfo
carved_info es i = record { parent = key_in es (i * row + 5); name = carved_name es i }

-- it never replaces
abbrev pub carved_at : List ℕ → ℕ → Addition
carved_at es i = addition (carved_key es i) (carved_info es i) false

-- the whole entries of a list, and how many they are
abbrev pub carved_count : List ℕ → ℕ
carved_count es = length es / row

abbrev pub carved_in : List ℕ → List Addition
carved_in es = rows (carved_at es) 0 (carved_count es)

-- what a carved entry adds
abbrev pub addition_of : CarvedMftEntry → Addition
addition_of x =
    addition (record { entry = x.entry_number; sequence = x.sequence_number })
    (record {
      parent = record { entry = x.parent_entry; sequence = x.parent_sequence };
      name = record { source = image_source; offset = x.filename.offset; length = x.filename.length };
    })
    false

-- seeding stores them all, or none
abbrev pub seeding : Lengths → Table → List ℕ → Outcome Table
seeding ls t es = storing ls t (carved_in es)
