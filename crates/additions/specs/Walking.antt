-- A reader's list of records, and the walk from the last record to the first as code goes it: by numbers, and over entries that are zeros where no record stands.
use Rattle.std.specs.Prelude.{ℕ, ◌-◌, ◌*◌, ◌/◌, List, length, get_or}
use Rattle.base.specs.Lists.{rows}
use Rattle.entry_slots.specs.Table.{Addition}
use Rattle.entry_slots.specs.declared.EntryKey.{EntryKey}
use Rattle.additions.specs.Entries.{entry_at, entry_or, backward}
use Rattle.additions.specs.declared.entries.RecordEntry.{RecordEntry}

-- a reader's list has two words a record, of which the first, its offset, counts; an odd last word is ignored
abbrev pub records_in : List ℕ → ℕ
records_in l = length l / 2

abbrev pub offset_in : List ℕ → ℕ → ℕ
offset_in l i = get_or l (i * 2) 0

abbrev pub offsets_in : List ℕ → List ℕ
offsets_in l = rows (offset_in l) 0 (records_in l)

-- what the record says that is number i, and the one that is so far from the last
abbrev pub entry_in : List ℕ → List ℕ → ℕ → RecordEntry
entry_in journal l i = entry_or (entry_at journal (offset_in l i))

abbrev pub last_entry : List ℕ → List ℕ → ℕ → RecordEntry
last_entry journal l i = entry_in journal l (records_in l - 1 - i)

-- its key, and what it adds
abbrev pub last_key : List ℕ → List ℕ → ℕ → EntryKey
last_key journal l i = (last_entry journal l i).key

abbrev pub last_added : List ℕ → List ℕ → ℕ → Addition
last_added journal l i = backward (last_entry journal l i)

-- all of them
abbrev pub walked_back : List ℕ → List ℕ → List Addition
walked_back journal l = rows (last_added journal l) 0 (records_in l)
