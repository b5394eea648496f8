-- What a listed record says of an entry, and what a rewind makes of it, backward and forward.
use Rattle.std.specs.Prelude.{ℕ, ◌/◌, ◌%◌, List, Bool, ◌||◌, eqb}
use Rattle.base.specs.Outcome.{Outcome, refused, answered, map_outcome}
use Rattle.base.specs.Places.{empty_place, place_from}
use Rattle.base.specs.declared.Place.{Place}
use Rattle.usn_record.specs.Record.{listed}
use Rattle.usn_record.specs.declared.UsnRecord.{UsnRecord}
use Rattle.entry_slots.specs.Table.{Addition, addition}
use Rattle.entry_slots.specs.declared.EntryKey.{EntryKey}
use Rattle.entry_slots.specs.declared.NamePlace.{NamePlace}
use Rattle.additions.specs.declared.entries.RecordEntry.{RecordEntry}

-- the reasons that decide, as Microsoft's page USN_RECORD_V2 lists them
abbrev pub file_create : ℕ
file_create = 0x100

abbrev pub rename_old_name : ℕ
rename_old_name = 0x1000

abbrev pub rename_new_name : ℕ
rename_new_name = 0x2000

-- a record's reasons have this one
unfoldable pub has_reason : ℕ → ℕ → Bool
has_reason bit reasons = eqb (reasons / bit % 2) 1

-- the source of a record's name: the journal
abbrev pub journal_source : ℕ
journal_source = 0

abbrev pub from_journal : Place → NamePlace
from_journal p = record { source = journal_source; offset = p.offset; length = p.length }

-- what the record at o of the journal says: the key of its file, the folder it stands in and its name, and the reasons of the change
unfoldable pub entry_from : ℕ → UsnRecord → RecordEntry
entry_from o r =
    record {
      key = record { entry = r.mft_entry; sequence = r.mft_sequence };
      info = record {
        parent = record { entry = r.parent_mft_entry; sequence = r.parent_mft_sequence };
        name = from_journal (place_from o r.filename);
      };
      reason = r.reason;
    }

-- what stands at a listed offset, or 12
abbrev pub entry_at : List ℕ → ℕ → Outcome RecordEntry
entry_at journal o = map_outcome (entry_from o) (listed journal o)

-- the entry, or zeros: what code reads at an offset, which is known to be a record's before it counts
abbrev pub no_key : EntryKey
no_key = record { entry = 0; sequence = 0 }

abbrev pub entry_or : Outcome RecordEntry → RecordEntry
entry_or (refused n) =
    record { key = no_key; info = record { parent = no_key; name = from_journal empty_place }; reason = 0 }
entry_or (answered e) = e

-- backward an old name is inserted, and forward a new name or a creation; all else is added if absent
abbrev pub backward : RecordEntry → Addition
backward e = addition e.key e.info (has_reason rename_old_name e.reason)

abbrev pub forward : RecordEntry → Addition
forward e = addition e.key e.info (has_reason rename_new_name e.reason || has_reason file_create e.reason)
