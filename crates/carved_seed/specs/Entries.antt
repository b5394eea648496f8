-- The entries of a lent slice, by their numbers.
use Rattle.std.specs.Prelude.{ℕ, List, false, get_or}
use Rattle.mft_carver.specs.declared.CarvedMftEntry.{CarvedMftEntry}
use Rattle.entry_slots.specs.Table.{Addition}
use Rattle.additions.specs.Carved.{addition_of}

-- entry i of a list; past its end, one of zeros
abbrev pub none : CarvedMftEntry
none =
    record {
      offset = 0;
      entry_number = 0;
      sequence_number = 0;
      filename = record { offset = 0; length = 0 };
      parent_entry = 0;
      parent_sequence = 0;
      is_directory = false;
      is_in_use = false;
    }

abbrev pub entry_at : List CarvedMftEntry → ℕ → CarvedMftEntry
entry_at es i = get_or es i none

-- what it adds
abbrev pub added_at : List CarvedMftEntry → ℕ → Addition
added_at es i = addition_of (entry_at es i)
