-- One MFT entry: its header, and what becomes of it.
use Rattle.std.specs.Prelude.{ℕ, ◌/◌, ◌%◌, List, Bool, cond, ◌||◌, ltb, eqb, Option, Some, None}
use Rattle.base.specs.Places.{place_from}
use Rattle.usn_record.specs.Bytes.{le_at}
use Rattle.mft_carver.specs.declared.Settings.{Settings}
use Rattle.mft_sectors.specs.SectorEnds.{sound, restored}
use Rattle.mft_attributes.specs.Attributes.{filename_in}
use Rattle.mft_carver.specs.declared.CarvedMftEntry.{CarvedMftEntry}
use Rattle.mft_attributes.specs.declared.filename.Filename.{Filename}

-- an entry's header
pub record EntryHeader : Type 0 where
  pub sequence : ℕ
  -- the offset of the first attribute
  pub first : ℕ
  pub flags : ℕ
  pub number : ℕ

abbrev pub entry_header_of : List ℕ → EntryHeader
entry_header_of e = record { sequence = le_at 2 e 16; first = le_at 2 e 20; flags = le_at 2 e 22; number = le_at 4 e 44 }

-- flags 1 and 2
abbrev pub in_use : ℕ → Bool
in_use flags = eqb (flags % 2) 1

abbrev pub is_directory : ℕ → Bool
is_directory flags = eqb (flags / 2 % 2) 1

-- the header of no entry: it was never used, or its first attribute lies outside the limits
abbrev pub bad_header : Settings → EntryHeader → Bool
bad_header st h = eqb h.sequence 0 || ltb h.first st.first_low || ltb st.first_high h.first

-- the entry at o of an image, with this header and name
abbrev pub entry_of : ℕ → EntryHeader → Filename → CarvedMftEntry
entry_of o h f =
    record {
      offset = o;
      entry_number = h.number;
      sequence_number = h.sequence;
      filename = place_from o f.place;
      parent_entry = f.parent.entry;
      parent_sequence = f.parent.sequence;
      is_directory = is_directory h.flags;
      is_in_use = in_use h.flags;
    }

-- a candidate, an entry with the signature: rejected, or carved
pub data Event : Type 0 where
  rejected : ℕ → Event
  carved : CarvedMftEntry → Event

-- a candidate without a name is rejected
abbrev pub by_name : ℕ → EntryHeader → Option Filename → Event
by_name o h None = rejected o
by_name o h (Some f) = carved (entry_of o h f)

-- what becomes of the candidate e, which stands at o of an image: with a good header and a sound array its name is that of the restored entry
unfoldable pub judged : Settings → ℕ → List ℕ → Event
judged st o e =
    let h = entry_header_of e in
    cond (bad_header st h) (rejected o)
    (cond (sound e) (by_name o h (filename_in st.walked (restored e) h.first)) (rejected o))
