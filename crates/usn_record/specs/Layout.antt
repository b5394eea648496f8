-- Where the fields of a USN record lie, by Microsoft's pages USN_RECORD_V2 and USN_RECORD_V3, and what each version asks.
use Rattle.std.specs.Prelude.{ℕ, ◌+◌, Bool, true, false, cond, eqb}

-- offsets from the record's start; the record length is 4 bytes at 0, the versions 2 bytes each at 4 and 6
pub record Layout : Type 0 where
  -- the version
  pub major : ℕ
  -- the bytes of a file reference
  pub reference : ℕ
  pub file : ℕ
  pub parent : ℕ
  pub usn : ℕ
  pub time : ℕ
  pub reason : ℕ
  pub source : ℕ
  pub security : ℕ
  pub attributes : ℕ
  pub name_length : ℕ
  pub name_offset : ℕ
  -- the length of the fixed part
  pub fixed : ℕ
  -- bits 48 to 63 of a reference are a sequence; otherwise the sequence is 0
  pub sequenced : Bool
  -- a name ends inside the record; otherwise inside the slice
  pub name_in_record : Bool
  -- a record's length that passes the slice is refused
  pub length_in_slice : Bool

abbrev pub v2 : Layout
v2 =
    record {
      major = 2;
      reference = 8;
      file = 0x08;
      parent = 0x10;
      usn = 0x18;
      time = 0x20;
      reason = 0x28;
      source = 0x2c;
      security = 0x30;
      attributes = 0x34;
      name_length = 0x38;
      name_offset = 0x3a;
      fixed = 60;
      sequenced = true;
      name_in_record = false;
      length_in_slice = true;
    }

abbrev pub v3 : Layout
v3 =
    record {
      major = 3;
      reference = 16;
      file = 0x08;
      parent = 0x18;
      usn = 0x28;
      time = 0x30;
      reason = 0x38;
      source = 0x3c;
      security = 0x40;
      attributes = 0x44;
      name_length = 0x48;
      name_offset = 0x4a;
      fixed = 76;
      sequenced = false;
      name_in_record = false;
      length_in_slice = false;
    }

-- the layout of version 2, and of version 3
abbrev pub layout_of : ℕ → Layout
layout_of version = cond (eqb version 2) v2 v3

-- a layout by what tells the versions apart: the parent reference's offset, that of the USN, from which on both have the same fields, and
-- what is asked. Those of versions 2 and 3 are `v2` and `v3`.
abbrev pub layout_at : ℕ → ℕ → Bool → Bool → Bool → ℕ → Layout
layout_at parent tail wide sequenced length_in_slice major =
    record {
      major = major;
      reference = cond wide 16 8;
      file = 8;
      parent = parent;
      usn = tail;
      time = tail + 8;
      reason = tail + 16;
      source = tail + 20;
      security = tail + 24;
      attributes = tail + 28;
      name_length = tail + 32;
      name_offset = tail + 34;
      fixed = tail + 36;
      sequenced = sequenced;
      name_in_record = false;
      length_in_slice = length_in_slice;
    }
