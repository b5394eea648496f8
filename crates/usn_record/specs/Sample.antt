-- A sample record, for worked examples.
use Rattle.std.specs.Prelude.{ℕ, ◌+◌, ◌*◌, ◌^◌, List, ◌++◌, pos}
use Rattle.usn_record.specs.Bytes.{le_bytes}
use Rattle.usn_record.specs.declared.UsnRecord.{UsnRecord}

-- a file reference of 8 bytes
abbrev pub reference : ℕ → ℕ → List ℕ
reference entry sequence = le_bytes 8 (entry + sequence * 2 ^ 48)

-- the first 8 bytes of a record: its length, its major version, and minor version 0
abbrev pub sample_header : ℕ → ℕ → List ℕ
sample_header n version = le_bytes 4 n ++ (le_bytes 2 version ++ le_bytes 2 0)

-- the fixed part of a version 2 record of n bytes: file 42:3 in folder 5:5, USN 4096, with a FILETIME, a reason and a source, and a name of so
-- many bytes at an offset
abbrev pub sample_fixed : ℕ → ℕ → ℕ → ℕ → ℕ → ℕ → List ℕ
sample_fixed n time reason source name_length name_offset =
    sample_header n 2
    ++ (reference 42 3
    ++ (reference 5 5
    ++ (le_bytes 8 4096
    ++ (le_bytes 8 time
    ++ (le_bytes 4 reason
    ++ (le_bytes 4 source
    ++ (le_bytes 4 0
    ++ (le_bytes 4 0x20
    ++ (le_bytes 2 name_length
    ++ le_bytes 2 name_offset)))))))))

-- a file created at the start of 2000
abbrev pub created_fixed : List ℕ
created_fixed = sample_fixed 64 125911584000000000 0x100 0 4 60

-- with a name of two units
abbrev pub sample_record : ℕ → ℕ → List ℕ
sample_record a b = created_fixed ++ (le_bytes 2 a ++ le_bytes 2 b)

-- what such a record says
abbrev pub sample_fields : UsnRecord
sample_fields =
    record {
      mft_entry = 42;
      mft_sequence = 3;
      parent_mft_entry = 5;
      parent_mft_sequence = 5;
      usn = pos 4096;
      timestamp = record { seconds = 946684800; nanoseconds = 0 };
      reason = 0x100;
      filename = record { offset = 60; length = 4 };
      file_attributes = 0x20;
      source_info = 0;
      security_id = 0;
      major_version = 2;
      minor_version = 0;
      record_length = 64;
      filetime = pos 125911584000000000;
      file_reference_high = 0;
      parent_reference_high = 0;
    }

-- and named ab
abbrev pub record_e : List ℕ
record_e = sample_record 0x61 0x62
