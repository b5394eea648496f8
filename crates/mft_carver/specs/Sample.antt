-- Sample entries: a header, attributes, and zeros up to 1024 bytes.
use Rattle.std.specs.Prelude.{ℕ, zero, suc, ◌-◌, List, [], ◌∷◌, ◌++◌, length, replicate}
use Rattle.usn_record.specs.Bytes.{le_bytes}
use Rattle.usn_record.specs.Sample.{reference}
use Rattle.mft_attributes.specs.Attributes.{file_name, end_marker}
use Rattle.mft_sectors.specs.Signature.{signature}

-- the first 44 bytes of an entry: a directory in use, with an update sequence array of three numbers at 48, this sequence and its first attribute
-- at first
abbrev pub sample_entry_header : ℕ → ℕ → List ℕ
sample_entry_header sequence first =
    signature ++ le_bytes 2 48 ++ le_bytes 2 3 ++ replicate 8 0 ++ le_bytes 2 sequence ++ le_bytes 2 1 ++ le_bytes 2 first ++ le_bytes 2 3 ++ replicate 20 0

-- what stands before the name in a resident $FILE_NAME attribute of 96 bytes: its header, and its content with parent 5:5 and a name of three units
abbrev pub before_name : ℕ → List ℕ
before_name namespace =
    le_bytes 4 file_name
    ++ le_bytes 4 96
    ++ replicate 8 0
    ++ le_bytes 4 72
    ++ le_bytes 4 24
    ++ reference 5 5
    ++ replicate 56 0
    ++ (3 ∷ namespace ∷ [])

-- the units of a name
abbrev pub abc : List ℕ
abc = le_bytes 2 0x61 ++ le_bytes 2 0x62 ++ le_bytes 2 0x63

-- the attribute with the name abc
abbrev pub name_attribute : ℕ → List ℕ
name_attribute namespace = before_name namespace ++ abc

-- n attributes of another type and of 8 bytes, one after the other
abbrev pub others : ℕ → List ℕ
others zero = []
others (suc n) = le_bytes 4 0x80 ++ le_bytes 4 8 ++ others n

abbrev pub last : List ℕ
last = le_bytes 4 end_marker

-- zeros after s, up to 1024 bytes
abbrev pub padded : List ℕ → List ℕ
padded s = s ++ replicate (1024 - length s) 0

-- the eight bytes from 48 on: the array of a check value and the true ends of two sectors, and two zeros
abbrev pub sample_array : ℕ → ℕ → ℕ → List ℕ
sample_array value a b = le_bytes 2 value ++ le_bytes 2 a ++ le_bytes 2 b ++ replicate 2 0

-- entry 42, with sequence 3 and these attributes, whose sectors end in zeros
abbrev pub sample : List ℕ → List ℕ
sample attributes = padded (sample_entry_header 3 56 ++ le_bytes 4 42 ++ sample_array 0 0 0 ++ attributes ++ last)

-- Entry 42 with a name of three units at 508, a, a unit, and c: the unit is the end of the first sector, where the check value 7 is stored, and stands
-- in the array.
abbrev pub before_unit : List ℕ
before_unit = sample_entry_header 3 56 ++ le_bytes 4 42 ++ le_bytes 2 7

abbrev pub behind_unit : List ℕ
behind_unit =
    replicate 4 0
    ++ (le_bytes 4 0x80 ++ le_bytes 4 362 ++ replicate 354 0)
    ++ before_name 1
    ++ (le_bytes 2 0x61 ++ le_bytes 2 7 ++ le_bytes 2 0x63)
    ++ last
    ++ replicate 504 0
    ++ le_bytes 2 7

abbrev pub across : ℕ → List ℕ
across unit = before_unit ++ (le_bytes 2 unit ++ behind_unit)
