-- The bytes of which the cases are made, from the scope's own numbers: nothing here cites a constant or a sample of the crates that the cases are about.
use Rattle.std.specs.Prelude.{ℕ, zero, suc, ◌+◌, ◌-◌, ◌/◌, ◌%◌, List, [], ◌∷◌, ◌++◌, length, replicate, take, drop}

-- n as w bytes, the lowest first
abbrev pub le : ℕ → ℕ → List ℕ
le zero n = []
le (suc w) n = n % 256 ∷ le w (n / 256)

-- n bytes that begin with a record's length field, and zeros
abbrev pub slice_of : ℕ → ℕ → List ℕ
slice_of n length = le 4 length ++ replicate (n - 4) 0

-- a file reference of 8 bytes: the entry in the low 48 bits, and the sequence
abbrev pub reference : ℕ → ℕ → List ℕ
reference entry sequence = le 6 entry ++ le 2 sequence

-- the first 8 bytes of a record: its length, its major version, and minor version 0
abbrev pub record_header : ℕ → ℕ → List ℕ
record_header length version = le 4 length ++ le 2 version ++ le 2 0

-- E with another time and another name offset: length 64, version 2.0, file 42:3, parent 5:5, USN 4096, reason 100h, source 0, security 0, attributes 20h,
-- name length 4, units 61h 62h
abbrev pub timed : ℕ → ℕ → List ℕ
timed time name_offset =
    record_header 64 2
    ++ reference 42 3
    ++ reference 5 5
    ++ le 8 4096
    ++ le 8 time
    ++ le 4 0x100
    ++ le 4 0
    ++ le 4 0
    ++ le 4 0x20
    ++ le 2 4
    ++ le 2 name_offset
    ++ (0x61 ∷ 0x00 ∷ 0x62 ∷ 0x00 ∷ [])

-- E: its time is the start of 2000, its name at 60
abbrev pub record_e : List ℕ
record_e = timed 125911584000000000 60

-- the first 44 bytes of an MFT entry: FILE, the update sequence array's offset at 4 and its count at 6, the sequence at 16, the first attribute's offset at
-- 20, and the flags at 22, a directory in use
abbrev pub entry_header : ℕ → ℕ → ℕ → ℕ → List ℕ
entry_header array count sequence first =
    (0x46 ∷ 0x49 ∷ 0x4C ∷ 0x45 ∷ []) ++ le 2 array ++ le 2 count ++ replicate 8 0 ++ le 2 sequence ++ le 2 1 ++ le 2 first ++ le 2 3 ++ replicate 20 0

-- a resident attribute of type 30h and 96 bytes with a content of 72 at 24: parent 5:5, and from 64 on a name of three units, its namespace, and abc
abbrev pub name_attribute : ℕ → List ℕ
name_attribute namespace =
    le 4 0x30
    ++ le 4 96
    ++ replicate 8 0
    ++ le 4 72
    ++ le 2 24
    ++ replicate 2 0
    ++ reference 5 5
    ++ replicate 56 0
    ++ (3 ∷ namespace ∷ 0x61 ∷ 0x00 ∷ 0x62 ∷ 0x00 ∷ 0x63 ∷ 0x00 ∷ [])

-- n attributes of type 80h and of 8 bytes, one after the other
abbrev pub others : ℕ → List ℕ
others zero = []
others (suc n) = le 4 0x80 ++ le 4 8 ++ others n

-- the end mark of the attributes
abbrev pub last : List ℕ
last = 0xFF ∷ 0xFF ∷ 0xFF ∷ 0xFF ∷ []

-- zeros after s, up to 1024 bytes
abbrev pub padded : List ℕ → List ℕ
padded s = s ++ replicate (1024 - length s) 0

-- entry 42, with sequence 3, an update sequence array of three zeros at 48, which end both sectors, and these attributes from 56 on
abbrev pub entry_of : List ℕ → List ℕ
entry_of attributes = padded (entry_header 48 3 3 56 ++ le 4 42 ++ replicate 8 0 ++ attributes ++ last)

-- s with these bytes from i on
abbrev pub put : ℕ → List ℕ → List ℕ → List ℕ
put i bs s = take i s ++ bs ++ drop (i + length bs) s

-- an entry of two sectors as a disk stores it, with its array at an offset: a check value at the end of both sectors, and the array of the check value and the true ends
abbrev pub on_disk : ℕ → ℕ → List ℕ → List ℕ
on_disk array check s =
    put 1022 (le 2 check) (put 510 (le 2 check) (put array (le 2 check ++ take 2 (drop 510 s) ++ take 2 (drop 1022 s)) s))
