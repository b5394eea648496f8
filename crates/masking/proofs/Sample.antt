-- What the examples are made of: records of both versions, images of one entry that differ in a unit at a sector's end, and lists of bytes beside themselves.
use Prim.Native.Nat.{ℕ}
use mathlib.Core.Path.{refl}
use mathlib.Core.List.{List, [], ◌∷◌, ◌++◌}
use Rattle.base.specs.Lists.{rows}
use Rattle.base.specs.Masked.{Masked}
use Rattle.base.specs.declared.Place.{Place}
use Rattle.base.proofs.MaskedLaws.{masked-middle}
use Rattle.base.proofs.RowLaws.{masked-bytes}
use Rattle.usn_record.specs.Bytes.{le_bytes}
use Rattle.usn_record.specs.Sample.{sample_header}
use Rattle.mft_carver.specs.Sample.{before_unit, behind_unit, across}
use Rattle.mft_sectors.specs.Homes.{byte_at}
use Rattle.entry_slots.specs.declared.EntryKey.{EntryKey}
use Rattle.entry_slots.specs.declared.EntryInfo.{EntryInfo}
use Rattle.entry_slots.specs.declared.NamePlace.{NamePlace}

-- a name of two units
abbrev pub units : ℕ → ℕ → List ℕ
units a b = le_bytes 2 a ++ le_bytes 2 b

-- what follows the references of a record: USN 4096, the start of 2000, a reason, and a name of 4 bytes at an offset
abbrev fields : ℕ → ℕ → List ℕ
fields reason name_offset =
    le_bytes 8 4096
    ++ (le_bytes 8 125911584000000000
    ++ (le_bytes 4 reason ++ (le_bytes 4 0 ++ (le_bytes 4 0 ++ (le_bytes 4 0x20 ++ (le_bytes 2 4 ++ le_bytes 2 name_offset))))))

-- the fixed part of a version 2 record of 64 bytes, and of a version 3 record of 80 bytes, whose name follows
abbrev pub fixed2 : List ℕ → List ℕ → ℕ → List ℕ
fixed2 file parent reason = sample_header 64 2 ++ (file ++ (parent ++ fields reason 60))

abbrev pub fixed3 : ℕ → ℕ → ℕ → List ℕ
fixed3 file parent reason = sample_header 80 3 ++ (le_bytes 16 file ++ (le_bytes 16 parent ++ fields reason 76))

abbrev pub key : ℕ → ℕ → EntryKey
key entry sequence = record { entry = entry; sequence = sequence }

abbrev pub placed : ℕ → ℕ → ℕ → NamePlace
placed source offset length = record { source = source; offset = offset; length = length }

-- an entry in the root
abbrev pub info : ℕ → ℕ → ℕ → EntryInfo
info source offset length = record { parent = key 5 5; name = placed source offset length }

-- a list of bytes beside itself
pub unchanged : (s : List ℕ) (ps : List Place) → Masked s s ps
unchanged s ps = record { long = refl; same = λ i _. refl }

-- what differs in these places differs in one more
pub one_more : (s t : List ℕ) (p : Place) (ps : List Place) → Masked s t ps → Masked s t (p ∷ ps)
one_more s t p ps m = record { long = m.long; same = λ i a. m.same i a.1 }

-- where the name of the entry is stored, at 508 but for the unit at the end of the first sector, which stands at 50; and images that differ in that unit
abbrev pub name_homes : List Place
name_homes = byte_at 508 ∷ byte_at 509 ∷ byte_at 50 ∷ byte_at 51 ∷ byte_at 512 ∷ byte_at 513 ∷ []

pub units-masked : Masked (across 0x62) (across 0x20AC) name_homes
unfolding rows
units-masked =
    let m = masked-bytes 50 2 (masked-middle before_unit (le_bytes 2 0x62) (le_bytes 2 0x20AC) behind_unit refl) in
    record { long = m.long; same = λ i h. m.same i (h.1.1.0, (h.1.1.1.0, tt)) }
