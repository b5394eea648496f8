-- Where the names of carved entries are stored, computed: away from sector ends, and across one. Assumes nothing.
use Prim.Native.Nat.{ℕ}
use mathlib.Core.Path.{◌≡◌, refl}
use mathlib.Core.List.{List, [], ◌∷◌, ◌++◌}
use lib.ListN.{replicate}
use Rattle.base.specs.Lists.{rows}
use Rattle.base.specs.Walk.{walk, from}
use Rattle.usn_record.specs.Bytes.{le, le_at, le_bytes}
use Rattle.usn_record.specs.Fields.{reference_of}
use Rattle.mft_carver.specs.Settings.{standard}
use Rattle.mft_attributes.specs.Filename.{replaces, keep}
use Rattle.mft_attributes.specs.Attributes.{file_name, given, attribute_at, attribute_visit, filename_in}
use Rattle.mft_sectors.specs.Homes.{byte_at}
use Rattle.mft_sectors.specs.Signature.{has_signature}
use Rattle.mft_sectors.specs.SectorEnds.{ending, sound, home, restored_by}
use Rattle.mft_carver.specs.Entry.{judged}
use Rattle.mft_carver.specs.Carve.{image_visit, carving}
use Rattle.mft_carver.specs.Masking.{carved_homes}
use Rattle.mft_carver.specs.Sample.{sample_entry_header, before_name, abc, last, sample_array, across}

-- A $FILE_NAME attribute of 24 bytes at 56, whose content begins at 106, so that the length of its name would stand at 170: there the name of
-- the next attribute begins.
abbrev reaching : List ℕ
reaching = le_bytes 4 file_name ++ le_bytes 4 24 ++ replicate 8 0 ++ le_bytes 4 66 ++ le_bytes 4 50

abbrev pub front : List ℕ
front = sample_entry_header 3 56 ++ le_bytes 4 42 ++ sample_array 0 0 0 ++ reaching ++ before_name 1

abbrev pub back : List ℕ
back = last ++ replicate 844 0

-- that entry with this name
abbrev pub image : List ℕ → List ℕ
image name = front ++ (name ++ back)

abbrev pub xbc : List ℕ
xbc = le_bytes 2 0x78 ++ le_bytes 2 0x62 ++ le_bytes 2 0x63

pub homes-abc : carved_homes standard (image abc) 9 ≡ rows (λ i. record { offset = i; length = 1 }) 170 6
unfolding carving from walk image_visit has_signature judged sound ending restored_by rows home filename_in attribute_visit attribute_at given keep replaces reference_of le_at le
homes-abc = refl

pub across-homes : carved_homes standard (across 0x62) 9 ≡ byte_at 508 ∷ byte_at 509 ∷ byte_at 50 ∷ byte_at 51 ∷ byte_at 512 ∷ byte_at 513 ∷ []
unfolding carving from walk image_visit has_signature judged sound ending restored_by rows home filename_in attribute_visit attribute_at given keep replaces reference_of le_at le
across-homes = refl
