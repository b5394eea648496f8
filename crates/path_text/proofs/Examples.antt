-- Names of an entry of 1024 bytes that meet the end of a sector, computed: read with the true bytes where the entry is whole and its array sound, and as
-- stored everywhere else. Assumes nothing.
use Prim.Native.Nat.{ℕ}
use mathlib.Core.Path.{◌≡◌, refl}
use mathlib.Core.List.{List, [], ◌∷◌, ◌++◌}
use lib.ListN.{replicate, take}
use Rattle.base.specs.Lists.{rows}
use Rattle.usn_record.specs.Bytes.{le, le_at, le_bytes}
use Rattle.mft_sectors.specs.Signature.{signature, has_signature}
use Rattle.mft_sectors.specs.SectorEnds.{ending, sound, home, restored_by}
use Rattle.mft_sectors.specs.Stored.{in_entry, image_bytes}
use Rattle.utf16.specs.Utf16.{alone, code_points, units_at}
use Rattle.utf16.specs.Utf8.{utf8}
use Rattle.utf16.specs.Text.{decoded}
use Rattle.path_text.specs.Text.{image_text, place_text}
use Rattle.path_text.specs.Decoding.{place}

-- the first 48 bytes of an entry whose array of 3 numbers follows them, with its signature, its sequence and the offset of its first attribute
abbrev header : List ℕ → ℕ → ℕ → List ℕ
header file sequence first = file ++ (le_bytes 2 48 ++ (le_bytes 2 3 ++ (replicate 8 0 ++ (le_bytes 2 sequence ++ (le_bytes 2 1 ++ (le_bytes 2 first ++ replicate 26 0))))))

-- the bytes after them: the check value 107h and the true ends b and d, a before the end of the first sector, c after it, and e before the end
-- of the second sector, which is stored as given
abbrev sectors : ℕ → List ℕ
sectors end =
    le_bytes 2 0x107 ++ (le_bytes 2 0x62 ++ (le_bytes 2 0x64 ++ (replicate 454 0
    ++ (le_bytes 2 0x61 ++ (le_bytes 2 0x107 ++ (le_bytes 2 0x63 ++ (replicate 506 0 ++ (le_bytes 2 0x65 ++ le_bytes 2 end))))))))

abbrev sample : List ℕ
sample = header signature 1 56 ++ sectors 0x107

-- the text of n bytes at an offset of an image, and no journal
abbrev says : List ℕ → ℕ → ℕ → List ℕ
says image offset n = place_text [] image (place 1 offset n)

-- the text of the 6 bytes at 508, as they are stored
abbrev stored : List ℕ
stored = 0x61 ∷ 0xC4 ∷ 0x87 ∷ 0x63 ∷ []

-- the name abc lies across the end of the first sector
pub across : says sample 508 6 ≡ 0x61 ∷ 0x62 ∷ 0x63 ∷ []
unfolding place_text image_text image_bytes in_entry has_signature sound ending home restored_by rows decoded code_points alone utf8 units_at le_at le
across = refl

-- from an odd offset on: byte 509, the two true bytes, byte 512
pub odd-offset : says sample 509 4 ≡ 0xE6 ∷ 0x88 ∷ 0x80 ∷ 0xE6 ∷ 0x8C ∷ 0x80 ∷ []
unfolding place_text image_text image_bytes in_entry has_signature sound ending home restored_by rows decoded code_points alone utf8 units_at le_at le
odd-offset = refl

-- ab ends with the first sector, and ed with the entry
pub to_the_end : says sample 508 4 ≡ 0x61 ∷ 0x62 ∷ []
unfolding place_text image_text image_bytes in_entry has_signature sound ending home restored_by rows decoded code_points alone utf8 units_at le_at le
to_the_end = refl

pub to-the-last-end : says sample 1020 4 ≡ 0x65 ∷ 0x64 ∷ []
unfolding place_text image_text image_bytes in_entry has_signature sound ending home restored_by rows decoded code_points alone utf8 units_at le_at le
to-the-last-end = refl

-- the same name in the second entry of an image
pub second-entry : says (replicate 1024 0 ++ sample) 1532 6 ≡ 0x61 ∷ 0x62 ∷ 0x63 ∷ []
unfolding place_text image_text image_bytes in_entry has_signature sound ending home restored_by rows decoded code_points alone utf8 units_at le_at le
second-entry = refl

-- nothing but the array is asked: with sequence 0 and a first attribute past the entry the name is read so too
pub array-alone : says (header signature 0 2000 ++ sectors 0x107) 508 6 ≡ 0x61 ∷ 0x62 ∷ 0x63 ∷ []
unfolding place_text image_text image_bytes in_entry has_signature sound ending home restored_by rows decoded code_points alone utf8 units_at le_at le
array-alone = refl

-- as stored: the second sector ends with another value than the first
pub wrong-end : says (header signature 1 56 ++ sectors 0x108) 508 6 ≡ stored
unfolding place_text image_text image_bytes in_entry has_signature sound ending home restored_by rows decoded code_points alone utf8 units_at le_at le
wrong-end = refl

-- as stored: the entry begins with BAAD
pub no-signature : says (header (0x42 ∷ 0x41 ∷ 0x41 ∷ 0x44 ∷ []) 1 56 ++ sectors 0x107) 508 6 ≡ stored
unfolding place_text image_text image_bytes in_entry has_signature sound ending home restored_by rows decoded code_points alone utf8 units_at le_at le
no-signature = refl

-- as stored: the place passes the end of the entry by one byte
pub past-the-entry : says (sample ++ (0x41 ∷ [])) 1023 2 ≡ 0xE4 ∷ 0x84 ∷ 0x81 ∷ []
unfolding place_text image_text image_bytes in_entry has_signature sound ending home restored_by rows decoded code_points alone utf8 units_at le_at le
past-the-entry = refl

-- as stored: so does a place of odd length, whose last byte is not decoded
pub odd-length : says (sample ++ (0x41 ∷ [])) 1022 3 ≡ 0xC4 ∷ 0x87 ∷ []
unfolding place_text image_text image_bytes in_entry has_signature sound ending home restored_by rows decoded code_points alone utf8 units_at le_at le
odd-length = refl

-- as stored: the image lacks the last byte of the entry
pub past-the-image : says (take 1023 sample) 508 6 ≡ stored
unfolding place_text image_text image_bytes in_entry has_signature sound ending home restored_by rows decoded code_points alone utf8 units_at le_at le
past-the-image = refl
