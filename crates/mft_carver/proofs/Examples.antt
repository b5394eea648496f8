-- Two runs that really differ, also in the byte that an attribute without a name takes for a name's length, or in a character at the end of a
-- sector; an image too short for an entry; and a name past the attributes that are walked. All computed. Assumes nothing.
use Prim.Native.Nat.{ℕ}
use mathlib.Core.Path.{◌≡◌, refl, ap}
use mathlib.Core.List.{List, [], ◌∷◌, ◌++◌}
use native.Mathlib.Omega.{arith}
use lib.ListN.{get_or, take, drop, replicate}
use Rattle.base.specs.Lists.{rows}
use Rattle.base.specs.Masked.{Masked}
use Rattle.base.specs.Outcome.{answered}
use Rattle.base.specs.Places.{part}
use Rattle.base.specs.Walk.{walk, from}
use Rattle.base.proofs.MaskedLaws.{masked-middle}
use Rattle.base.proofs.RowLaws.{masked-bytes}
use Rattle.usn_record.specs.Bytes.{le, le_at, le_bytes}
use Rattle.usn_record.specs.Fields.{reference_of}
use Rattle.mft_carver.specs.Settings.{standard}
use Rattle.mft_attributes.specs.Filename.{replaces, keep}
use Rattle.mft_attributes.specs.Attributes.{given, attribute_at, attribute_visit, filename_in}
use Rattle.mft_sectors.specs.Signature.{has_signature}
use Rattle.mft_sectors.specs.SectorEnds.{ending, sound, home, restored_by, restored}
use Rattle.mft_carver.specs.Entry.{judged}
use Rattle.mft_carver.specs.Carve.{image_visit, stats_of, stats_in, carving}
use Rattle.mft_carver.specs.Masking.{carved_homes}
use Rattle.mft_carver.specs.Sample.{abc, name_attribute, others, sample, before_unit, behind_unit, across}
use Rattle.mft_carver.proofs.HomeExamples.{front, back, image, xbc, homes-abc, across-homes}
use Rattle.mft_carver.proofs.ImageTwoRuns.{SameCarving, call-two-runs}

outcome : carving standard (image abc) 9 ≡ answered (record { bytes_scanned = 1024; candidates_examined = 1; entries_carved = 1; rejected = 0 })
unfolding carving from walk image_visit has_signature judged sound ending restored_by rows home filename_in attribute_visit attribute_at given keep replaces reference_of le_at le
outcome = refl

-- the second run differs, in the carved name alone, and in the byte that the first attribute takes for its name's length
pub image-differs : image abc ≡ image xbc → ⊥
image-differs e = let z : ◌≡◌ {A = ℕ} 0x61 0x78 = ap (λ (s : List ℕ). get_or s 170 0) e in omega arith

pub image-masked : Masked (image abc) (image xbc) (carved_homes standard (image abc) 9)
image-masked = rw homes-abc (masked-bytes 170 6 (masked-middle front abc xbc back refl))

-- its call, with a list of nine words, comes out the same
pub image-two-runs : SameCarving standard (image abc) (image xbc) (replicate 9 0)
image-two-runs = call-two-runs standard (omega arith) refl (image abc) (image xbc) (replicate 9 0) image-masked

-- A name with a unit at the end of the first sector.
across-outcome : carving standard (across 0x62) 9
    ≡ answered (record { bytes_scanned = 1024; candidates_examined = 1; entries_carved = 1; rejected = 0 })
unfolding carving from walk image_visit has_signature judged sound ending restored_by rows home filename_in attribute_visit attribute_at given keep replaces reference_of le_at le
across-outcome = refl

-- the restored name
pub across-name : part (restored (across 0x62)) 508 6 ≡ abc
unfolding restored_by rows home le_at le
across-name = refl

-- the second run differs in that unit, in the array alone
pub across-differs : across 0x62 ≡ across 0x78 → ⊥
across-differs e = let z : ◌≡◌ {A = ℕ} 0x62 0x78 = ap (λ (s : List ℕ). get_or s 50 0) e in omega arith

pub across-masked : Masked (across 0x62) (across 0x78) (carved_homes standard (across 0x62) 9)
unfolding rows
across-masked =
    let m = masked-bytes 50 2 (masked-middle before_unit (le_bytes 2 0x62) (le_bytes 2 0x78) behind_unit refl) in
    rw across-homes (record { long = m.long; same = λ i h. m.same i (h.1.1.0, (h.1.1.1.0, tt)) })

pub across-two-runs : SameCarving standard (across 0x62) (across 0x78) (replicate 9 0)
across-two-runs = call-two-runs standard (omega arith) refl (across 0x62) (across 0x78) (replicate 9 0) across-masked

-- Replacing what is stored at the name's own bytes is another matter: with another value at the end of the first sector the entry is rejected.
pub stored-end-matters : stats_in standard (take 510 (across 0x62) ++ ((8 ∷ 0 ∷ []) ++ drop 512 (across 0x62)))
    ≡ record { bytes_scanned = 1024; candidates_examined = 1; entries_carved = 0; rejected = 1 }
unfolding from walk image_visit has_signature judged sound ending le_at le
stored-end-matters = refl

-- and so it is where the second sector does not end with the array's first number
pub other-end : stats_in standard (take 1023 (across 0x62) ++ (1 ∷ []))
    ≡ record { bytes_scanned = 1024; candidates_examined = 1; entries_carved = 0; rejected = 1 }
unfolding from walk image_visit has_signature judged sound ending le_at le
other-end = refl

-- 1023 bytes of an entry with a name are no entry, and its last byte makes one
pub short-image : stats_in standard (take 1023 (sample (name_attribute 1))) ≡ stats_of 1023 []
unfolding from walk image_visit
short-image = refl

pub whole-image : stats_in standard (sample (name_attribute 1)) ≡ record { bytes_scanned = 1024; candidates_examined = 1; entries_carved = 1; rejected = 0 }
unfolding from walk image_visit has_signature judged sound ending restored_by rows home filename_in attribute_visit attribute_at given keep replaces reference_of le_at le
whole-image = refl

-- a name in the 20th attribute is seen, and one in the 21st is not
pub twentieth : stats_in standard (sample (others 19 ++ name_attribute 1)) ≡ record { bytes_scanned = 1024; candidates_examined = 1; entries_carved = 1; rejected = 0 }
unfolding from walk image_visit has_signature judged sound ending restored_by rows home filename_in attribute_visit attribute_at given keep replaces reference_of le_at le
twentieth = refl

pub twenty-first : stats_in standard (sample (others 20 ++ name_attribute 1)) ≡ record { bytes_scanned = 1024; candidates_examined = 1; entries_carved = 0; rejected = 1 }
unfolding from walk image_visit has_signature judged sound ending restored_by rows home filename_in attribute_visit attribute_at given keep replaces reference_of le_at le
twenty-first = refl
