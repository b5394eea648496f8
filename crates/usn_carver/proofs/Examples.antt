-- Two runs that really differ, and two that show why the exception is asked, computed. Assumes nothing.
use Prim.Native.Nat.{ℕ}
use mathlib.Core.Path.{◌≡◌, refl, sym, ap, ◌∙◌}
use mathlib.Core.List.Memᴰ
use mathlib.Core.List.{List, [], ◌∷◌, ◌++◌}
use mathlib.Core.Logic.{⊎_elim, inl}
use native.Mathlib.Omega.{arith}
use lib.ListN.{length, get_or}
use Rattle.base.specs.Masked.{Masked, places_of}
use Rattle.base.specs.Outcome.{answered}
use Rattle.base.specs.Walk.{walk, from}
use Rattle.base.proofs.MaskedLaws.{masked-middle}
use Rattle.usn_record.specs.Bytes.{le, le_at, le_bytes}
use Rattle.usn_record.specs.Names.{name_at}
use Rattle.usn_record.specs.Sample.{sample_header, sample_fixed, created_fixed, sample_record, record_e}
use Rattle.usn_record.proofs.ListedLaws.{whole-name}
use Rattle.usn_record.proofs.SampleLaws.{sample-named}
use Rattle.usn_carver.specs.Settings.{standard}
use Rattle.usn_carver.specs.Events.{structure, rejected, carved}
use Rattle.usn_carver.specs.Carve.{judged, carver_visit_as, carver_visit, events, carving}
use Rattle.usn_carver.specs.Masking.{name_of, NoOverlap, carved_names}
use Rattle.usn_carver.proofs.TwoRunLaws.{SameCarving, call-two-runs}

-- the sample record, and with another second unit in its name
abbrev ax : List ℕ
ax = sample_record 0x61 0x78

pub E-carved : events standard record_e ≡ carved 0 2 64 ∷ []
unfolding from walk carver_visit carver_visit_as judged le_at le
E-carved = refl

pub E-name : name_at record_e 0 ≡ record { offset = 60; length = 4 } ∷ []
E-name = sample-named 0x61 0x62

E-outcome : carving standard record_e 2 ≡ answered (record { bytes_scanned = 64; candidates_examined = 1; records_carved = 1; rejected_timestamp = 0; rejected_structure = 0 })
unfolding carving from walk carver_visit carver_visit_as judged le_at le
E-outcome = refl

lone-carved : (o v n : ℕ) → NoOverlap (carved o v n ∷ [])
lone-carved o v n why p m x y =
    ⊎_elim (λ e. let z : ◌≡◌ {A = ℕ} 0 1 = cc in absurd (omega arith)) Memᴰ.not-nil (Memᴰ.cases_cons x)

-- the second run differs, in the carved name alone, and its call, with a list of two words, comes out the same
pub E-differs : record_e ≡ ax → ⊥
E-differs e = let z : ◌≡◌ {A = ℕ} 0x62 0x78 = ap (λ (s : List ℕ). get_or s 62 0) e in omega arith

pub E-masked : Masked record_e ax (carved_names standard record_e 2)
E-masked = rw (E-outcome, E-carved, E-name) (masked-middle created_fixed (le_bytes 2 0x61 ++ le_bytes 2 0x62) (le_bytes 2 0x61 ++ le_bytes 2 0x78) [] refl)

pub E-two-runs : SameCarving standard record_e ax (0 ∷ 0 ∷ [])
E-two-runs = call-two-runs standard record_e ax (0 ∷ 0 ∷ []) (rw (E-outcome, E-carved) (lone-carved 0 2 64)) E-masked

-- A version 2 record at 8 whose name's third and fourth unit are the name length and the name offset of a version 3 candidate at 0; its
-- reason and source are that candidate's time.
abbrev overlap : List ℕ → List ℕ
overlap name = (sample_header 80 3 ++ sample_fixed 68 125911584000000000 0x256d4000 0x1bf53eb 8 60) ++ (name ++ le_bytes 4 0)

-- units that are no name offset, and units 2 and 76 that make a name of version 3
abbrev abcd : List ℕ
abcd = le_bytes 2 0x61 ++ le_bytes 2 0x62 ++ le_bytes 2 0x63 ++ le_bytes 2 0x64

abbrev ab2_l : List ℕ
ab2_l = le_bytes 2 0x61 ++ le_bytes 2 0x62 ++ le_bytes 2 2 ++ le_bytes 2 76

pub overlap-first : events standard (overlap abcd) ≡ rejected structure 0 3 ∷ carved 8 2 68 ∷ []
unfolding from walk carver_visit carver_visit_as judged le_at le
overlap-first = refl

pub overlap-second : events standard (overlap ab2_l) ≡ carved 0 3 80 ∷ []
unfolding from walk carver_visit carver_visit_as judged le_at le
overlap-second = refl

overlap-name : name_at (overlap abcd) 8 ≡ record { offset = 68; length = 8 } ∷ []
unfolding le_at le
overlap-name =
    whole-name (record { size = refl; inside = omega arith; fixed = omega arith; most = omega arith; version = inl refl }) {k = 60} {m = 8} refl refl
    (omega arith) (omega arith) (omega arith)

-- they differ in the carved name alone, and their events differ
pub overlap-masked : Masked (overlap abcd) (overlap ab2_l) (places_of (name_of (overlap abcd)) (events standard (overlap abcd)))
overlap-masked =
    rw (overlap-first, overlap-name)
    (masked-middle (sample_header 80 3 ++ sample_fixed 68 125911584000000000 0x256d4000 0x1bf53eb 8 60) abcd ab2_l (le_bytes 4 0) refl)

pub overlap-matters : events standard (overlap ab2_l) ≡ events standard (overlap abcd) → ⊥
overlap-matters e =
    let f : length (carved 0 3 80 ∷ []) ≡ length (rejected structure 0 3 ∷ carved 8 2 68 ∷ []) = ap length (sym overlap-second ∙ e ∙ overlap-first) in
    omega arith
