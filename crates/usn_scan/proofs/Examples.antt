-- Two scans that really differ, computed, and what a just full and a full list get. Assumes nothing.
use Prim.Native.Nat.{ℕ}
use mathlib.Core.Path.{◌≡◌, refl, ap}
use mathlib.Core.List.{List, [], ◌∷◌, ◌++◌}
use native.Mathlib.Omega.{arith}
use lib.ListN.{get_or, replicate}
use Rattle.base.specs.Lists.{All}
use Rattle.base.specs.Masked.{Masked, places_of}
use Rattle.base.specs.Outcome.{refused, answered}
use Rattle.base.specs.Walk.{walk, from}
use Rattle.base.proofs.MaskedLaws.{masked-middle}
use Rattle.usn_record.specs.Bytes.{le, le_at, le_bytes}
use Rattle.usn_record.specs.Record.{listed}
use Rattle.usn_record.specs.Names.{name_at}
use Rattle.usn_record.specs.Sample.{sample_header, created_fixed, sample_record, record_e}
use Rattle.usn_record.proofs.SampleLaws.{sample-named}
use Rattle.usn_scan.specs.Scan.{kind_by_version, kind_of, scan_visit, scanned}
use Rattle.usn_scan.specs.Outcome.{scan, scan_answer, scan_list}
use Rattle.usn_scan.proofs.TwoRunLaws.{scan-two-runs}

-- zero words and a version 4 record between two records, and a header whose length passes the end
many : scanned (replicate 16 0 ++ record_e ++ sample_header 56 4 ++ replicate 48 0 ++ record_e ++ sample_header 96 2)
    ≡ record { offset = 16; length = 64 } ∷ record { offset = 136; length = 64 } ∷ []
unfolding scanned from walk scan_visit kind_of kind_by_version le_at le
many = refl

-- a list with room for one record of two, and one that is just full
refuses : (scan_answer (record_e ++ record_e) 3 ≡ refused 5) × (scan_list (record_e ++ record_e) (7 ∷ 7 ∷ 7 ∷ []) ≡ 7 ∷ 7 ∷ 7 ∷ [])
unfolding scan scanned from walk scan_visit kind_of kind_by_version le_at le
refuses = (refl, refl)

fills : (scan_answer (record_e ++ record_e) 4 ≡ answered 2) × (scan_list (record_e ++ record_e) (7 ∷ 7 ∷ 7 ∷ 7 ∷ 7 ∷ []) ≡ 0 ∷ 64 ∷ 64 ∷ 64 ∷ 7 ∷ [])
unfolding scan scanned from walk scan_visit kind_of kind_by_version le_at le
fills = (refl, refl)

-- the record with another first unit in its name is masked, is another list of bytes, and has the same outcome
scanned-E : scanned record_e ≡ record { offset = 0; length = 64 } ∷ []
unfolding scanned from walk scan_visit kind_of kind_by_version le_at le
scanned-E = refl

names-E : places_of (λ p. name_at record_e p.offset) (scanned record_e) ≡ record { offset = 60; length = 4 } ∷ []
names-E = rw (scanned-E, sample-named 0x61 0x62) refl

pub E-masked : Masked record_e (sample_record 0x63 0x62) (places_of (λ p. name_at record_e p.offset) (scanned record_e))
E-masked =
    rw names-E (masked-middle created_fixed (le_bytes 2 0x61 ++ le_bytes 2 0x62) (le_bytes 2 0x63 ++ le_bytes 2 0x62) [] refl)

pub E-differs : sample_record 0x63 0x62 ≡ record_e → ⊥
E-differs e = let z : ◌≡◌ {A = ℕ} 0x63 0x61 = ap (λ (s : List ℕ). get_or s 60 0) e in omega arith

pub E-alike : (scanned (sample_record 0x63 0x62) ≡ scanned record_e) × All (λ p. listed (sample_record 0x63 0x62) p.offset ≡ listed record_e p.offset) (scanned record_e)
E-alike = scan-two-runs record_e (sample_record 0x63 0x62) E-masked
