-- The claim fails if names inside fixed parts may differ too, and without the carver's exception. All computed. Assumes nothing.
use Prim.Native.Nat.{ℕ}
use mathlib.Core.Path.{◌≡◌, refl, sym, ap, ◌∙◌}
use mathlib.Core.List.{List, [], ◌∷◌}
use native.Mathlib.Omega.{arith}
use lib.ListN.{take, drop}
use Rattle.base.specs.Masked.{Masked, places_of}
use Rattle.base.specs.Outcome.{Outcome, refused, answered, listed_by}
use Rattle.base.specs.Places.{place_from}
use Rattle.base.specs.Walk.{walk, from}
use Rattle.base.specs.declared.Place.{Place}
use Rattle.base.proofs.MaskedLaws.{masked-middle}
use Rattle.usn_record.specs.Bytes.{le, le_at, le_bytes}
use Rattle.usn_record.specs.Fields.{filename_of}
use Rattle.usn_record.specs.Record.{record_of, parsed, listed}
use Rattle.usn_record.specs.declared.UsnRecord.{UsnRecord}
use Rattle.usn_record.specs.Sample.{sample_fixed}
use Rattle.usn_scan.specs.Scan.{kind_by_version, kind_of, scan_visit, scanned}
use Rattle.usn_scan.specs.Outcome.{scan}
use Rattle.usn_carver.specs.Settings.{standard}
use Rattle.usn_carver.specs.Events.{structure, rejected, carved}
use Rattle.usn_carver.specs.Carve.{judged, carver_visit_as, carving, events, carver_visit}
use Rattle.usn_carver.specs.Masking.{name_of}
use Rattle.usn_carver.proofs.Examples.{overlap-first, overlap-masked}
use Rattle.masking.specs.Demand.{image_names, journal_names, SharedRecords, scanner, carver, scan_places, carver_places, Share}
use Rattle.masking.proofs.Examples.{list}
use Rattle.masking.proofs.Sample.{unchanged}

-- A record whose name begins at 40, inside the fixed part, where its reason stands. Units replaced in that name make it another record: were names
-- replaced wherever they begin, the records would not be shared.
abbrev reasoned : ℕ → List ℕ
reasoned reason = sample_fixed 60 125911584000000000 reason 0 4 40

abbrev wherever : List ℕ → List Place → List Place
wherever journal places = places_of (λ (p : Place). listed_by (λ (r : UsnRecord). place_from p.offset r.filename ∷ []) (listed journal p.offset)) places

reasoned-listed : scan_places (reasoned 0x100) list ≡ record { offset = 0; length = 60 } ∷ []
unfolding scan scanned from walk scan_visit kind_of kind_by_version le_at le
reasoned-listed = refl

reasoned-name : wherever (reasoned 0x100) (scan_places (reasoned 0x100) list) ≡ record { offset = 40; length = 4 } ∷ []
unfolding scan scanned from walk scan_visit kind_of kind_by_version listed parsed record_of filename_of le_at le
reasoned-name = refl

reasoned-masked : Masked (reasoned 0x100) (reasoned 0x1000) (wherever (reasoned 0x100) (scan_places (reasoned 0x100) list))
reasoned-masked = rw reasoned-name (masked-middle (take 40 (reasoned 0x100)) (le_bytes 4 0x100) (le_bytes 4 0x1000) (drop 44 (reasoned 0x100)) refl)

abbrev reason_of : Outcome UsnRecord → ℕ
reason_of (refused n) = 0
reason_of (answered r) = r.reason

reasons : (reason_of (listed (reasoned 0x100) 0) ≡ 0x100) × (reason_of (listed (reasoned 0x1000) 0) ≡ 0x1000)
unfolding listed parsed record_of le_at le
reasons = (refl, refl)

pub fixed-part-matters : ((journal journal' image image' list entries : List ℕ) → Masked image image' (image_names image entries)
    → Masked journal journal' (wherever journal (scan_places journal list)) → Share (scanner list) journal journal' image image' entries) → ⊥
fixed-part-matters claim =
    let shares = claim (reasoned 0x100) (reasoned 0x1000) [] [] list [] (unchanged [] (image_names [] [])) reasoned-masked in
    let k : SharedRecords (reasoned 0x100) (reasoned 0x1000) (record { offset = 0; length = 60 } ∷ []) = rw reasoned-listed at shares.records in
    let e : ◌≡◌ {A = ℕ} 0x1000 0x100 = sym reasons.1 ∙ ap reason_of k.0 ∙ reasons.0 in
    omega arith

-- Two journals that differ in the name of a carved version 2 record, 8 bytes after a rejected version 3 candidate, and are carved differently: without
-- its exception, the carver's places would not be shared.
record Overlap : Type 0 where
  first : List ℕ
  second : List ℕ
  masks : Masked first second (places_of (name_of first) (events standard first))

abbrev overlap : Overlap
overlap = record { first = _; second = _; masks = overlap-masked }

overlap-places : (carver_places overlap.first list ≡ record { offset = 8; length = 68 } ∷ [])
    × (carver_places overlap.second list ≡ record { offset = 0; length = 80 } ∷ [])
unfolding carving from walk carver_visit carver_visit_as judged le_at le
overlap-places = (refl, refl)

overlap-carved : events standard overlap.first ≡ rejected structure 0 3 ∷ carved 8 2 68 ∷ []
overlap-carved = overlap-first

pub exception-matters : ((journal journal' image image' list entries : List ℕ) → Masked image image' (image_names image entries)
    → Masked journal journal' (journal_names journal (carver_places journal list)) → Share (carver list) journal journal' image image' entries) → ⊥
exception-matters claim =
    let m : Masked overlap.first overlap.second (journal_names overlap.first (carver_places overlap.first list)) =
    rw overlap-places.0 (rw overlap-carved at overlap.masks) in
    let shares = claim overlap.first overlap.second [] [] list [] (unchanged [] (image_names [] [])) m in
    let e : ◌≡◌ {A = ℕ} 0 8 = ap first_offset (sym overlap-places.1 ∙ shares.listed_same ∙ overlap-places.0) in
    omega arith
  where
    first_offset : List Place → ℕ
    first_offset [] = 0
    first_offset (p ∷ ps) = p.offset
