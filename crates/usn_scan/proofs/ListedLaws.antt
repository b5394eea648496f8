-- Each listed place is a whole version 2 or 3 record inside the extract, so that its parser accepts it. Assumes nothing.
use Prim.Native.Nat.{ℕ, ◌+◌, ◌-◌}
use mathlib.Core.Path.{◌≡◌, refl}
use mathlib.Core.List.{List, [], ◌∷◌}
use native.Mathlib.Omega.{arith}
use lib.ListN.{length}
use Rattle.base.specs.Lists.{All}
use Rattle.base.specs.Outcome.{answered}
use Rattle.base.specs.Places.{part}
use Rattle.base.specs.Walk.{from}
use Rattle.base.specs.declared.Place.{Place}
use Rattle.base.proofs.WalkLaws.{Finds, walk-all}
use Rattle.usn_record.specs.Bytes.{le_at}
use Rattle.usn_record.specs.Layout.{layout_of}
use Rattle.usn_record.specs.Record.{record_of, listed}
use Rattle.usn_record.proofs.ListedLaws.{WholeRecord, whole-listed}
use Rattle.usn_scan.specs.Scan.{Kind, end, word, kind_record, range_record, scan_visit_as, kind_at, scan_visit, events, scanned}
use Rattle.usn_scan.proofs.ScanLaws.{Shaped, shape_at, OfRecord, all-records}

-- a whole record of version 2 or 3 stands at p
abbrev pub Recorded : List ℕ → Place → Type 0
Recorded s p = WholeRecord s p.offset p.length

pub all_map : {A : Type 0} (P Q : A → Type 0) → ((x : A) → P x → Q x) → (xs : List A) → All P xs → All Q xs
all_map P Q f [] h = tt
all_map P Q f (x ∷ xs) h = (f x h.0, all_map P Q f xs h.1)

module _ (s : List ℕ) where
  kind-recorded : (o : ℕ) (k : Kind) → Shaped s o k → Finds (OfRecord (Recorded s)) (scan_visit_as o (le_at 4 s o) k)
  kind-recorded o end h = tt
  kind-recorded o word h = tt
  kind-recorded o kind_record h = (
    record {
      size = refl;
      inside = omega arith;
      fixed = h.1.fixed;
      most = h.0.most;
      version = h.1.version;
    },
    tt,
  )
  kind-recorded o range_record h = (tt, tt)

  visit-recorded : (o : ℕ) → Finds (OfRecord (Recorded s)) (scan_visit s o)
  unfolding scan_visit
  visit-recorded o = kind-recorded o (kind_at s o) (shape_at s o)

  pub scan-recorded : All (Recorded s) (scanned s)
  unfolding scanned from
  scan-recorded = all-records (Recorded s) (events s) (walk-all (OfRecord (Recorded s)) (scan_visit s) visit-recorded (length s - 0) 0)

-- the record at p, taken by its offset alone, is the one that its part parses to
abbrev pub Parses : List ℕ → Place → Type 0
Parses s p = listed s p.offset ≡ answered (record_of (layout_of (le_at 2 s (p.offset + 4))) (part s p.offset p.length))

-- the scan's parser refuses nothing that the scan hands it
pub scan-parses : (s : List ℕ) → All (Parses s) (scanned s)
scan-parses s = all_map (Recorded s) (Parses s) (λ p. whole-listed) (scanned s) (scan-recorded s)
