-- Two scans of extracts that differ in listed names alone are the same: what is read at an offset lies before every name met from there on.
-- Assumes nothing.
use Prim.Native.Nat.{ℕ, zero, suc, ◌+◌, ◌-◌, ◌≤◌, ◌<◌}
use mathlib.Core.Path.{◌≡◌, refl, ap}
use mathlib.Core.List.{List, [], ◌∷◌, ◌++◌}
use native.Mathlib.Omega.{arith}
use lib.ListN.{length}
use Rattle.base.specs.Lists.{All}
use Rattle.base.specs.Agree.{Agree}
use Rattle.base.specs.Masked.{Apart, Masked, places_of}
use Rattle.base.specs.Walk.{go, going_on, walk, from}
use Rattle.base.specs.declared.Place.{Place}
use Rattle.base.proofs.AgreeLaws.{agree-in}
use Rattle.base.proofs.MaskedLaws.{Same, Before, apart-append, walk-two-runs}
use Rattle.base.proofs.WalkLaws.{Forward, Finds}
use Rattle.usn_record.specs.Bytes.{le_at}
use Rattle.usn_record.specs.Record.{listed}
use Rattle.usn_record.specs.Names.{fixed_of, name_at}
use Rattle.usn_record.proofs.ByteLaws.{read-agree}
use Rattle.usn_record.proofs.NameLaws.{fixed-low, listed-agrees, name-after-fixed, name-before-end}
use Rattle.usn_scan.specs.Scan.{Kind, end, word, kind_record, range_record, Event, recorded, ranged, scan_visit_as, version_at, kind_at, scan_visit, events, record_places, scanned}
use Rattle.usn_scan.proofs.ScanLaws.{Shaped, shape_at, OfRecord, all-records, visit-forward}

-- the name of what is met, past its fixed part: version 4 records have none
abbrev pub event_names : List ℕ → Event → List Place
event_names s (recorded p) = name_at s p.offset
event_names s (ranged p) = []

-- the names of all that is met are those of the listed records
names-of-records : (s : List ℕ) (es : List Event) → places_of (event_names s) es ≡ places_of (λ p. name_at s p.offset) (record_places es)
names-of-records s [] = refl
names-of-records s (recorded p ∷ es) = ap (λ (ps : List Place). name_at s p.offset ++ ps) (names-of-records s es)
names-of-records s (ranged p ∷ es) = names-of-records s es

-- a visit reads 8 bytes
pub visit-agrees : {s t : List ℕ} (o : ℕ) → Agree s t o (o + 8) → scan_visit t o ≡ scan_visit s o
unfolding scan_visit
visit-agrees {s} {t} o a =
    let x : le_at 4 t o ≡ le_at 4 s o = read-agree 4 o a (omega arith) (omega arith) in
    let y : version_at t o ≡ version_at s o = read-agree 2 (o + 4) a (omega arith) (omega arith) in
    rw (a.long, x, y)

-- how many bytes from an offset on no name lies in, where the version field is v: a record's fixed part, else the least one
abbrev reach : Kind → ℕ → ℕ
reach end v = 60
reach word v = 60
reach kind_record v = fixed_of v
reach range_record v = 60

reach-low : (k : Kind) (v : ℕ) → 60 ≤ reach k v
reach-low end v = omega arith
reach-low word v = omega arith
reach-low kind_record v = fixed-low v
reach-low range_record v = omega arith

module _ (s : List ℕ) where
  -- the names that a walk meets lie past the reach of its first visit
  after-low : (o i : ℕ) (f : ℕ → List Event) (k : Kind) → Shaped s o k → i < o + reach k (version_at s o)
      → ((p : ℕ) → i < p + 60 → Apart (places_of (event_names s) (f p)) i) → Apart (places_of (event_names s) (going_on (scan_visit_as o (le_at 4 s o) k) f)) i
  after-low o i f end w h later = tt
  after-low o i f word w h later = later (o + 8) (omega arith)
  after-low o i f kind_record w h later = apart-append (name_at s o) (places_of (event_names s) (f _)) i (name-after-fixed s o i h) (later _ (omega arith))
  after-low o i f range_record w h later = later _ (omega arith)

  walk-low : (k o i : ℕ) → i < o + 60 → Apart (places_of (event_names s) (walk (scan_visit s) k o)) i
  unfolding walk scan_visit
  walk-low zero o i h = tt
  walk-low (suc k) o i h =
      after-low o i (walk (scan_visit s) k) (kind_at s o) (shape_at s o) (omega (arith, reach-low (kind_at s o) (version_at s o))) (λ p. walk-low k p i)

  first-low : (k o i : ℕ) → i < o + reach (kind_at s o) (version_at s o) → Apart (places_of (event_names s) (walk (scan_visit s) (suc k) o)) i
  unfolding walk scan_visit
  first-low k o i h = after-low o i (walk (scan_visit s) k) (kind_at s o) (shape_at s o) h (λ p. walk-low k p i)

  -- the names of what a visit finds lie before the next offset
  kind-before : (o : ℕ) (k : Kind) → Shaped s o k → Before (event_names s) (scan_visit_as o (le_at 4 s o) k)
  kind-before o end w = tt
  kind-before o word w = λ i h. tt
  kind-before o kind_record w = λ i h. apart-append (name_at s o) [] i (name-before-end s o i (omega arith)) tt
  kind-before o range_record w = λ i h. tt

  visit-before : (o : ℕ) → Before (event_names s) (scan_visit s o)
  unfolding scan_visit
  visit-before o = kind-before o (kind_at s o) (shape_at s o)

  forward-from : (o p : ℕ) (es : List Event) → scan_visit s o ≡ go es p → o ≤ p
  forward-from o p es e = let w : Forward (length s) o (go es p) = rw e at (visit-forward s o) in omega arith

-- a record comes out the same in both runs
abbrev pub Alike : List ℕ → List ℕ → Place → Type 0
Alike s t p = listed t p.offset ≡ listed s p.offset

module _ (s t : List ℕ) where
  kind-alike : (o : ℕ) (k : Kind) → Agree s t o (o + reach k (version_at s o)) → Finds (OfRecord (Alike s t)) (scan_visit_as o (le_at 4 s o) k)
  kind-alike o end a = tt
  kind-alike o word a = tt
  kind-alike o kind_record a = (listed-agrees o a, tt)
  kind-alike o range_record a = (tt, tt)

  visit-reads : length t ≡ length s → (k o : ℕ) → Unit {0} → Same s t (places_of (event_names s) (walk (scan_visit s) (suc k) o)) o
      → (scan_visit t o ≡ scan_visit s o) × Finds (OfRecord (Alike s t)) (scan_visit s o)
  unfolding scan_visit
  visit-reads long k o u m =
      let a : Agree s t o (o + reach (kind_at s o) (version_at s o)) = record { long = long; at = λ i l h. m i l (first-low s k o i h) } in
      (visit-agrees o (agree-in o (o + 8) a (omega arith) (omega (arith, reach-low (kind_at s o) (version_at s o)))), kind-alike o (kind_at s o) a)

  -- all that is met is the same where the names of what is met are masked, and so is each record
  pub events-two-runs : Masked s t (places_of (event_names s) (events s)) → (events t ≡ events s) × All (OfRecord (Alike s t)) (events s)
  unfolding from
  events-two-runs m =
      rw m.long
      (walk-two-runs s t (event_names s) (scan_visit s) (scan_visit t) (OfRecord (Alike s t)) (λ _. Unit {0}) (λ _ _ _. tt) (forward-from s) (visit-before s)
      (visit-reads m.long) (length s - 0) 0 tt (λ i _ a. m.same i a))

-- the scan lists the same places, and each of them holds the same record
pub scan-two-runs : (s t : List ℕ) → Masked s t (places_of (λ p. name_at s p.offset) (scanned s))
    → (scanned t ≡ scanned s) × All (λ p. listed t p.offset ≡ listed s p.offset) (scanned s)
unfolding scanned
scan-two-runs s t m =
    let r = events-two-runs s t (rw (names-of-records s (events s)) m) in
    (ap record_places r.0, all-records (Alike s t) (events s) r.1)
