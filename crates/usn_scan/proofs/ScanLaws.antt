-- What any visit of the scan is like, by cases of what stands there: it goes forward, and a record takes 64 bytes of the walk. Assumes nothing.
use Prim.Native.Nat.{ℕ, zero, suc, ◌+◌, ◌-◌, ◌*◌, ◌≤◌}
use mathlib.Core.Path.{◌≡◌, refl, ap, sym, ◌∙◌}
use mathlib.Core.List.{List, [], ◌∷◌, ◌++◌}
use mathlib.Core.Logic.{◌⊎◌, inl, inr}
use mathlib.Core.Bool.{◌||◌}
use native.Mathlib.Omega.{arith}
use lib.ListN.{length, length-append}
use lib.Dec.{ltb, eqb}
use borrow.Author.Tests.{ltb-false, eqb-true}
use Rattle.std.specs.Iterator.{Yields, Drains, YieldsFirst}
use Rattle.base.specs.Lists.{All}
use Rattle.base.specs.Walk.{Visit, stop, go, going_on, walk, from}
use Rattle.base.specs.declared.Place.{Place}
use Rattle.base.proofs.ChoiceLaws.{cond_cases, or_left, or_right}
use Rattle.base.proofs.WalkLaws.{Forward, Left, left}
use Rattle.usn_record.specs.Bytes.{le_at}
use Rattle.usn_record.specs.Layout.{v2, v3}
use Rattle.usn_record.specs.Record.{min_record, max_record}
use Rattle.usn_record.specs.Names.{fixed_of}
use Rattle.usn_scan.specs.Scan.{Kind, end, word, kind_record, range_record, kind_by_version, kind_of, Event, recorded, ranged, scan_visit_as, version_at, kind_at, scan_visit, events_from, record_places, scanned}
use Rattle.usn_scan.specs.Step.{scan_visit_of}
use Rattle.usn_scan.specs.declared.step.ScanStep.{ScanStep}

-- a record of n bytes, which lies inside the bytes that are left
pub record RecordInside (left n : ℕ) : Type 0 where
  pub header : 8 ≤ left
  pub inside : n ≤ left
  pub least : min_record ≤ n
  pub most : n ≤ max_record

-- a record of version 2 or 3 has its fixed part
pub record Versioned (n v : ℕ) : Type 0 where
  pub fixed : fixed_of v ≤ n
  pub least : v2.fixed ≤ n
  pub version : (v ≡ 2) ⊎ (v ≡ 3)

-- what is known of what stands where `left` bytes are left, the length field is n and the version field v
abbrev pub KindShape : ℕ → ℕ → ℕ → Kind → Type 0
KindShape left n v end = Unit {0}
KindShape left n v word = 8 ≤ left
KindShape left n v kind_record = RecordInside left n × Versioned n v
KindShape left n v range_record = RecordInside left n × (v ≡ 4)

pub kind-shape : (left n v : ℕ) → KindShape left n v (kind_of left n v)
unfolding kind_of kind_by_version
kind-shape left n v =
    let P : Kind → Type 0 = KindShape left n v in
    cond_cases P (ltb left 8) (λ _. tt) λ a.
    cond_cases P (ltb n min_record || ltb max_record n) (λ _. ltb-false _ _ a) λ b.
    cond_cases P (ltb left n) (λ _. tt) λ d.
    let lies : RecordInside left n = record {
      header = ltb-false _ _ a;
      inside = ltb-false _ _ d;
      least = ltb-false _ _ (or_left (ltb n min_record) (ltb max_record n) b);
      most = ltb-false _ _ (or_right (ltb n min_record) (ltb max_record n) b);
    } in
    cond_cases P (eqb v 2) (λ e. cond_cases P (ltb n v2.fixed) (λ _. ltb-false _ _ a)
    (λ f. (lies, record { fixed = rw (eqb-true v 2 e) (ltb-false _ _ f); least = ltb-false _ _ f; version = inl (eqb-true v 2 e) }))) λ _.
    cond_cases P (eqb v 3) (λ e. cond_cases P (ltb n v3.fixed) (λ _. ltb-false _ _ a)
    (λ f. (lies, record { fixed = rw (eqb-true v 3 e) (ltb-false _ _ f); least = omega (arith, ltb-false n 76 f); version = inr (eqb-true v 3 e) }))) λ _.
    cond_cases P (eqb v 4) (λ e. (lies, eqb-true v 4 e)) (λ _. ltb-false _ _ a)

-- what is known of what stands at o of an extract
abbrev pub Shaped : List ℕ → ℕ → Kind → Type 0
Shaped s o = KindShape (length s - o) (le_at 4 s o) (version_at s o)

pub shape_at : (s : List ℕ) (o : ℕ) → Shaped s o (kind_at s o)
shape_at s o = kind-shape _ _ _

-- what holds of an event if it is a record
abbrev pub OfRecord : (Place → Type 0) → Event → Type 0
OfRecord P (recorded p) = P p
OfRecord P (ranged p) = Unit {0}

pub all-records : (P : Place → Type 0) (es : List Event) → All (OfRecord P) es → All P (record_places es)
all-records P [] h = tt
all-records P (recorded p ∷ es) h = (h.0, all-records P es h.1)
all-records P (ranged p ∷ es) h = all-records P es h.1

pub records-append : (es fs : List Event) → record_places (es ++ fs) ≡ record_places es ++ record_places fs
records-append [] fs = refl
records-append (recorded p ∷ es) fs = ap (λ (ps : List Place). p ∷ ps) (records-append es fs)
records-append (ranged p ∷ es) fs = records-append es fs

-- a visit at o takes 64 bytes for each record that it finds, and goes no further than top
abbrev pub RecordCosts : ℕ → ℕ → Visit Event → Type 0
RecordCosts top o stop = Unit {0}
RecordCosts top o (go es p) = (o + 64 * length (record_places es) ≤ p) × (p ≤ top)

module _ (s : List ℕ) where
  kind-forward : (o : ℕ) (k : Kind) → Shaped s o k → Forward (length s) o (scan_visit_as o (le_at 4 s o) k)
  kind-forward o end h = tt
  kind-forward o word h = omega arith
  kind-forward o kind_record h = omega arith
  kind-forward o range_record h = omega arith

  kind-costs : (o : ℕ) (k : Kind) → Shaped s o k → RecordCosts (length s + 7) o (scan_visit_as o (le_at 4 s o) k)
  kind-costs o end h = tt
  kind-costs o word h = omega arith
  kind-costs o kind_record h = omega arith
  kind-costs o range_record h = omega arith

  -- a visit goes forward, and only inside the extract
  pub visit-forward : (o : ℕ) → Forward (length s) o (scan_visit s o)
  unfolding scan_visit
  visit-forward o = kind-forward o (kind_at s o) (shape_at s o)

  pub visit-costs : (o : ℕ) → RecordCosts (length s + 7) o (scan_visit s o)
  unfolding scan_visit
  visit-costs o = kind-costs o (kind_at s o) (shape_at s o)

  -- so the records take 64 bytes each of a walk that ends within 7 bytes of the end
  after-bound : (top o : ℕ) (f : ℕ → List Event) (v : Visit Event) → RecordCosts top o v → o ≤ top
      → ((p : ℕ) → p ≤ top → p + 64 * length (record_places (f p)) ≤ top) → o + 64 * length (record_places (going_on v f)) ≤ top
  after-bound top o f stop w ho h = omega arith
  after-bound top o f (go es p) w ho h = simp (records-append, length-append) (omega (arith, h p w.1))

  walk-records : (k o : ℕ) → o ≤ length s + 7 → o + 64 * length (record_places (walk (scan_visit s) k o)) ≤ length s + 7
  unfolding walk
  walk-records zero o h = omega arith
  walk-records (suc k) o h = after-bound (length s + 7) o (walk (scan_visit s) k) (scan_visit s o) (visit-costs o) h (walk-records k)

  pub scan-bound : 64 * length (scanned s) ≤ length s + 7
  unfolding scanned from
  scan-bound = omega (arith, walk-records (length s - 0) 0 (omega arith))

  -- what is left of the scan at o, by what the step there is
  pub rest : (o : ℕ) {r t : ScanStep} → r ≡ t → scan_visit_of r ≡ scan_visit s o → Left (scan_visit s) (length s) o (scan_visit_of t)
  rest o {t = t} e f = left (scan_visit s) (length s) visit-forward o (scan_visit_of t) (ap scan_visit_of (sym e) ∙ f)

  -- what is left at the start is all
  pub from-start : {t : List ℕ} {o : ℕ} → (t ≡ s) × (o ≡ 0) → record_places (events_from t o) ≡ scanned s
  unfolding scanned
  from-start e = rw (e.0, e.1)

-- an iterator that shows what is left gives all of it
module _ {S A : Type 0} (todo : S → List A) where
  yielded : (s : S) (xs : List A) (t : S) → Yields (YieldsFirst todo) s xs t → todo t ≡ [] → xs ≡ todo s
  yielded s [] t y e = sym (ap todo y ∙ e)
  yielded s (x ∷ xs) t y e = ap (λ (r : List A). x ∷ r) (yielded y.0 xs t y.2 e) ∙ sym y.1

  pub drained : (s : S) (xs : List A) → Drains (YieldsFirst todo) s xs → xs ≡ todo s
  drained s xs d = yielded s xs d.1.0 d.1.1 d.1.2.0
