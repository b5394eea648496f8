-- The ways out of a visit by what its tests say of the numbers read; a record inside is handed over exactly, so its parser accepts it.
-- Assumes nothing.
use Prim.Native.Nat.{ℕ, ◌+◌, ◌-◌, ◌≤◌, ◌<◌}
use mathlib.Core.Path.{◌≡◌, sym, ap, ◌∙◌}
use mathlib.Core.List.{List, [], ◌∷◌}
use mathlib.Core.Bool.{false, cond}
use native.Mathlib.Omega.{arith}
use lib.ListN.{length, take, drop}
use lib.Dec.{ltb}
use borrow.Author.Tests.{lt-ltb, le-ltb, ne_eqb}
use Rattle.base.specs.Outcome.{refused, answered}
use Rattle.base.specs.Places.{round8, part}
use Rattle.base.specs.Walk.{Visit, stop, go}
use Rattle.base.proofs.AgreeLaws.{part-lent}
use Rattle.usn_record.specs.Bytes.{le_at}
use Rattle.usn_record.specs.Layout.{Layout, v2, v3}
use Rattle.usn_record.specs.Record.{min_record, max_record, record_of, parsed}
use Rattle.usn_record.proofs.RecordLaws.{FieldsInside, part-accepted}
use Rattle.usn_scan.specs.Scan.{word, kind_record, kind_by_version, kind_of, Event, recorded, ranged, scan_visit_as, version_at, scan_visit}
use Rattle.usn_scan.specs.Step.{Lying}

-- the visit of n bytes that lie inside, by the version field
abbrev pub by_version : List ℕ → ℕ → ℕ → Visit Event
by_version s o n = scan_visit_as o n (kind_by_version n (version_at s o))

-- by the bytes left and the length field n
module _ (s : List ℕ) (o : ℕ) where
  pub visit-no-header : length s < o + 8 → stop ≡ scan_visit s o
  unfolding scan_visit kind_of
  visit-no-header h = simp (lt-ltb (length s - o) 8 (omega arith))

  module _ (a : o + 8 ≤ length s) {n : ℕ} (e : n ≡ le_at 4 s o) where
    header : ltb (length s - o) 8 ≡ false
    header = le-ltb (length s - o) 8 (omega arith)

    pub visit-short : n < min_record → go [] (o + 8) ≡ scan_visit s o
    unfolding scan_visit kind_of
    visit-short h = simp (header, sym e, lt-ltb n min_record h)

    pub visit-long : max_record < n → go [] (o + 8) ≡ scan_visit s o
    unfolding scan_visit kind_of
    visit-long h = simp (header, sym e, le-ltb n min_record (omega arith), lt-ltb max_record n h)

    module _ (b : min_record ≤ n) (d : n ≤ max_record) where
      pub visit-past-end : length s < o + n → stop ≡ scan_visit s o
      unfolding scan_visit kind_of
      visit-past-end h = simp (header, sym e, le-ltb n min_record b, le-ltb max_record n d, lt-ltb (length s - o) n (omega arith))

      pub visit-inside : o + n ≤ length s → {x : Visit Event} → x ≡ by_version s o n → x ≡ scan_visit s o
      unfolding scan_visit kind_of
      visit-inside h w = w ∙ simp (header, sym e, le-ltb n min_record b, le-ltb max_record n d, le-ltb (length s - o) n (omega arith))

-- by the version field v
module _ (s : List ℕ) (o n : ℕ) {v : ℕ} (f : v ≡ version_at s o) where
  pub version-2 : v ≡ 2 → {x : Visit Event} → x ≡ scan_visit_as o n (cond (ltb n v2.fixed) word kind_record) → x ≡ by_version s o n
  unfolding kind_by_version
  version-2 h e = e ∙ simp (sym f, h)

  pub version-3 : v ≡ 3 → {x : Visit Event} → x ≡ scan_visit_as o n (cond (ltb n v3.fixed) word kind_record) → x ≡ by_version s o n
  unfolding kind_by_version
  version-3 h e = e ∙ simp (sym f, h)

  pub version-4 : v ≡ 4 → {p : ℕ} → p ≡ o + round8 n → go (ranged (record { offset = o; length = n }) ∷ []) p ≡ by_version s o n
  unfolding kind_by_version
  version-4 h k = simp (sym f, h, k)

  pub version-other : (v ≡ 2 → ⊥) → (v ≡ 3 → ⊥) → (v ≡ 4 → ⊥) → go [] (o + 8) ≡ by_version s o n
  unfolding kind_by_version
  version-other h k m = simp (sym f, ne_eqb v 2 h, ne_eqb v 3 k, ne_eqb v 4 m)

-- n bytes of a version: without its fixed part a word, else a record
module _ (o n fixed : ℕ) where
  pub record-short : n < fixed → go [] (o + 8) ≡ scan_visit_as o n (cond (ltb n fixed) word kind_record)
  record-short h = simp (lt-ltb n fixed h)

  pub record-taken : fixed ≤ n → {p : ℕ} → p ≡ o + round8 n → go (recorded (record { offset = o; length = n }) ∷ []) p ≡ scan_visit_as o n (cond (ltb n fixed) word kind_record)
  record-taken h e = simp (le-ltb n fixed h, e)

-- which the parser accepts
pub never-refused : (l : Layout) (s : List ℕ) (o n : ℕ) → FieldsInside l → Lying s o n → l.fixed ≤ n → {m : ℕ} → refused m ≡ parsed l (take (o + n - o) (drop o s)) → ⊥
never-refused l s o n j i h {m} e =
    let z : refused m ≡ answered (record_of l (part s o n)) = e ∙ ap (parsed l) (part-lent s o n) ∙ part-accepted l j s o i.size i.inside h i.most in
    let y : ◌≡◌ {A = ℕ} 0 1 = cc in omega arith
