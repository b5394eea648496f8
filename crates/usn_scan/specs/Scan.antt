-- The scan of a journal extract: what stands at an offset, by the numbers read there, and all that the extract holds.
use Rattle.std.specs.Prelude.{ℕ, ◌+◌, ◌-◌, List, [], ◌∷◌, cond, ◌||◌, length, ltb, eqb}
use Rattle.base.specs.Places.{round8}
use Rattle.base.specs.Walk.{Visit, stop, go, from}
use Rattle.base.specs.declared.Place.{Place}
use Rattle.usn_record.specs.Bytes.{le_at}
use Rattle.usn_record.specs.Layout.{v2, v3}
use Rattle.usn_record.specs.Record.{min_record, max_record, major_at}

-- what stands at an offset: the scan's end, a word of 8 bytes that is no record, a record of version 2 or 3, or one of version 4, which
-- tracks changed ranges
pub data Kind : Type 0 where
  end : Kind
  word : Kind
  kind_record : Kind
  range_record : Kind

-- a record of n bytes that lies inside the extract, by its version field v: 2 and 3 want their fixed part, and every number but 2, 3 and
-- 4 is no record
unfoldable pub kind_by_version : ℕ → ℕ → Kind
kind_by_version n v =
    cond (eqb v 2) (cond (ltb n v2.fixed) word kind_record)
    (cond (eqb v 3) (cond (ltb n v3.fixed) word kind_record)
    (cond (eqb v 4) range_record word))

-- what stands where `left` bytes are left, the length field is n and the version field v. A zero word has length 0 and is so a word to
-- move over, as any length that no record has: so zero words of 8 bytes are passed.
unfoldable pub kind_of : ℕ → ℕ → ℕ → Kind
kind_of left n v =
    cond (ltb left 8) end
    (cond (ltb n min_record || ltb max_record n) word
    (cond (ltb left n) end
    (kind_by_version n v)))

-- what the scan meets: a record of version 2 or 3, and one of version 4
pub data Event : Type 0 where
  recorded : Place → Event
  ranged : Place → Event

-- the visit of what stands at o with the length field n: a word moves on 8, a record by its length rounded up to 8
abbrev pub scan_visit_as : ℕ → ℕ → Kind → Visit Event
scan_visit_as o n end = stop
scan_visit_as o n word = go [] (o + 8)
scan_visit_as o n kind_record = go (recorded (record { offset = o; length = n }) ∷ []) (o + round8 n)
scan_visit_as o n range_record = go (ranged (record { offset = o; length = n }) ∷ []) (o + round8 n)

-- what stands at o of an extract s, by its length field, the 4 bytes there, and its version field
abbrev pub version_at : List ℕ → ℕ → ℕ
version_at s o = major_at s o

abbrev pub kind_at : List ℕ → ℕ → Kind
kind_at s o = kind_of (length s - o) (le_at 4 s o) (version_at s o)

-- the visit there
unfoldable pub scan_visit : List ℕ → ℕ → Visit Event
scan_visit s o = scan_visit_as o (le_at 4 s o) (kind_at s o)

-- all that the scan of s meets from o on, and from the start
abbrev pub events_from : List ℕ → ℕ → List Event
events_from s = from (scan_visit s) (length s)

abbrev pub events : List ℕ → List Event
events s = events_from s 0

-- the version 2 and 3 records among them; those of version 4 give none
abbrev pub record_places : List Event → List Place
record_places [] = []
record_places (recorded p ∷ es) = p ∷ record_places es
record_places (ranged p ∷ es) = record_places es

-- the records of an extract, in order
unfoldable pub scanned : List ℕ → List Place
scanned s = record_places (events s)
