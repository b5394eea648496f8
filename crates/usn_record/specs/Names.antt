-- The names of a journal's records, past their fixed parts: what the second of two runs may replace.
use Rattle.std.specs.Prelude.{ℕ, List, [], ◌∷◌, cond, ltb, eqb}
use Rattle.base.specs.Outcome.{Outcome, refused, answered}
use Rattle.base.specs.Places.{place_from}
use Rattle.base.specs.declared.Place.{Place}
use Rattle.usn_record.specs.Layout.{v2, v3}
use Rattle.usn_record.specs.Record.{listed}
use Rattle.usn_record.specs.declared.UsnRecord.{UsnRecord}

-- the fixed part of a version 2 record, and of version 3
abbrev pub fixed_of : ℕ → ℕ
fixed_of version = cond (eqb version 2) v2.fixed v3.fixed

-- the place of a record's name, counted from where o counts, if its offset is at or past the fixed part. An empty name is at 0.
abbrev pub name_past : ℕ → Outcome UsnRecord → List Place
name_past o (refused n) = []
name_past o (answered r) = cond (ltb r.filename.offset (fixed_of r.major_version)) [] (place_from o r.filename ∷ [])

-- that of the record at o of a journal
unfoldable pub name_at : List ℕ → ℕ → List Place
name_at s o = name_past o (listed s o)
