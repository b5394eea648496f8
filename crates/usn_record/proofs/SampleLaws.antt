-- What the sample record is listed as, and its name's place. Assumes nothing.
use Prim.Native.Nat.{ℕ}
use mathlib.Core.Path.{◌≡◌, refl}
use mathlib.Core.List.{[], ◌∷◌}
use Rattle.base.specs.Outcome.{answered}
use Rattle.usn_record.specs.Bytes.{le, le_at}
use Rattle.usn_record.specs.Fields.{reference_of, timestamp_of, filename_of}
use Rattle.usn_record.specs.Record.{record_of, parsed, listed}
use Rattle.usn_record.specs.Names.{name_at}
use Rattle.usn_record.specs.Sample.{sample_fields, sample_record}

-- whatever its name is
pub sample-listed : (a b : ℕ) → listed (sample_record a b) 0 ≡ answered sample_fields
unfolding listed parsed record_of filename_of reference_of timestamp_of le_at le
sample-listed a b = refl

pub sample-named : (a b : ℕ) → name_at (sample_record a b) 0 ≡ record { offset = 60; length = 4 } ∷ []
unfolding name_at
sample-named a b = rw (sample-listed a b) refl
