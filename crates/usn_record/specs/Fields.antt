-- What a record's numbers mean: FILETIME, file references, and the place of a name.
use Rattle.std.specs.Prelude.{ℕ, ◌+◌, ◌-◌, ◌*◌, ◌/◌, ◌%◌, ◌^◌, Bool, cond, ◌||◌, ℤ, pos, negsuc, ltb}
use Rattle.base.specs.Places.{empty_place}
use Rattle.base.specs.declared.Place.{Place}
use Rattle.usn_record.specs.declared.Timestamp.{Timestamp}
use Rattle.usn_record.specs.declared.fields.Reference.{Reference}

-- the ticks of 100 nanoseconds from the start of 1601, where FILETIME begins, to that of 1970
abbrev pub epoch_diff : ℕ
epoch_diff = 116444736000000000

-- n ticks since 1601 as seconds and nanoseconds since 1970; before that 0, 0
abbrev pub timestamp_of_ticks : ℕ → Timestamp
timestamp_of_ticks n =
    cond (ltb n epoch_diff) (record { seconds = 0; nanoseconds = 0 })
    (record { seconds = (n - epoch_diff) / 10000000; nanoseconds = (n - epoch_diff) % 10000000 * 100 })

unfoldable pub timestamp_of : ℤ → Timestamp
timestamp_of (pos n) = timestamp_of_ticks n
timestamp_of (negsuc n) = record { seconds = 0; nanoseconds = 0 }

-- a file reference, of 8 or 16 bytes: the entry is its low 48 bits, the sequence the next 16 where it has one, and what is above 64
-- bits stands apart
unfoldable pub reference_of : Bool → ℕ → Reference
reference_of sequenced n = record { entry = n % 2 ^ 48; sequence = cond sequenced (n / 2 ^ 48 % 2 ^ 16) 0; high = n / 2 ^ 64 }

-- the place of a name of n bytes at o, in a slice whose names go up to end: empty below 2 bytes or past the end; an odd last byte is dropped
unfoldable pub filename_of : ℕ → ℕ → ℕ → Place
filename_of end o n = cond (ltb n 2 || ltb end (o + n)) empty_place (record { offset = o; length = n / 2 * 2 })
