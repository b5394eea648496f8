-- The limits that carving goes by.
use Rattle.std.specs.Prelude.{ℕ, ℤ, pos}
use Rattle.std.specs.Int.{w64}
use Rattle.std.proofs.Common.{to_z}

pub record Settings : Type 0 where
  -- the first and the last FILETIME that a carved record may have, as stored: ticks of 100 nanoseconds since 1601, signed
  pub lower : ℤ
  pub upper : ℤ

-- from the start of 2000 to 13 hours and 20 minutes into 2030
abbrev pub standard : Settings
standard = record { lower = pos 125911584000000000; upper = pos 135379776000000000 }

-- limits as numbers of the code, a time by its 64 bits
abbrev pub settings_of : ℕ → ℕ → Settings
settings_of lower upper = record { lower = to_z w64 lower; upper = to_z w64 upper }
