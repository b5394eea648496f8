-- Runs with the same events come out the same. Assumes nothing.
use Prim.Native.Nat.{ℕ}
use mathlib.Core.Path.{◌≡◌}
use mathlib.Core.List.{List}
use lib.ListN.{length}
use Rattle.mft_carver.specs.declared.Settings.{Settings}
use Rattle.mft_carver.specs.Carve.{events, carving}

pub outcome-agrees : (st : Settings) (s t : List ℕ) (words : ℕ) → length t ≡ length s → events st t ≡ events st s → carving st t words ≡ carving st s words
unfolding carving
outcome-agrees st s t words long e = rw (e, long)
