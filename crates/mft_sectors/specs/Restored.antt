-- What a restored entry holds.
use Rattle.std.specs.Prelude.{ℕ, List, length}
use Rattle.mft_sectors.specs.SectorEnds.{restored_by}
use Rattle.mft_sectors.specs.declared.reads.Restored.{Restored}

-- its bytes, each with its true value
abbrev pub bytes_of : Restored → List ℕ
bytes_of r = restored_by r.array r.stored.now

-- and how many
abbrev pub length_of : Restored → ℕ
length_of r = length r.stored.now
