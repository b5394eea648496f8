-- The invariant: the bytes so far spell the number.
use Rattle.mft_sectors.specs.Restored.{bytes_of}
use Rattle.mft_sectors.proofs.ReadLaws.{Across}
use Rattle.mft_sectors.proofs.reads.Restored.across.Given as goal

abbrev pub invariant-loop-k : goal.invariant-loop-k
invariant-loop-k l = Across (bytes_of l.self) l.offset l.width l.number l.k
