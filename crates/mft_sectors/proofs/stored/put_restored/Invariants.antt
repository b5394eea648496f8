-- The invariant: each byte so far is that of the restored entry.
use Rattle.std.proofs.Common.{◌≡◌, ℕ, ◌+◌, ◌<◌, slice_index_or}
use Rattle.usn_record.specs.Bytes.{le_at}
use Rattle.mft_sectors.specs.Restored.{bytes_of}
use Rattle.mft_sectors.proofs.stored.put_restored.Given as goal

abbrev pub invariant-loop-k : goal.invariant-loop-k
invariant-loop-k l = (j : ℕ) → j < l.k → slice_index_or l.byte-items j 0 ≡ le_at 1 (bytes_of l.entry) (l.from + j)
