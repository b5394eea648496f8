-- There are no more ways than records that were met.
use Rattle.std.proofs.Common.{◌≤◌}
use Rattle.read_ahead.proofs.batch.set_out_all.Given as goal

abbrev pub invariant-loop-x : goal.invariant-loop-x
invariant-loop-x g l = l.on ≤ l.x
