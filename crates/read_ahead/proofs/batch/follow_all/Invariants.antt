-- A byte is added for each way.
use Rattle.std.proofs.Common.{◌*◌, ◌≤◌}
use Rattle.read_ahead.proofs.batch.follow_all.Given as goal

abbrev pub invariant-loop-x : goal.invariant-loop-x
invariant-loop-x l = l.sum ≤ 255 * l.x
