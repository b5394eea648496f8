-- A byte is added for each way, and no more lead on than were met.
use Rattle.std.proofs.Common.{◌*◌, ◌≤◌}
use Rattle.read_ahead.proofs.batch.rise_all.Given as goal

abbrev pub invariant-loop-x : goal.invariant-loop-x
invariant-loop-x l = (l.on ≤ l.x) × (l.sum ≤ 255 * l.x)
