-- The sum stays small, and there are no more ways than a batch has.
use Rattle.std.proofs.Common.{◌+◌, ◌*◌, ◌≤◌}
use Rattle.read_ahead.specs.Reading.{batch}
use Rattle.read_ahead.proofs.batch.read_batch.Given as goal

abbrev pub invariant-loop-level : goal.invariant-loop-level
invariant-loop-level l = (l.on ≤ batch) × (l.sum + 8160 ≤ 16320 * l.level)
