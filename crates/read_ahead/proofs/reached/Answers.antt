-- Of a sum below 2 ^ 20 nothing is left.
use native.Mathlib.Omega.{arith}
use Rattle.read_ahead.proofs.reached.Goals as goal

pub overflow_add-result : goal.overflow_add-result
overflow_add-result c = omega arith

pub returns : goal.returns
returns c = omega arith
