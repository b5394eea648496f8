-- A number has few digits.
use native.Mathlib.Omega.{arith}
use Rattle.path_text.proofs.MarkerLaws.{decimal-tenth, key-long}
use Rattle.path_text.proofs.text.key_length.Goals as goal

pub overflow_add-result : goal.overflow_add-result
overflow_add-result c = omega (arith, c.decimal_length.ensures, decimal-tenth c.args.key.entry, c.well_formed.0)

pub overflow_add-result-2 : goal.overflow_add-result-2
overflow_add-result-2 c = omega (arith, c.decimal_length.ensures, c.decimal_length-2.ensures, decimal-tenth c.args.key.entry, decimal-tenth c.args.key.sequence, c.well_formed.0)

pub overflow_add-result-3 : goal.overflow_add-result-3
overflow_add-result-3 c = omega (arith, c.decimal_length.ensures, c.decimal_length-2.ensures, decimal-tenth c.args.key.entry, decimal-tenth c.args.key.sequence, c.well_formed.0)

pub returns : goal.returns
returns c = (
  omega (arith, c.decimal_length.ensures, c.decimal_length-2.ensures, key-long c.args.key),
  omega (arith, c.decimal_length.ensures, c.decimal_length-2.ensures, decimal-tenth c.args.key.entry, decimal-tenth c.args.key.sequence, c.well_formed.0),
)
