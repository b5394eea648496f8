-- The digits, and then the space.
use native.Mathlib.Omega.{arith}
use Rattle.usn_fields.proofs.FieldLaws.{decimal-word, field-filled}
use borrow.Author.Rules.{rules}
use Rattle.usn_fields.proofs.fields.put_field.Goals as goal

pub put_decimal-end-requires : goal.put_decimal-end-requires
put_decimal-end-requires c = omega (arith, decimal-word c.args.n (search rules))

pub put_byte-requires : goal.put_byte-requires
put_byte-requires c = omega (arith, decimal-word c.args.n (search rules), c.put_decimal-end.ensures.value)

pub returns : goal.returns
returns c = field-filled _ _ c.args.n (search rules) c.put_decimal-end.ensures c.put_byte.ensures
