-- The digits, and then the space.
use native.Mathlib.Omega.{arith}
use Rattle.usn_fields.proofs.FieldLaws.{hex-length, hex-filled}
use Rattle.usn_fields.proofs.fields.put_hex_field.Goals as goal

pub put_byte-requires : goal.put_byte-requires
put_byte-requires c = omega (arith, hex-length 8 c.args.n, c.put_hex-end.ensures.value)

pub returns : goal.returns
returns c = hex-filled _ _ c.args.n c.put_hex-end.ensures c.put_byte.ensures
