-- The digits of the sixteenth are written first, and then the last digit.
use Rattle.std.proofs.Common.{arith, ◌-◌, ◌/◌}
use Rattle.usn_fields.proofs.FieldLaws.{hex-length, hex-put-none, hex-put-last}
use Rattle.usn_fields.proofs.fields.+put_hex.Goals as goal

pub returns-then-k-eq0 : goal.returns-then-k-eq0
returns-then-k-eq0 t c = hex-put-none _ _ c.args.n c.if-k-eq0.true

pub put_byte-requires : goal.put_byte-requires
put_byte-requires t c = omega (arith, c.put_hex-last.ensures.value, hex-length (c.args.k - 1) (c.args.n / 16))

pub returns : goal.returns
returns t c = hex-put-last _ _ c.args.k c.args.n (omega arith) c.put_hex-last.ensures c.hex_digit.ensures c.put_byte.ensures
