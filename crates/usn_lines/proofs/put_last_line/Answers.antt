-- One after the other.
use native.Mathlib.Omega.{arith}
use Rattle.usn_fields.proofs.FieldLaws.{decimal-word}
use Rattle.usn_lines.proofs.PartLaws.{last-puts}
use Rattle.usn_lines.proofs.put_last_line.Goals as goal

pub put_decimal-end-requires : goal.put_decimal-end-requires
put_decimal-end-requires c = omega (arith, c.put_bytes-at.ensures.value, c.requires, decimal-word c.args.count c.ranges.count.fits)

pub put_byte-requires : goal.put_byte-requires
put_byte-requires c = omega (arith, c.put_bytes-at.ensures.value, c.put_decimal-end.ensures.value, c.requires, decimal-word c.args.count c.ranges.count.fits)

pub returns : goal.returns
returns c = last-puts _ c.args.count c.ranges.count.fits c.put_bytes-at.ensures c.put_decimal-end.ensures c.put_byte.ensures
