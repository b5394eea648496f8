-- By the sign.
use Rattle.usn_fields.proofs.SignLaws.{signed_below, signed_above}
use Rattle.usn_fields.proofs.fields.put_signed_field.Goals as goal

pub returns-then-z-lt0 : goal.returns-then-z-lt0
returns-then-z-lt0 c = signed_below c.args.z c.ranges.z _ _ c.unsigned_abs-n.ensures.value c.if-z-lt0.true c.put_byte-digits.ensures c.put_field.ensures

pub returns : goal.returns
returns c = signed_above c.args.z c.ranges.z _ _ c.unsigned_abs-n.ensures.value c.if-z-lt0.false c.put_field-2.ensures
