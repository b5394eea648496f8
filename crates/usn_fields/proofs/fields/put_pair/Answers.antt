-- One after the other.
use Rattle.usn_fields.proofs.FieldLaws.{pair-filled}
use Rattle.usn_fields.proofs.fields.put_pair.Goals as goal

pub returns : goal.returns
returns c = pair-filled _ _ c.args.a c.args.b c.put_field-next.ensures c.put_field.ensures
