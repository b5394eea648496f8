-- One part after the other.
use mir.Syntax.{w64}
use mir.ValLaws.{to_z-of_z}
use Rattle.usn_fields.proofs.NumberLaws.{numbers-put}
use Rattle.usn_fields.proofs.fields.put_numbers.Goals as goal

pub returns : goal.returns
returns c = numbers-put _ c.args.offset c.args.r c.put_pair-file.ensures c.put_pair-parent.ensures c.put_pair-usn.ensures (to_z-of_z w64 c.args.r.usn (record { sfits = c.struct_told-1.given.1.1.1.1.0.1 })) c.put_signed_field-seconds.ensures c.put_pair-reason.ensures c.put_hex_field.ensures
