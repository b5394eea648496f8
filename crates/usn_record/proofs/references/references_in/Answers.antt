-- Each reference is read where the layout has it.
use Rattle.usn_record.proofs.ReferenceLaws.{references-read}
use Rattle.usn_record.proofs.references.references_in.Goals as goal

pub returns : goal.returns
returns g c = rw g.V.Version.is_made (references-read _ _ _ c.read_reference.ensures (rw c.PARENT_REFERENCE.ensures at c.read_reference-2.ensures))
