-- By the version that is read; past the end nothing is.
use native.Mathlib.Omega.{arith}
use Rattle.usn_record.proofs.ReferenceLaws.{references-v2, references-v3, read-nothing}
use Rattle.usn_record.proofs.references.references_at.Goals as goal

pub returns-then-extract-offset : goal.returns-then-extract-offset
returns-then-extract-offset c = read-nothing _ _ (omega arith) c.parts_of.ensures c.parts_of-then-extract-offset.ensures

pub returns-then-le_u16-eq-MAJOR : goal.returns-then-le_u16-eq-MAJOR
returns-then-le_u16-eq-MAJOR c = references-v2 _ _ c.le_u16.ensures (omega arith) c.references_in.ensures

pub returns-else-le_u16-eq-MAJOR : goal.returns-else-le_u16-eq-MAJOR
returns-else-le_u16-eq-MAJOR c = references-v3 _ _ c.le_u16.ensures (λ e. omega arith) c.references_in-else-le_u16-eq-MAJOR.ensures
