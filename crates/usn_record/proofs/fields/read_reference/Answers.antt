-- The halves as they were read spell the reference, and one that runs past the end is 0.
use native.Mathlib.Omega.{arith}
use mathlib.Core.Path.{sym, ◌∙◌}
use Rattle.usn_record.proofs.FieldLaws.{wide-reference, past-reference}
use Rattle.usn_record.proofs.fields.read_reference.Goals as goal
use Rattle.usn_record.proofs.fields.read_reference.Goals.{then-n-lt16-via-then-n-lt16, then-n-lt16-via-else-n-lt16+then-n-at}

pub returns-then-n-lt16 : goal.returns-then-n-lt16
returns-then-n-lt16 g c =
    past-reference _ _ c.le_u64-low.ensures _ (sym c.WIDE.ensures ∙ c.if-not-WIDE.false)
    (elim c.then-n-lt16.branch [ then-n-lt16-via-then-n-lt16 w ↦ omega arith | then-n-lt16-via-else-n-lt16+then-n-at w ↦ omega arith ])
    (rw c.SEQUENCED-then-n-lt16.ensures at c.parts_of-then-n-lt16.ensures)

pub returns : goal.returns
returns g c =
    wide-reference _ _ c.le_u64-low.ensures _ (sym c.WIDE.ensures ∙ c.if-not-WIDE.false) (omega arith) c.le_u64-high.ensures
    (rw c.SEQUENCED-2.ensures at c.parts_of-2.ensures)
