-- The part that is lent is the record, which its parser accepts where its fixed part has room.
use native.Mathlib.Omega.{arith}
use Rattle.usn_record.proofs.RecordLaws.{layout-inside}
use Rattle.usn_scan.proofs.StepLaws.{never-refused}
use Rattle.usn_scan.proofs.step.record_step.Goals as goal

pub returns-in-Err : goal.returns-in-Err
returns-in-Err g c = let v = g.V.Version in absurd (never-refused _ _ _ _ (layout-inside v.PARENT_REFERENCE v.USN v.WIDE v.SEQUENCED v.LENGTH_IN_SLICE v.MAJOR v.in_order) c.requires (omega arith) (rw v.is_made at c.in-Err.ensures))
