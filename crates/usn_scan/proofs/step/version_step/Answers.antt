-- Each arm of the match by its number.
use native.Mathlib.Omega.{arith}
use Rattle.usn_scan.proofs.StepLaws.{version-2, version-3, version-4, version-other}
use Rattle.usn_scan.proofs.step.version_step.Goals as goal

pub returns-in-2 : goal.returns-in-2
returns-in-2 c = version-2 _ _ _ c.le_u16-version.ensures c.in-2.is c.record_step.ensures

pub returns-in-3 : goal.returns-in-3
returns-in-3 c = version-3 _ _ _ c.le_u16-version.ensures c.in-3.is c.record_step-in-3.ensures

pub returns-in-4 : goal.returns-in-4
returns-in-4 c = version-4 _ _ _ c.le_u16-version.ensures c.in-4.is c.past_record.ensures

pub returns-in_default : goal.returns-in_default
returns-in_default c = version-other _ _ _ c.le_u16-version.ensures (λ e. omega arith) (λ e. omega arith) (λ e. omega arith)
