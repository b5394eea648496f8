-- Each way out by the tests that led to it.
use native.Mathlib.Omega.{arith}
use Rattle.usn_carver.proofs.VisitLaws.{stopped, passed-zero, by-v2, by-v3, passed-other}
use Rattle.usn_carver.proofs.step.carve_step.Goals as goal
use Rattle.usn_carver.proofs.step.carve_step.Goals.{then-end-lt8-via-then-end-lt8, then-end-lt8-via-else-end-lt8+then-end-o}

pub returns-then-end-lt8 : goal.returns-then-end-lt8
returns-then-end-lt8 c = stopped _ _ _ (elim c.then-end-lt8.branch [ then-end-lt8-via-then-end-lt8 w ↦ omega arith | then-end-lt8-via-else-end-lt8+then-end-o w ↦ omega arith ])

pub returns-then-size-eq0 : goal.returns-then-size-eq0
returns-then-size-eq0 c = passed-zero _ _ _ (omega arith) c.le_u32-size.ensures c.if-size-eq0.true

pub returns-in-2 : goal.returns-in-2
returns-in-2 c = by-v2 _ _ _ (omega arith) c.le_u32-size.ensures c.if-size-eq0.false c.le_u16-version.ensures c.in-2.is c.examine.ensures

pub returns-in-3 : goal.returns-in-3
returns-in-3 c = by-v3 _ _ _ (omega arith) c.le_u32-size.ensures c.if-size-eq0.false c.le_u16-version.ensures c.in-3.is c.examine-in-3.ensures

pub returns-in_default : goal.returns-in_default
returns-in_default c = passed-other _ _ _ (omega arith) c.le_u32-size.ensures c.if-size-eq0.false c.le_u16-version.ensures (λ e. omega arith) (λ e. omega arith)
