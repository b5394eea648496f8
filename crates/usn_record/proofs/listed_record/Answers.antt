-- Each way out by the tests that led to it; the part that is lent is the record.
use native.Mathlib.Omega.{arith}
use Rattle.usn_record.proofs.RecordLaws.{listed-no-header, listed-past-end, listed-v2, listed-v3, listed-other}
use Rattle.usn_record.proofs.listed_record.Goals as goal

pub returns-then-size-lt8 : goal.returns-then-size-lt8
returns-then-size-lt8 c = listed-no-header _ _ (omega arith)

pub returns-then-size-offset : goal.returns-then-size-offset
returns-then-size-offset c = listed-no-header _ _ (omega arith)

pub returns-then-size-offset-2 : goal.returns-then-size-offset-2
returns-then-size-offset-2 c = listed-past-end _ _ (omega arith) c.le_u32-length.ensures (omega arith)

pub returns-in-2 : goal.returns-in-2
returns-in-2 c = listed-v2 _ _ (omega arith) c.le_u32-length.ensures (omega arith) c.le_u16-version.ensures c.not_a_record.ensures c.in-2.is c.parse.ensures

pub returns-in-3 : goal.returns-in-3
returns-in-3 c = listed-v3 _ _ (omega arith) c.le_u32-length.ensures (omega arith) c.le_u16-version.ensures c.not_a_record-in-3.ensures c.in-3.is c.parse-in-3.ensures

pub returns-in_default : goal.returns-in_default
returns-in_default c = listed-other _ _ (omega arith) c.le_u32-length.ensures (omega arith) c.le_u16-version.ensures (λ e. omega arith) (λ e. omega arith)
