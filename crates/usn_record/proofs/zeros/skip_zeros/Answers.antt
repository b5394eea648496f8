use native.Mathlib.Omega.{arith}
use Rattle.usn_record.proofs.ZeroLaws.{past-none, past-four}
use Rattle.usn_record.proofs.zeros.skip_zeros.Goals as goal

pub returns-then-le_u64-ne0 : goal.returns-then-le_u64-ne0
returns-then-le_u64-ne0 c = past-none _ _

pub returns-then-size-lt32 : goal.returns-then-size-lt32
returns-then-size-lt32 c = past-none _ _

pub loop-p-init : goal.loop-p-init
loop-p-init c = past-none _ _

pub overflow_add-p : goal.overflow_add-p
overflow_add-p c = omega arith

pub overflow_add-p-in-loop-p : goal.overflow_add-p-in-loop-p
overflow_add-p-in-loop-p c = omega arith

pub overflow_add-p-in-loop-p-2 : goal.overflow_add-p-in-loop-p-2
overflow_add-p-in-loop-p-2 c = omega arith

pub returns-then-first-second-ne0 : goal.returns-then-first-second-ne0
returns-then-first-second-ne0 c = c.loop-p.invariant

pub overflow_add-p-in-loop-p-3 : goal.overflow_add-p-in-loop-p-3
overflow_add-p-in-loop-p-3 c = omega arith

pub loop-p-smaller : goal.loop-p-smaller
loop-p-smaller c = omega arith

pub loop-p-preserved : goal.loop-p-preserved
loop-p-preserved c = past-four _ c.loop-p.invariant (omega arith) c.le_u64-in-loop-p.ensures c.le_u64-in-loop-p-2.ensures c.le_u64-in-loop-p-3.ensures c.le_u64-in-loop-p-4.ensures c.if-first-second-ne0.false

pub returns : goal.returns
returns c = c.loop-p.invariant
