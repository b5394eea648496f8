use native.Mathlib.Omega.{arith}
use Rattle.utf16.proofs.NameLaws.{counting-point, counting-ascii, counting-most, counting-end}
use Rattle.utf16.proofs.name.name_length.Goals as goal

pub overflow_add-sum : goal.overflow_add-sum
overflow_add-sum c = omega (arith, counting-most (counting-ascii c.loop-left.invariant c.le_u16-unit.ensures c.loop-left-test.true c.if-unit-lt128.true) (λ i. omega (arith, c.shared_slice_known-1.given i)))

pub loop-left-preserved-then-unit-lt128 : goal.loop-left-preserved-then-unit-lt128
loop-left-preserved-then-unit-lt128 c = counting-ascii c.loop-left.invariant c.le_u16-unit.ensures c.loop-left-test.true c.if-unit-lt128.true

pub overflow_add-sum-else-unit-lt128 : goal.overflow_add-sum-else-unit-lt128
overflow_add-sum-else-unit-lt128 c = omega (arith, counting-most (counting-point c.loop-left.invariant _ c.first_code_point-first.ensures c.code_point_length-sum.ensures) (λ i. omega (arith, c.shared_slice_known-1.given i)))

pub returns : goal.returns
returns c = counting-end c.loop-left.invariant c.loop-left-test.false
