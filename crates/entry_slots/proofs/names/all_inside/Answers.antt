use Rattle.entry_slots.proofs.NameLaws.{passing-row, passing-outside, passing-end}
use Rattle.entry_slots.proofs.names.all_inside.Goals as goal

pub returns-then-not-is_inside : goal.returns-then-not-is_inside
returns-then-not-is_inside c = passing-outside c.loop-i.invariant c.loop-i-test.true c.name_at.ensures c.is_inside.ensures c.if-not-is_inside.true

pub loop-i-preserved : goal.loop-i-preserved
loop-i-preserved c = passing-row c.loop-i.invariant c.loop-i-test.true c.name_at.ensures c.is_inside.ensures c.if-not-is_inside.false

pub returns : goal.returns
returns c = passing-end c.loop-i.invariant c.loop-i-test.false
