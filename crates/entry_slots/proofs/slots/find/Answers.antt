-- The key of the slot that is looked at, and the slots behind it.
use Rattle.entry_slots.proofs.FindLaws.{fields-same, finding-slot, finding-found, finding-end}
use Rattle.entry_slots.proofs.slots.find.Goals as goal

pub returns-then-eq : goal.returns-then-eq
returns-then-eq c = finding-found c.loop-i.invariant c.loop-i-test.true c.key_at.ensures (fields-same _ _ c.eq.ensures) c.if-eq.true

pub loop-i-preserved : goal.loop-i-preserved
loop-i-preserved c = finding-slot c.loop-i.invariant c.loop-i-test.true c.key_at.ensures (fields-same _ _ c.eq.ensures) c.if-eq.false

pub returns : goal.returns
returns c = finding-end c.loop-i.invariant c.loop-i-test.false
