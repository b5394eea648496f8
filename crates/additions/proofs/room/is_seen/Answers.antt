-- The table first, and then the entries before.
use Rattle.entry_slots.proofs.FindLaws.{fields-same}
use Rattle.additions.proofs.AdditionLaws.{looking-start, looking-table, looking-next, looking-found}
use Rattle.additions.proofs.room.is_seen.Goals as goal

pub returns-then-is_some : goal.returns-then-is_some
returns-then-is_some g c = looking-table _ _ _ _ c.find.ensures c.is_some.ensures c.if-is_some.true

pub loop-j-init : goal.loop-j-init
loop-j-init g c = looking-start _ _ _ _ c.find.ensures c.is_some.ensures c.if-is_some.false

pub returns-then-eq : goal.returns-then-eq
returns-then-eq g c = looking-found c.loop-j.invariant c.loop-j-test.true c.key.ensures (fields-same _ _ c.eq.ensures) c.if-eq.true

pub loop-j-preserved : goal.loop-j-preserved
loop-j-preserved g c = looking-next c.loop-j.invariant c.loop-j-test.true c.key.ensures (fields-same _ _ c.eq.ensures) c.if-eq.false
