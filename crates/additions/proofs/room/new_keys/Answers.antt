use Rattle.additions.proofs.AdditionLaws.{counting-start, counting-new, counting-known, counting-end}
use Rattle.additions.proofs.room.new_keys.Goals as goal
use Rattle.additions.proofs.room.new_keys.Goals.{then-not-is_seen, else-not-is_seen}

pub loop-i-init : goal.loop-i-init
loop-i-init g c = counting-start _ _ _

pub loop-i-preserved : goal.loop-i-preserved
loop-i-preserved g c =
    elim c.if-not-is_seen.branch [
      | then-not-is_seen w ↦ counting-new c.loop-i.invariant (rw c.count-i-end.ensures at c.loop-i-test.true) c.key.ensures c.is_seen.ensures w.if-not-is_seen.true w.n-is
      | else-not-is_seen w ↦ counting-known c.loop-i.invariant (rw c.count-i-end.ensures at c.loop-i-test.true) c.key.ensures c.is_seen.ensures w.if-not-is_seen.false w.n-is
    ]

pub returns : goal.returns
returns g c = counting-end c.loop-i.invariant (rw c.count-i-end.ensures at c.loop-i-test.false)
