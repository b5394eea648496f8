-- Room for all entries is room for the new keys; else the count tells.
use Rattle.additions.proofs.AdditionLaws.{room-for-all}
use Rattle.additions.proofs.room.has_room.Goals as goal

pub returns-then-count-room : goal.returns-then-count-room
returns-then-count-room g c = room-for-all _ (g.S.Source.added c.args.source) _ _ c.if-room-used.false (rw c.count.ensures at c.if-count-room.true)
