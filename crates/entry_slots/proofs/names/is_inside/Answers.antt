-- The length first, and then the offset, so that no sum can wrap.
use Rattle.entry_slots.proofs.NameLaws.{inside-long, inside-else}
use Rattle.entry_slots.proofs.names.is_inside.Goals as goal

pub returns-then-end-name : goal.returns-then-end-name
returns-then-end-name c = inside-long _ _ c.length_of-end.ensures c.if-end-name.true

pub returns : goal.returns
returns c = inside-else _ _ c.length_of-end.ensures c.if-end-name.false
