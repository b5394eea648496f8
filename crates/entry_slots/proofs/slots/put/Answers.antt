-- The seven words are those of the entry.
use Rattle.entry_slots.specs.Slots.{put_at}
use Rattle.entry_slots.proofs.slots.put.Goals as goal

pub returns : goal.returns
unfolding put_at
returns c = c.put.ensures
