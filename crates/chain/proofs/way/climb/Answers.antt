-- The way from all levels on, and what it hangs under.
use Rattle.entry_slots.specs.Table.{table}
use Rattle.chain.proofs.WayLaws.{risen, end_is}
use Rattle.chain.proofs.way.climb.Goals as goal

pub returns : goal.returns
returns c = risen (table c.args.slots.now c.args.used) c.args.key c.args.way.now c.rise-names.ensures c.rise-names.auto.way (end_is c.args.slots.now _ c.rise-names.result c.args.key c.end_under-end.ensures c.top_key.ensures)
