-- By whether the entry's path has room: the parent's path first, and then the own name.
use Rattle.chain.specs.Way.{chain_by}
use Rattle.path_text.specs.Text.{path_text, step_text}
use Rattle.path_text.proofs.MarkerLaws.{first-room, second-room, both-put}
use Rattle.path.specs.Ways.{entry_text}
use Rattle.path.proofs.BoundLaws.{entry-parts}
use Rattle.path.proofs.WayLaws.{behind-room, behind-put}
use Rattle.path.proofs.ways.put_behind.Goals as goal

pub put_way-above-requires : goal.put_way-above-requires
put_way-above-requires c = record { way_asks = c.requires.way_asks; up_in_bounds = first-room c.args.text.now c.args.at (path_text c.args.journal.now c.args.image.now (chain_by c.args.slots.now c.args.way.now c.args.up)) (step_text c.args.journal.now c.args.image.now c.args.name) (entry-parts c.args.journal.now c.args.image.now (chain_by c.args.slots.now c.args.way.now c.args.up) c.args.name) (behind-room (entry_text c.args.journal.now c.args.image.now (chain_by c.args.slots.now c.args.way.now c.args.up) c.args.name) c.args.text.now c.args.at c.entry_fits.ensures c.if-not-entry_fits.false c.requires.name_value.1) }

pub put_step-requires : goal.put_step-requires
put_step-requires c = record { place_value = c.requires.name_value.0; place_in_bounds = second-room c.args.text.now c.args.at (path_text c.args.journal.now c.args.image.now (chain_by c.args.slots.now c.args.way.now c.args.up)) (step_text c.args.journal.now c.args.image.now c.args.name) (entry-parts c.args.journal.now c.args.image.now (chain_by c.args.slots.now c.args.way.now c.args.up) c.args.name) c.put_way-above.ensures (behind-room (entry_text c.args.journal.now c.args.image.now (chain_by c.args.slots.now c.args.way.now c.args.up) c.args.name) c.args.text.now c.args.at c.entry_fits.ensures c.if-not-entry_fits.false c.requires.name_value.1) }

pub returns : goal.returns
returns c = behind-put (entry_text c.args.journal.now c.args.image.now (chain_by c.args.slots.now c.args.way.now c.args.up) c.args.name) c.args.text.now c.args.at c.entry_fits.ensures c.if-not-entry_fits.false (both-put c.args.text.now c.args.at (path_text c.args.journal.now c.args.image.now (chain_by c.args.slots.now c.args.way.now c.args.up)) (step_text c.args.journal.now c.args.image.now c.args.name) (entry-parts c.args.journal.now c.args.image.now (chain_by c.args.slots.now c.args.way.now c.args.up) c.args.name) c.put_way-above.ensures c.put_step.ensures)
