use Prim.Native.Nat.{◌-◌}
use mathlib.Core.Path.{ap}
use native.Mathlib.Omega.{arith}
use lib.ListN.{length, get_or}
use lib.Seq.{length-sets}
use Rattle.entry_slots.specs.Slots.{slot_name}
use Rattle.chain.specs.Way.{way_places, chain_by}
use Rattle.path_text.specs.Text.{end_text, step_text, names_text}
use Rattle.path_text.proofs.MarkerLaws.{both-put}
use Rattle.path.proofs.BoundLaws.{text-less, text-none, path-parts, path-long}
use Rattle.path.proofs.WayLaws.{way-text-room, way-text-more, way-text-end}
use Rattle.path.proofs.ways.put_way.Goals as goal

pub put_end-to-requires : goal.put_end-to-requires
put_end-to-requires c = omega (arith, c.requires.up_in_bounds, path-long c.args.journal.now c.args.image.now (chain_by c.args.slots.now c.args.way.now c.args.up))

pub put_step-to-requires : goal.put_step-to-requires
put_step-to-requires c = record { place_value = rw c.info_at-info.ensures (c.requires.way_asks.insides _ (omega (arith, c.loop-left.invariant.1, c.loop-left-test.true))); place_in_bounds = rw c.info_at-info.ensures (way-text-room c.loop-left.invariant.0 (step_text c.args.journal.now c.args.image.now (slot_name c.args.slots.now (get_or c.args.way.now (c.loop-left.left - 1) 0))) (names_text c.args.journal.now c.args.image.now (way_places c.args.slots.now c.args.way.now (c.loop-left.left - 1))) (text-less c.args.slots.now c.args.way.now c.loop-left.left c.loop-left-test.true c.args.journal.now c.args.image.now) (omega (arith, c.requires.up_in_bounds, path-long c.args.journal.now c.args.image.now (chain_by c.args.slots.now c.args.way.now c.args.up), c.put_end-to.ensures.value, ap length c.put_end-to.ensures.text_after, length-sets c.args.text.now c.args.at (end_text c.args.up.end)))) }

pub loop-left-preserved : goal.loop-left-preserved
loop-left-preserved c = (way-text-more c.loop-left.invariant.0 (step_text c.args.journal.now c.args.image.now (slot_name c.args.slots.now (get_or c.args.way.now (c.loop-left.left - 1) 0))) (names_text c.args.journal.now c.args.image.now (way_places c.args.slots.now c.args.way.now (c.loop-left.left - 1))) (text-less c.args.slots.now c.args.way.now c.loop-left.left c.loop-left-test.true c.args.journal.now c.args.image.now) (rw c.info_at-info.ensures at c.put_step-to.ensures), omega (arith, c.loop-left.invariant.1))

pub returns : goal.returns
returns c = both-put c.args.text.now c.args.at (end_text c.args.up.end) (names_text c.args.journal.now c.args.image.now (way_places c.args.slots.now c.args.way.now c.args.up.names)) (path-parts c.args.journal.now c.args.image.now (chain_by c.args.slots.now c.args.way.now c.args.up)) c.put_end-to.ensures (way-text-end c.loop-left.invariant.0 (text-none c.args.slots.now c.args.way.now c.args.journal.now c.args.image.now (omega (arith, c.loop-left-test.false))))
