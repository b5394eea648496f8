use mathlib.Core.Path.{◌≡◌, ◌∙◌}
use native.Mathlib.Omega.{arith}
use Rattle.base.proofs.ListLaws.{writing-skip, writing-room, writing-row}
use Rattle.chain.specs.Chain.{source_words}
use Rattle.chain.proofs.PlaceLaws.{place-row, listed-none, listed-all}
use Rattle.chain.proofs.WayLaws.{places_count, places-less, places-none}
use Rattle.chain.proofs.way.list_places.Goals as goal

pub returns-then-list-names : goal.returns-then-list-names
returns-then-list-names c = listed-none _ _ (omega (arith, c.if-list-names.true, places_count c.args.slots.now c.args.way.now c.args.names))

pub put-requires : goal.put-requires
put-requires c = writing-room source_words 3 place-row c.loop-left.invariant.0 (places-less _ _ _ c.loop-left-test.true) (omega (arith, c.if-list-names.false, places_count c.args.slots.now c.args.way.now c.args.names))

pub overflow_add-i : goal.overflow_add-i
overflow_add-i c = omega (arith, writing-room source_words 3 place-row c.loop-left.invariant.0 (places-less _ _ _ c.loop-left-test.true) (omega (arith, c.if-list-names.false, places_count c.args.slots.now c.args.way.now c.args.names)), c.well_formed)

pub loop-left-preserved : goal.loop-left-preserved
loop-left-preserved c = (writing-row source_words 3 place-row c.loop-left.invariant.0 (places-less _ _ _ c.loop-left-test.true) (c.put.ensures ∙ rw c.info_at-info.ensures), omega (arith, c.loop-left.invariant.1))

pub returns : goal.returns
returns c = let none : c.loop-left.left ≡ 0 = omega (arith, c.loop-left-test.false) in
    listed-all _ _ (omega (arith, c.if-list-names.false, places_count c.args.slots.now c.args.way.now c.args.names)) (writing-skip c.loop-left.invariant.0 (rw none (places-none _ _)))
