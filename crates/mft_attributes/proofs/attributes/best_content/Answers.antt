use Rattle.mft_sectors.proofs.SectorLaws.{length-restored}
use Rattle.mft_attributes.proofs.LieLaws.{content-inside}
use Rattle.mft_attributes.proofs.FilenameLaws.{keeping_start, keeping_none, keeping-end, keeping-other, keeping-named}
use Rattle.mft_attributes.proofs.attributes.best_content.Goals as goal
use Rattle.mft_attributes.proofs.attributes.best_content.Goals.{in-Other, in-Named}

pub loop-init : goal.loop-init
loop-init c = record { keeping = keeping_start _ _ _; inside = tt }

pub returns-in-End-clause-kept : goal.returns-in-End-clause-kept
returns-in-End-clause-kept c = keeping-end c.loop.invariant.keeping c.loop-test.true c.in-End.is c.attribute_step.ensures

pub better-requires-clause-content_in : goal.better-requires-clause-content_in
better-requires-clause-content_in c = rw length-restored at (content-inside _ _ c.in-Named.is c.attribute_step.ensures)

pub loop-preserved : goal.loop-preserved
loop-preserved c =
    elim c.match-attribute_step.branch [
      | in-Other w ↦ rw (w.best-is, w.a-is) (record {
        keeping = keeping-other c.loop.invariant.keeping c.loop-test.true w.in-Other.is c.attribute_step.ensures;
        inside = c.loop.invariant.inside;
      })
      | in-Named w ↦ rw (w.best-is, w.a-is) (record {
        keeping = keeping-named c.loop.invariant.keeping c.loop-test.true w.in-Named.is c.attribute_step.ensures w.better.ensures.better;
        inside = w.better.ensures.inside;
      })
    ]

pub returns-clause-kept : goal.returns-clause-kept
returns-clause-kept c = keeping_none c.loop.invariant.keeping c.loop-test.false
