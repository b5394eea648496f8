-- By whether a record is left.
use Rattle.base.proofs.RefusalLaws.{handed-on}
use Rattle.run_steps.proofs.StepLaws.{tests, step_end, own-inside, step-refused, step-told}
use Rattle.run_steps.proofs.run_step.Goals as goal

pub returns-then-records-position : goal.returns-then-records-position
returns-then-records-position c =
    let s = c.args in
    step_end s.journal.now s.image.now s.records.now s.forward.now s.standing.rewind.used s.standing.rewind.position c.requires.run_asks.passes s.standing.at s.heads.now s.nexts.now s.text.now c.requires.run_asks.index c.if-records-position.true

pub make_step-requires : goal.make_step-requires
make_step-requires c =
    let s = c.args in
    let p = tests s.journal.now s.image.now s.records.now s.forward.now s.standing.rewind.used s.standing.rewind.position c.requires.run_asks.passes in
    record {
      fits = p.fits;
      index = c.requires.run_asks.index;
      wide = c.requires.run_asks.wide;
      names = p.places;
      near-journal = p.journal;
      near-image = p.image;
      own = own-inside s.journal.now s.image.now s.records.now s.forward.now s.standing.rewind.used s.standing.rewind.position c.requires.run_asks.passes c.if-records-position.false c.entry_at-entry.ensures;
      long = c.requires.levels_in_bounds.0;
      room = c.requires.levels_in_bounds.1;
    }

pub returns-in_err-told : goal.returns-in_err-told
returns-in_err-told c = let s = c.args in step-refused s.journal.now s.image.now s.records.now s.forward.now s.standing.rewind.used s.standing.rewind.position c.requires.run_asks.passes c.if-records-position.false c.entry_at-entry.ensures s.standing.at s.heads.now s.nexts.now s.text.now c.make_step.ensures c.in_err-told.was (handed-on _ c.from_residual.ensures.1)

pub returns : goal.returns
returns c = let s = c.args in step-told s.journal.now s.image.now s.records.now s.forward.now s.standing.rewind.used s.standing.rewind.position c.requires.run_asks.passes c.if-records-position.false c.entry_at-entry.ensures s.standing.at s.heads.now s.nexts.now s.text.now c.make_step.ensures c.in_ok-told.was
