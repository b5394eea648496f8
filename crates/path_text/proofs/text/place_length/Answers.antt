-- By the source.
use mathlib.Core.Path.{ap, sym, ◌∙◌}
use lib.ListN.{length}
use Rattle.path_text.proofs.NameLaws.{journal-text, journal-inside, image-text, image-inside}
use Rattle.path_text.proofs.text.place_length.Goals as goal

pub name_length-requires : goal.name_length-requires
name_length-requires c = journal-inside c.args.journal.now c.args.image.now c.args.place c.if-place-eq-JOURNAL.true c.requires

pub returns-then-place-eq-JOURNAL : goal.returns-then-place-eq-JOURNAL
returns-then-place-eq-JOURNAL c = c.name_length.ensures ∙ sym (ap length (journal-text c.args.journal.now c.args.image.now c.args.place c.if-place-eq-JOURNAL.true))

pub image_length-requires : goal.image_length-requires
image_length-requires c = image-inside c.args.journal.now c.args.image.now c.args.place c.if-place-eq-JOURNAL.false c.requires

pub returns : goal.returns
returns c = c.image_length.ensures ∙ sym (ap length (image-text c.args.journal.now c.args.image.now c.args.place c.if-place-eq-JOURNAL.false))
