-- The journal's test, and then the image's.
use mathlib.Core.Path.{◌∙◌}
use Rattle.volume_answers.proofs.DomainLaws.{over_first, over-second}
use Rattle.volume_answers.proofs.domain.short_over.Goals as goal

pub returns-then-journal-gt-DOMAIN : goal.returns-then-journal-gt-DOMAIN
returns-then-journal-gt-DOMAIN c = c.number.ensures ∙ over_first c.args.journal.now c.args.image.now c.if-journal-gt-DOMAIN.true

pub returns : goal.returns
returns c = over-second c.args.journal.now c.args.image.now c.if-journal-gt-DOMAIN.false c.short.ensures
