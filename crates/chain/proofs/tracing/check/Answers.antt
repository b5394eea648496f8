-- Each way out by its tests.
use mathlib.Core.Path.{sym, ◌∙◌}
use Rattle.chain.proofs.CallLaws.{refusal-journal, refusal-image, refusal-state, refusal-outside, refusal-none}
use Rattle.chain.proofs.tracing.check.Goals as goal

pub returns-then-journal_length-gt-DOMAIN : goal.returns-then-journal_length-gt-DOMAIN
returns-then-journal_length-gt-DOMAIN c = refusal-journal _ _ c.if-journal_length-gt-DOMAIN.true

pub returns-then-image_length-gt-DOMAIN : goal.returns-then-image_length-gt-DOMAIN
returns-then-image_length-gt-DOMAIN c = refusal-image _ _ c.if-journal_length-gt-DOMAIN.false c.if-image_length-gt-DOMAIN.true

pub returns-then-slots-used : goal.returns-then-slots-used
returns-then-slots-used c = refusal-state _ _ c.if-journal_length-gt-DOMAIN.false c.if-image_length-gt-DOMAIN.false c.if-slots-used.true

pub returns-then-not-all_inside : goal.returns-then-not-all_inside
returns-then-not-all_inside c = refusal-outside _ _ c.if-journal_length-gt-DOMAIN.false c.if-image_length-gt-DOMAIN.false c.if-slots-used.false (sym c.all_inside.ensures ∙ c.if-not-all_inside.true)

pub returns : goal.returns
returns c = refusal-none _ _ c.if-journal_length-gt-DOMAIN.false c.if-image_length-gt-DOMAIN.false c.if-slots-used.false (sym c.all_inside.ensures ∙ c.if-not-all_inside.false)
