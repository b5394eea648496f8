-- Each way out by its tests.
use mathlib.Core.Path.{sym, ◌∙◌}
use Rattle.chain.proofs.ChainLaws.{step-deep, step-root, step-found}
use Rattle.chain.proofs.steps.step.Goals as goal

pub returns-then-levels-eq0 : goal.returns-then-levels-eq0
returns-then-levels-eq0 c = step-deep _ _ _ c.if-levels-eq0.true

pub returns-then-is_root : goal.returns-then-is_root
returns-then-is_root c = step-root _ _ _ c.if-levels-eq0.false c.is_root.ensures c.if-is_root.true

pub returns-in-Some : goal.returns-in-Some
returns-in-Some c = step-found _ _ _ c.if-levels-eq0.false c.is_root.ensures c.if-is_root.false (sym c.in-Some.is ∙ c.find.ensures)

pub returns-in-None : goal.returns-in-None
returns-in-None c = step-found _ _ _ c.if-levels-eq0.false c.is_root.ensures c.if-is_root.false (sym c.in-None.is ∙ c.find.ensures)
