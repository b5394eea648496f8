-- By what the tests say of the end.
use mathlib.Core.Path.{sym, ◌∙◌}
use borrow.Author.Tests.{eq-eqb, ne_eqb}
use Rattle.window_numbers.specs.Numbers.{window_end, wrong_end}
use Rattle.window_numbers.proofs.wrong_end.Goals as goal

pub returns-then-end-window_end : goal.returns-then-end-window_end
unfolding wrong_end
returns-then-end-window_end c = simp (ne_eqb c.args.end (window_end c.args.start c.args.total) (λ e. c.if-end-window_end.true (e ∙ sym c.window_end.ensures)))

pub returns-else-end-window_end : goal.returns-else-end-window_end
unfolding wrong_end
returns-else-end-window_end c = let e = c.if-end-window_end.false in simp (eq-eqb _ _ e, eq-eqb c.args.end (window_end c.args.start c.args.total) (e ∙ c.window_end.ensures))
