-- Each refusal by the tests that led to it.
use native.Mathlib.Omega.{arith}
use mathlib.Core.Path.{sym, ◌∙◌}
use Rattle.window_numbers.proofs.NumberLaws.{refused-total, refused-buffer, refused-above, refused_end, refused-start, refused-position, refused-before, refused-after, refused-held, not-refused}
use Rattle.window_numbers.proofs.check.Goals as goal

pub returns-then-total-gt-STREAM_DOMAIN : goal.returns-then-total-gt-STREAM_DOMAIN
returns-then-total-gt-STREAM_DOMAIN c = refused-total _ _ (omega arith)

pub returns-then-buffer_length-ne-WINDOW_SIZE : goal.returns-then-buffer_length-ne-WINDOW_SIZE
returns-then-buffer_length-ne-WINDOW_SIZE c = refused-buffer _ _ (omega arith) c.if-buffer_length-ne-WINDOW_SIZE.true

pub returns-then-total-end : goal.returns-then-total-end
returns-then-total-end c = refused-above _ _ (omega arith) (omega arith) (omega arith)

pub returns-then-wrong_end : goal.returns-then-wrong_end
returns-then-wrong_end c = refused_end _ _ (omega arith) (omega arith) (sym c.wrong_end.ensures ∙ c.if-wrong_end.true)

pub returns-then-start-ne0 : goal.returns-then-start-ne0
returns-then-start-ne0 c = refused-start _ _ (omega arith) (omega arith) (sym c.wrong_end.ensures ∙ c.if-wrong_end.false) (λ e. c.if-start-ne0.true (omega arith))

pub returns-then-position-ne0 : goal.returns-then-position-ne0
returns-then-position-ne0 c = refused-position _ _ (omega arith) (omega arith) (sym c.wrong_end.ensures ∙ c.if-wrong_end.false) (omega arith) (λ e. c.if-position-ne0.true (omega arith))

pub returns-then-position-start : goal.returns-then-position-start
returns-then-position-start c = refused-before _ _ (omega arith) (omega arith) (sym c.wrong_end.ensures ∙ c.if-wrong_end.false) (omega arith) (omega arith) (omega arith)

pub returns-then-end-position : goal.returns-then-end-position
returns-then-end-position c = refused-after _ _ (omega arith) (omega arith) (sym c.wrong_end.ensures ∙ c.if-wrong_end.false) (omega arith) (omega arith) (omega arith) (omega arith)

pub returns-then-end-start : goal.returns-then-end-start
returns-then-end-start c = refused-held _ _ (omega arith) (omega arith) (sym c.wrong_end.ensures ∙ c.if-wrong_end.false) (omega arith) (omega arith) (omega arith) (omega arith) (omega arith)

pub returns-then-end-start-2 : goal.returns-then-end-start-2
returns-then-end-start-2 c = refused-held _ _ (omega (arith, c.if-total-gt-STREAM_DOMAIN.false)) (omega (arith, c.if-buffer_length-ne-WINDOW_SIZE.false)) (sym c.wrong_end.ensures ∙ c.if-wrong_end.false) (omega arith) (omega arith) (omega arith) (omega arith) (omega arith)

pub returns : goal.returns
returns c = not-refused _ _ (omega (arith, c.if-total-gt-STREAM_DOMAIN.false)) (omega (arith, c.if-buffer_length-ne-WINDOW_SIZE.false)) (sym c.wrong_end.ensures ∙ c.if-wrong_end.false) (omega arith) (omega arith) (omega arith) (omega arith) (omega arith)
