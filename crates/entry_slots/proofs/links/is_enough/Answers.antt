-- A head, and then a next for each slot.
use native.Mathlib.Omega.{arith}
use Rattle.entry_slots.proofs.IndexLaws.{enough-not, enough-some}
use Rattle.entry_slots.proofs.links.is_enough.Goals as goal

pub returns-then-heads-eq0 : goal.returns-then-heads-eq0
returns-then-heads-eq0 c = enough-not _ _ _ (omega (arith, c.if-heads-eq0.true))

pub returns : goal.returns
returns c = enough-some _ _ _ (omega (arith, c.if-heads-eq0.false))
