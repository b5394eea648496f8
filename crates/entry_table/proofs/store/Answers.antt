-- Each way out by its tests.
use mathlib.Core.Path.{refl}
use Rattle.entry_slots.proofs.NameLaws.{one_inside}
use Rattle.additions.proofs.StoringLaws.{stored-bad-state, stored-outside, stored-inside}
use Rattle.entry_table.proofs.AddingLaws.{stores}
use Rattle.entry_table.proofs.store.Goals as goal

pub returns-then-slots-used : goal.returns-then-slots-used
returns-then-slots-used c = stores (stored-bad-state _ _ _ c.if-slots-used.true) refl refl

pub returns-then-not-is_inside : goal.returns-then-not-is_inside
returns-then-not-is_inside c = stores (stored-outside _ _ _ c.if-slots-used.false (one_inside _ _ c.is_inside.ensures c.if-not-is_inside.true)) refl refl

pub returns : goal.returns
returns c = stores (stored-inside _ _ _ c.if-slots-used.false (one_inside _ _ c.is_inside.ensures c.if-not-is_inside.false)) c.add.ensures.answer c.add.ensures.slots-are
