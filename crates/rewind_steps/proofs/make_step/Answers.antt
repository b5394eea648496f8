-- By whether a slot is left, then by what the addition answers, and then by what is told.
use mathlib.Core.Path.{refl, ap, ◌∙◌}
use native.Mathlib.Omega.{arith}
use Rattle.entry_slots.specs.Table.{table}
use Rattle.entry_slots.proofs.ProbeLaws.{probed-slot}
use Rattle.base.specs.Outcome.{outcome}
use Rattle.base.proofs.RefusalLaws.{handed-on}
use Rattle.additions.proofs.EntryLaws.{added-forward}
use Rattle.rewind_steps.proofs.MakeLaws.{make-none, make-refused, make-asks, make-written}
use Rattle.rewind_steps.proofs.make_step.Goals as goal

pub seek-found-requires : goal.seek-found-requires
seek-found-requires c = record { stride_in_bounds = (omega (arith, c.requires.fits), λ h. let g = c.requires.wide h in omega (arith, c.requires.fits)); indexed = c.requires.index }

pub returns-then-forward-slot : goal.returns-then-forward-slot
returns-then-forward-slot c = let s = c.args in make-none s.journal.now s.image.now (table s.forward.now s.stand.used) s.entry s.text.now s.stand.at s.heads.now s.nexts.now c.requires.fits c.requires.index (c.slot_of-slot.ensures ∙ probed-slot _ _ _ _ c.seek-found.ensures) c.if-forward-slot.true

pub add_found-requires : goal.add_found-requires
add_found-requires c = record { used_bound = c.requires.fits; indexed = (c.requires.index, c.requires.wide); probed = c.seek-found.ensures }

pub tell-requires : goal.tell-requires
tell-requires c = let s = c.args in
    let asks = make-asks s.journal.now s.image.now (table s.forward.now s.stand.used) s.entry s.text.now s.stand.at s.heads.now s.nexts.now c.requires.fits c.requires.index (added-forward refl c.replaces_forward.ensures) c.add_found.ensures.store.answer c.add_found.ensures.store.slots-are c.add_found.ensures.heads-are c.add_found.ensures.nexts-are (ap outcome c.in_ok-used.was) c.if-forward-slot.false c.requires in
    record { step_asks = asks.0; slot_bound = asks.1 }

pub returns-in_err-used : goal.returns-in_err-used
returns-in_err-used c = let s = c.args in rw (handed-on _ c.from_residual.ensures.1) (make-refused s.journal.now s.image.now (table s.forward.now s.stand.used) s.entry s.text.now s.stand.at s.heads.now s.nexts.now c.requires.fits c.requires.index (added-forward refl c.replaces_forward.ensures) c.add_found.ensures.store.answer c.add_found.ensures.store.slots-are c.add_found.ensures.heads-are c.add_found.ensures.nexts-are (ap outcome c.in_err-used.was))

pub returns : goal.returns
returns c = let s = c.args in make-written s.journal.now s.image.now (table s.forward.now s.stand.used) s.entry s.text.now s.stand.at s.heads.now s.nexts.now c.requires.fits c.requires.index (added-forward refl c.replaces_forward.ensures) c.add_found.ensures.store.answer c.add_found.ensures.store.slots-are c.add_found.ensures.heads-are c.add_found.ensures.nexts-are (ap outcome c.in_ok-used.was) (c.slot_of-slot.ensures ∙ probed-slot _ _ _ _ c.seek-found.ensures) c.key_at.ensures c.info_at.ensures c.tell.ensures
