-- By the record that is next, and then by whether there is a slot for it.
use mathlib.Core.Path.{ap, refl, ◌∙◌}
use Rattle.std.specs.Prelude.{Ok}
use native.Mathlib.Omega.{arith}
use Rattle.base.specs.Outcome.{outcome}
use Rattle.additions.proofs.EntryLaws.{added-forward}
use Rattle.rewind.proofs.StepLaws.{record-next, chain-refused, chain-ended, chain-full, after-fits, chain-taken}
use Rattle.rewind.proofs.chain_step.next_chain.Goals as goal

pub add-requires : goal.add-requires
add-requires c = (record-next c.args.journal.now c.args.image.now c.args.records.now _ _ c.next_record.ensures (c.in-Ok-Some.is ∙ ap Ok c.in-Ok-Some.field-0-is)).tests.fits

pub list_chain-above-requires : goal.list_chain-above-requires
list_chain-above-requires c = after-fits c.args.journal.now c.args.image.now c.args.records.now _ _ c.next_record.ensures (c.in-Ok-Some.is ∙ ap Ok c.in-Ok-Some.field-0-is) (added-forward refl c.replaces_forward.ensures) c.add.ensures.answer c.add.ensures.slots-are (ap outcome c.in-Ok.is)

pub overflow_add-result : goal.overflow_add-result
overflow_add-result c = omega (arith, (record-next c.args.journal.now c.args.image.now c.args.records.now _ _ c.next_record.ensures (c.in-Ok-Some.is ∙ ap Ok c.in-Ok-Some.field-0-is)).near, c.well_formed)

pub returns-in-Err : goal.returns-in-Err
returns-in-Err c = chain-refused _ _ _ _ _ c.next_record.ensures c.in-Err.is _

pub returns-in-Ok-None : goal.returns-in-Ok-None
returns-in-Ok-None c = chain-ended _ _ _ _ _ c.next_record.ensures (c.in-Ok-None.is ∙ ap Ok c.in-Ok-None.field-0-is) _

pub returns-in-Err-add : goal.returns-in-Err-add
returns-in-Err-add c = chain-full _ _ _ _ _ c.next_record.ensures (c.in-Ok-Some.is ∙ ap Ok c.in-Ok-Some.field-0-is) (added-forward refl c.replaces_forward.ensures) c.add.ensures.answer c.add.ensures.slots-are (ap outcome c.in-Err-add.is) _

pub returns-in-Ok : goal.returns-in-Ok
returns-in-Ok c = chain-taken _ _ _ _ _ c.next_record.ensures (c.in-Ok-Some.is ∙ ap Ok c.in-Ok-Some.field-0-is) (added-forward refl c.replaces_forward.ensures) c.add.ensures.answer c.add.ensures.slots-are (ap outcome c.in-Ok.is) _ c.list_chain-above.ensures.value c.list_chain-above.ensures.list_after
