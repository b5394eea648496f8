-- By the record that is next, and then by what is made of it with no index.
use mathlib.Core.Path.{ap, refl, ◌∙◌}
use mathlib.Core.List.{[]}
use Rattle.std.specs.Prelude.{Ok, Err, Some, None}
use native.Mathlib.Omega.{arith}
use Rattle.rewind.proofs.StepLaws.{record-next, text-refused, text-ended, made_asks, made-refused, made-told, step-refused, step-ended, step-slots, step-told}
use Rattle.rewind.proofs.rewind_next.Goals as goal

pub make_step-requires : goal.make_step-requires
make_step-requires c = made_asks c.args.journal.now c.args.image.now c.args.records.now c.args.forward.now c.args.rewind c.next_record.ensures (c.in-Ok-Some.is ∙ ap Ok c.in-Ok-Some.field-0-is) _ c.args.text.now (omega arith)

pub list_places-requires : goal.list_places-requires
list_places-requires c = step-slots c.args.journal.now c.args.image.now c.args.forward.now c.args.rewind c.args.list.now c.args.text.now _ {v = Ok (Some _)} (made-told c.args.journal.now c.args.image.now c.args.records.now c.args.forward.now c.args.rewind c.next_record.ensures (c.in-Ok-Some.is ∙ ap Ok c.in-Ok-Some.field-0-is) c.args.text.now c.make_step.ensures c.in-Ok.is) refl

pub overflow_add-result : goal.overflow_add-result
overflow_add-result c = omega (arith, (record-next c.args.journal.now c.args.image.now c.args.records.now _ _ c.next_record.ensures (c.in-Ok-Some.is ∙ ap Ok c.in-Ok-Some.field-0-is)).near, c.well_formed)

pub returns-in-Err : goal.returns-in-Err
returns-in-Err c = step-refused c.args.journal.now c.args.image.now c.args.forward.now c.args.rewind c.args.list.now c.args.text.now _ {v = Err _} (text-refused c.args.journal.now c.args.image.now c.args.records.now c.args.forward.now c.args.rewind c.next_record.ensures c.in-Err.is c.args.text.now {way = []} {v = Err _} refl) refl

pub returns-in-Ok-None : goal.returns-in-Ok-None
returns-in-Ok-None c = step-ended c.args.journal.now c.args.image.now c.args.forward.now c.args.rewind c.args.list.now c.args.text.now _ {v = Ok None} (text-ended c.args.journal.now c.args.image.now c.args.records.now c.args.forward.now c.args.rewind c.next_record.ensures (c.in-Ok-None.is ∙ ap Ok c.in-Ok-None.field-0-is) c.args.text.now {way = []}) refl

pub returns-in-Err-make_step : goal.returns-in-Err-make_step
returns-in-Err-make_step c = step-refused c.args.journal.now c.args.image.now c.args.forward.now c.args.rewind c.args.list.now c.args.text.now _ {v = Err _} (made-refused c.args.journal.now c.args.image.now c.args.records.now c.args.forward.now c.args.rewind c.next_record.ensures (c.in-Ok-Some.is ∙ ap Ok c.in-Ok-Some.field-0-is) c.args.text.now c.make_step.ensures c.in-Err-make_step.is {u = Err _} refl) refl

pub returns-in-Ok : goal.returns-in-Ok
returns-in-Ok c = step-told c.args.journal.now c.args.image.now c.args.forward.now c.args.rewind c.args.list.now c.args.text.now c.args.records.now {v = Ok (Some _)} (made-told c.args.journal.now c.args.image.now c.args.records.now c.args.forward.now c.args.rewind c.next_record.ensures (c.in-Ok-Some.is ∙ ap Ok c.in-Ok-Some.field-0-is) c.args.text.now c.make_step.ensures c.in-Ok.is) refl c.list_places.ensures
