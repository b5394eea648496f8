-- By the record that is next, and then by whether there is a slot for it.
use native.Mathlib.Omega.{arith}
use mathlib.Core.Path.{ap, refl, ◌∙◌}
use mathlib.Core.List.{[]}
use Rattle.base.specs.Outcome.{outcome}
use Rattle.std.specs.Prelude.{Ok}
use Rattle.additions.proofs.EntryLaws.{added-forward}
use Rattle.rewind.proofs.StepLaws.{record-next, chain-refused, chain-ended, chain-full, chain-taken}
use Rattle.usn_lines.proofs.PassLaws.{passed}
use Rattle.usn_lines.proofs.next_path.pass_record.Goals as goal

pub add-requires : goal.add-requires
add-requires c = (record-next c.args.journal.now [] c.args.records.now c.args.forward.now c.args.rewind c.next_record.ensures (c.in-Ok-Some.is ∙ ap Ok c.in-Ok-Some.field-0-is)).tests.fits

pub overflow_add-result : goal.overflow_add-result
overflow_add-result c = omega (arith, (record-next c.args.journal.now [] c.args.records.now c.args.forward.now c.args.rewind c.next_record.ensures (c.in-Ok-Some.is ∙ ap Ok c.in-Ok-Some.field-0-is)).near, c.well_formed)

pub returns-in-Err : goal.returns-in-Err
returns-in-Err c = passed c.args.journal.now c.args.records.now c.args.forward.now c.args.rewind (chain-refused c.args.journal.now [] c.args.records.now c.args.forward.now c.args.rewind c.next_record.ensures c.in-Err.is [])

pub returns-in-Ok-None : goal.returns-in-Ok-None
returns-in-Ok-None c = passed c.args.journal.now c.args.records.now c.args.forward.now c.args.rewind (chain-ended c.args.journal.now [] c.args.records.now c.args.forward.now c.args.rewind c.next_record.ensures (c.in-Ok-None.is ∙ ap Ok c.in-Ok-None.field-0-is) [])

pub returns-in-Err-add : goal.returns-in-Err-add
returns-in-Err-add c = passed c.args.journal.now c.args.records.now c.args.forward.now c.args.rewind (chain-full c.args.journal.now [] c.args.records.now c.args.forward.now c.args.rewind c.next_record.ensures (c.in-Ok-Some.is ∙ ap Ok c.in-Ok-Some.field-0-is) (added-forward refl c.replaces_forward.ensures) c.add.ensures.answer c.add.ensures.slots-are (ap outcome c.in-Err-add.is) [])

pub returns-in-Ok : goal.returns-in-Ok
returns-in-Ok c = passed c.args.journal.now c.args.records.now c.args.forward.now c.args.rewind (chain-taken c.args.journal.now [] c.args.records.now c.args.forward.now c.args.rewind c.next_record.ensures (c.in-Ok-Some.is ∙ ap Ok c.in-Ok-Some.field-0-is) (added-forward refl c.replaces_forward.ensures) c.add.ensures.answer c.add.ensures.slots-are (ap outcome c.in-Ok.is) [] refl refl)
