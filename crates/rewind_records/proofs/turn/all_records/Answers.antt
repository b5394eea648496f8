use Rattle.entry_slots.proofs.NameLaws.{passing-start, passing-row, passing-outside, passing-end}
use Rattle.rewind_records.proofs.RecordLaws.{records-test}
use mathlib.Core.Path.{refl}
use Rattle.rewind_records.proofs.turn.all_records.Goals as goal

pub loop-i-init : goal.loop-i-init
loop-i-init c = passing-start _ _ _

pub returns-then-not-is_record : goal.returns-then-not-is_record
returns-then-not-is_record c = records-test c.args.journal.now c.args.records.now (passing-outside c.loop-i.invariant c.loop-i-test.true refl c.is_record.ensures c.if-not-is_record.true)

pub loop-i-preserved : goal.loop-i-preserved
loop-i-preserved c = passing-row c.loop-i.invariant c.loop-i-test.true refl c.is_record.ensures c.if-not-is_record.false

pub returns : goal.returns
returns c = records-test c.args.journal.now c.args.records.now (passing-end c.loop-i.invariant c.loop-i-test.false)
