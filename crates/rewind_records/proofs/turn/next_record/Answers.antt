-- After the tests, by the position.
use native.Mathlib.Omega.{arith}
use Rattle.base.proofs.RefusalLaws.{handed-on}
use Rattle.rewind_records.proofs.TurnLaws.{checks, turn-refused, turn_end, turn-next}
use Rattle.rewind_records.proofs.turn.next_record.Goals as goal

pub returns-in_err-check : goal.returns-in_err-check
returns-in_err-check c = turn-refused c.args.journal.now c.args.records.now _ _ _ c.check.ensures c.in_err-check.was (handed-on _ c.from_residual.ensures.1)

pub returns-then-records-position : goal.returns-then-records-position
returns-then-records-position c = turn_end c.args.journal.now c.args.records.now _ _ _ (checks _ _ c.check.ensures c.in_ok-check.was) c.if-records-position.true

pub returns : goal.returns
returns c = turn-next c.args.journal.now c.args.records.now _ _ _ (checks _ _ c.check.ensures c.in_ok-check.was) c.if-records-position.false c.entry_at.ensures
