-- A run that is asked for one step, by whether it made one.
use Rattle.usn_lines.proofs.PathLaws.{tells-none, tells-some}
use Rattle.usn_lines.proofs.next_path.step_with_text.Goals as goal

pub returns-then-run-eq0 : goal.returns-then-run-eq0
returns-then-run-eq0 c = tells-none c.args.journal.now c.args.records.now c.args.forward.now c.args.rewind c.args.text.now _ c.rewind_run-answer.ensures c.run_or-run.ensures c.if-run-eq0.true

pub returns : goal.returns
returns c = tells-some c.args.journal.now c.args.records.now c.args.forward.now c.args.rewind c.args.text.now _ c.rewind_run-answer.ensures c.run_or-run.ensures c.if-run-eq0.false
