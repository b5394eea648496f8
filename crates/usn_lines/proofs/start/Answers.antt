-- By the answer of the start.
use Rattle.usn_lines.proofs.PassLaws.{start-refused, start-begun}
use Rattle.usn_lines.proofs.start.Goals as goal

pub returns-in-Err : goal.returns-in-Err
returns-in-Err c = start-refused c.args.journal.now c.args.records.now c.args.first.now c.args.forward.now c.rewind_start.ensures c.in-Err.is

pub returns-in-Ok : goal.returns-in-Ok
returns-in-Ok c = start-begun c.args.journal.now c.args.records.now c.args.first.now c.args.forward.now c.rewind_start.ensures c.in-Ok.is
