-- By the answer of the parser.
use Rattle.usn_lines.proofs.PartLaws.{record-none, record-some}
use Rattle.usn_lines.proofs.put_record.Goals as goal

pub returns-in-Err : goal.returns-in-Err
returns-in-Err c = record-none c.args.journal.now c.args.offset c.listed_record.ensures _ c.in-Err.is

pub returns-in-Ok : goal.returns-in-Ok
returns-in-Ok c = record-some c.args.journal.now c.args.offset c.listed_record.ensures _ c.in-Ok.is c.put_numbers.ensures
