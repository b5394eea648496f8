-- By the answer.
use Rattle.usn_lines.proofs.PathLaws.{none-ran}
use Rattle.usn_lines.proofs.next_path.run_or.Goals as goal

pub returns-in-Err : goal.returns-in-Err
returns-in-Err c = none-ran _ c.in-Err.is
