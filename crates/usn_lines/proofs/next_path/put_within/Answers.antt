-- Where the step was made, the path as it is shown.
use Rattle.usn_lines.proofs.PathLaws.{path-some}
use Rattle.usn_lines.proofs.next_path.put_within.Goals as goal

pub returns-in-Some : goal.returns-in-Some
returns-in-Some c = path-some c.args.journal.now c.args.records.now c.args.forward.now c.args.rewind c.args.text.now c.args.most c.requires (rw c.in-Some.is at c.step_with_text.ensures) c.show.ensures
