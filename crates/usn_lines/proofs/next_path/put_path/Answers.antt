-- In as many bytes as a path may take.
use Rattle.usn_lines.proofs.PathLaws.{path-put}
use Rattle.usn_lines.proofs.next_path.put_path.Goals as goal

pub returns : goal.returns
returns c = path-put c.args.journal.now c.args.records.now c.args.forward.now c.args.rewind c.put_within.ensures
