-- The numbers, the path behind them, and the line end.
use Rattle.usn_lines.proofs.PartLaws.{line-puts}
use Rattle.usn_lines.proofs.put_line.Goals as goal

pub returns : goal.returns
returns c = line-puts c.args.journal.now c.args.records.now c.args.text.now c.args.forward.now c.args.number c.args.rewind c.requires.1 c.put_record-at.ensures c.put_record-at.auto.text c.put_path-path.ensures c.put_byte-end.ensures
