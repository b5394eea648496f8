-- The words are the numbers in their order.
use Rattle.usn_answers.proofs.WindowLaws.{reader-made}
use Rattle.usn_answers.proofs.window.reader_row.Goals as goal

pub returns : goal.returns
returns c = reader-made c.args.w
