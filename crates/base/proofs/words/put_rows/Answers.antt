-- One row is stored from the front, and the other behind it.
use Rattle.base.proofs.WordLaws.{rows-put}
use Rattle.base.proofs.words.put_rows.Goals as goal

pub returns : goal.returns
returns c = rows-put c.args.front.now c.args.rest.now _ c.requires c.put.ensures c.put-2.ensures
