-- The words are stored from the front.
use Rattle.base.proofs.WordLaws.{row_put}
use Rattle.base.proofs.words.put_row.Goals as goal

pub returns : goal.returns
returns c = row_put _ _ c.requires c.put.ensures
