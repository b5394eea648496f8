-- The parts of the low half are those of the whole reference.
use borrow.Author.Rules.{rules}
use Rattle.usn_record.proofs.FieldLaws.{sequenced-halves, plain-halves}
use Rattle.usn_record.proofs.fields.parts_of.Goals as goal

pub returns-then-sequenced : goal.returns-then-sequenced
returns-then-sequenced c = sequenced-halves _ _ (search rules) c.if-sequenced.true

pub returns-else-sequenced : goal.returns-else-sequenced
returns-else-sequenced c = plain-halves _ _ (search rules) c.if-sequenced.false
