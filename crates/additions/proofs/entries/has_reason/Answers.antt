-- By the division, as the definition has it.
use Rattle.additions.proofs.EntryLaws.{reason-tested}
use Rattle.additions.proofs.entries.has_reason.Goals as goal

pub returns : goal.returns
returns c = reason-tested _ _
