-- An entry is known where a record is listed.
use Rattle.additions.proofs.EntryLaws.{record-tested}
use Rattle.rewind_records.proofs.turn.is_record.Goals as goal

pub returns : goal.returns
returns c = record-tested _ _ c.is_listed.ensures
