-- The offsets passed are those of records.
use Rattle.usn_record.specs.Record.{is_answered}
use Rattle.entry_slots.proofs.NameLaws.{Passing}
use Rattle.additions.specs.Walking.{records_in}
use Rattle.rewind_records.proofs.RecordLaws.{at_number}
use Rattle.rewind_records.proofs.turn.all_records.Given as goal

abbrev pub invariant-loop-i : goal.invariant-loop-i
invariant-loop-i l = Passing is_answered (at_number l.journal l.records) l.i (records_in l.records)
