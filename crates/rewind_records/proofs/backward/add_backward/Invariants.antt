-- The records left have room and lead to where all of them lead, and the index is that of the table.
use Rattle.entry_slots.specs.Table.{table}
use Rattle.entry_table.proofs.SeedLaws.{Keeping}
use Rattle.additions.specs.Walking.{records_in, last_added}
use Rattle.rewind_records.proofs.backward.add_backward.Given as goal

abbrev pub invariant-loop-i : goal.invariant-loop-i
invariant-loop-i l = Keeping (table l.initial.slots l.used) (table l.slots l.now_used) (last_added l.journal l.records) (records_in l.records) l.i l.initial.heads l.initial.nexts l.heads l.nexts
