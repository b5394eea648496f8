-- The invariant: the entries left have room and lead to where all of them lead, and the index is that of the table.
use Rattle.entry_slots.specs.Table.{table}
use Rattle.entry_table.proofs.SeedLaws.{Keeping}
use Rattle.entry_table.proofs.seeding.add_all.Given as goal

abbrev pub invariant-loop-i : goal.invariant-loop-i
invariant-loop-i g l = Keeping (table l.initial.slots l.used) (table l.slots l.now_used) (g.S.Source.added l.source) (g.S.Source.many l.source) l.i l.initial.heads l.initial.nexts l.heads l.nexts
