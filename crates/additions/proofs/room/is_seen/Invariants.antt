-- The invariant: the key is not in the table, nor among the entries passed.
use Rattle.entry_slots.specs.Table.{table}
use Rattle.additions.specs.Sources.{keys_by}
use Rattle.additions.proofs.AdditionLaws.{Looking}
use Rattle.additions.proofs.room.is_seen.Given as goal

abbrev pub invariant-loop-j : goal.invariant-loop-j
invariant-loop-j g l = Looking (table l.slots l.used) (keys_by (g.S.Source.added l.source)) l.key l.j l.i
