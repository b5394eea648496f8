-- The invariant: the new keys counted, with those of the entries left, are all of them.
use Rattle.entry_slots.specs.Table.{table}
use Rattle.additions.proofs.AdditionLaws.{Counting}
use Rattle.additions.proofs.room.new_keys.Given as goal

abbrev pub invariant-loop-i : goal.invariant-loop-i
invariant-loop-i g l = Counting (table l.slots l.used) (g.S.Source.added l.source) (g.S.Source.many l.source) l.n l.i
