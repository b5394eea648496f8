-- The invariant: the links are right for the slots from i on.
use Rattle.entry_slots.specs.Table.{table}
use Rattle.entry_slots.proofs.BuildLaws.{Built}
use Rattle.entry_slots.proofs.links.build.Given as goal

abbrev pub invariant-loop-i : goal.invariant-loop-i
invariant-loop-i l = Built l.m (table l.slots l.used) l.initial.nexts l.heads l.nexts l.i
