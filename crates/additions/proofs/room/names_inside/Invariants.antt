-- The invariant: the names passed are inside.
use Rattle.entry_slots.specs.Names.{lengths, inside}
use Rattle.entry_slots.proofs.NameLaws.{Passing}
use Rattle.additions.proofs.AdditionLaws.{names_at}
use Rattle.additions.proofs.room.names_inside.Given as goal

abbrev pub invariant-loop-i : goal.invariant-loop-i
invariant-loop-i g l = Passing (inside (lengths l.journal_length l.image_length)) (names_at (g.S.Source.added l.source)) l.i (g.S.Source.many l.source)
