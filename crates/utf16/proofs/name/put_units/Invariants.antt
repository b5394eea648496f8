-- The invariant: what is written, with the text of the units left, is the whole text.
use Rattle.utf16.proofs.NameLaws.{Putting}
use Rattle.utf16.proofs.name.put_units.Given as goal

abbrev pub invariant-loop-left : goal.invariant-loop-left
invariant-loop-left l = Putting l.source l.offset l.units l.initial.text l.at l.text l.from l.left l.to

abbrev pub decreases-loop-left : goal.decreases-loop-left
decreases-loop-left l = l.left
