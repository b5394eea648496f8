-- The invariant: the bytes counted, with those of the units left, are all of the name's.
use Rattle.utf16.proofs.NameLaws.{Counting}
use Rattle.utf16.proofs.name.name_length.Given as goal

abbrev pub invariant-loop-left : goal.invariant-loop-left
invariant-loop-left l = Counting l.source l.offset l.size l.from l.left l.sum

abbrev pub decreases-loop-left : goal.decreases-loop-left
decreases-loop-left l = l.left
