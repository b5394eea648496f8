-- The invariant: the slots passed do not have the key.
use Rattle.entry_slots.proofs.FindLaws.{Finding}
use Rattle.entry_slots.proofs.slots.find.Given as goal

abbrev pub invariant-loop-i : goal.invariant-loop-i
invariant-loop-i l = Finding l.slots l.key l.i l.used
