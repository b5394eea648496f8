-- The invariant: the names passed are inside.
use Rattle.entry_slots.specs.Names.{lengths, inside}
use Rattle.entry_slots.specs.Slots.{slot_name}
use Rattle.entry_slots.proofs.NameLaws.{Passing}
use Rattle.entry_slots.proofs.names.all_inside.Given as goal

abbrev pub invariant-loop-i : goal.invariant-loop-i
invariant-loop-i l = Passing (inside (lengths l.journal_length l.image_length)) (slot_name l.slots) l.i l.used
