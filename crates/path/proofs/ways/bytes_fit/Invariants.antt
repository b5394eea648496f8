-- The invariant: the bytes of the names left, with what is spent, are those of all. A name that is not counted has more units than there is room.
use Prim.Native.Nat.{◌+◌, ◌≤◌}
use mathlib.Core.Path.{◌≡◌}
use Rattle.chain.specs.Way.{way_places}
use lib.ListN.{length}
use Rattle.path_text.specs.Text.{names_text}
use Rattle.path.proofs.ways.bytes_fit.Given as goal

abbrev pub invariant-loop-left : goal.invariant-loop-left
invariant-loop-left l = (l.ending + length (names_text l.journal l.image (way_places l.slots l.way l.initial.left)) + l.spare ≡ length (names_text l.journal l.image (way_places l.slots l.way l.left)) + l.room) × ((l.left ≤ l.initial.left) × (l.spare ≤ l.room))
