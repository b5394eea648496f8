-- The invariant: the names left, written behind those that are, end in all of them.
use Prim.Native.Nat.{◌≤◌}
use Rattle.chain.specs.Way.{way_places}
use Rattle.path_text.specs.Text.{names_text}
use Rattle.path.proofs.WayLaws.{WayText}
use Rattle.path.proofs.ways.put_way.Given as goal

abbrev pub invariant-loop-left : goal.invariant-loop-left
invariant-loop-left l = WayText l.initial.text l.text l.initial.to l.to (names_text l.journal l.image (way_places l.slots l.way l.left)) (names_text l.journal l.image (way_places l.slots l.way l.initial.left)) × (l.left ≤ l.initial.left)
