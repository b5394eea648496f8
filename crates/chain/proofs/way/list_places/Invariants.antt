-- The invariant: the names that are left, stored behind those that are, end in all of them.
use Prim.Native.Nat.{◌≤◌}
use Rattle.base.proofs.ListLaws.{Writing}
use Rattle.chain.specs.Chain.{source_words}
use Rattle.chain.specs.Way.{way_places}
use Rattle.chain.proofs.way.list_places.Given as goal

abbrev pub invariant-loop-left : goal.invariant-loop-left
invariant-loop-left l = Writing source_words 3 l.initial.list l.list l.i (way_places l.slots l.way l.left) (way_places l.slots l.way l.names) × (l.left ≤ l.names)
