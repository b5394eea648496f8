-- Entries stored by one call after the other, which storing them all by one call is compared with.
use Rattle.std.specs.Prelude.{List, [], ◌∷◌}
use Rattle.base.specs.Outcome.{Outcome, answered, and_then}
use Rattle.entry_slots.specs.Names.{Lengths}
use Rattle.entry_slots.specs.Table.{Table, Addition}
use Rattle.additions.specs.Storing.{storing}

-- a call for each entry, up to the first that is refused
unfoldable pub in_turn : Lengths → Table → List Addition → Outcome Table
in_turn ls t [] = answered t
in_turn ls t (x ∷ xs) = and_then (storing ls t (x ∷ [])) (λ u. in_turn ls u xs)
