-- Storing is never refused for the domain. Assumes nothing.
use Prim.Native.Nat.{◌+◌}
use mathlib.Core.Path.{refl}
use mathlib.Core.List.{List}
use mathlib.Core.Bool.{false, not}
use lib.Dec.{ltb}
use Rattle.base.proofs.WordLaws.{Domain, domain-answered, domain-refused, domain-choice}
use Rattle.entry_slots.specs.Names.{Lengths, all_inside}
use Rattle.entry_slots.specs.Slots.{slots_in}
use Rattle.entry_slots.specs.Table.{Table, Addition, known}
use Rattle.additions.specs.Storing.{new_keys, keys_of, names_of, adding, storing}

pub storing-domain : (ls : Lengths) (t : Table) (xs : List Addition) → Domain false (storing ls t xs)
unfolding storing adding
storing-domain ls t xs =
    domain-choice (ltb (slots_in t.words) t.used) (domain-refused 9 refl)
    (domain-choice (not (all_inside ls (names_of xs))) (domain-refused 7 refl)
    (domain-choice (ltb (slots_in t.words) (t.used + new_keys (known t) (keys_of xs))) (domain-refused 6 refl) (domain-answered _)))
