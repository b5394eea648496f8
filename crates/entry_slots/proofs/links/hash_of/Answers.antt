-- The code is the definition's.
use mathlib.Core.Path.{refl}
use Rattle.entry_slots.specs.Index.{hash}
use Rattle.entry_slots.proofs.links.hash_of.Goals as goal

pub returns : goal.returns
unfolding hash
returns c = refl
