-- By the definition.
use mathlib.Core.Path.{refl}
use Rattle.chain.specs.Chain.{is_root}
use Rattle.chain.proofs.steps.is_root.Goals as goal

pub returns : goal.returns
unfolding is_root
returns c = refl
