-- The whole way of the key, and then the places of its names.
use mathlib.Core.Path.{ap, ◌∙◌}
use native.Mathlib.Omega.{arith}
use Rattle.chain.specs.Tracing.{with_places}
use Rattle.chain.proofs.WayLaws.{none-climbs, climbed-resolved, climbed-places}
use Rattle.chain.proofs.way.list_chain.Goals as goal

pub climb-up-requires : goal.climb-up-requires
climb-up-requires c = none-climbs _ _ (omega arith) (omega arith)

pub returns : goal.returns
returns c = record { value = c.resolved.ensures ∙ climbed-resolved _ _ c.climb-up.ensures; list_after = c.list_places.ensures ∙ ap (with_places c.args.list.now) (climbed-places _ _ c.climb-up.ensures) }
