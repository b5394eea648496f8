-- By whether the tests pass, and then by whether the text of the way has room; its places are listed once it has.
use mathlib.Core.Path.{ap, ◌∙◌}
use mathlib.Core.List.{[]}
use native.Mathlib.Omega.{arith}
use Rattle.entry_slots.specs.Table.{table}
use Rattle.entry_slots.proofs.IndexLaws.{none-indexed}
use Rattle.chain.specs.Settings.{depth}
use Rattle.chain.specs.Tracing.{with_places}
use Rattle.chain.proofs.CallLaws.{tests-fail, tests-pass}
use Rattle.base.proofs.RefusalLaws.{handed-on}
use Rattle.chain.proofs.WayLaws.{climbed-resolved, climbed-places}
use Rattle.path.proofs.CallLaws.{path-refused, path-fits, path-asks, path-full, path-written}
use Rattle.path.proofs.path.Goals as goal

pub returns-in_err-check : goal.returns-in_err-check
returns-in_err-check c = rw (handed-on _ c.from_residual.ensures.1) (path-refused _ _ _ _ _ _ (tests-fail _ _ _ _ c.check.ensures c.in_err-check.was))

pub climb-up-requires : goal.climb-up-requires
climb-up-requires c = let none = none-indexed c.args.slots.now [] [] c.args.used (path-fits c.args.journal.now c.args.image.now (table c.args.slots.now c.args.used) c.args.key c.args.list.now c.args.text.now (tests-pass _ _ depth c.args.key c.check.ensures c.in_ok-check.was)) (omega arith) in record { stride_in_bounds = none.0; indexed = none.1; levels_of_in_bounds = omega arith }

pub put_path-requires : goal.put_path-requires
put_path-requires c = path-asks c.args.journal.now c.args.image.now (table c.args.slots.now c.args.used) c.args.key c.args.list.now c.args.text.now (tests-pass _ _ depth c.args.key c.check.ensures c.in_ok-check.was) c.climb-up.ensures

pub list_places-requires : goal.list_places-requires
list_places-requires c = (path-asks c.args.journal.now c.args.image.now (table c.args.slots.now c.args.used) c.args.key c.args.list.now c.args.text.now (tests-pass _ _ depth c.args.key c.check.ensures c.in_ok-check.was) c.climb-up.ensures).slots

pub returns : goal.returns
returns c = path-written c.args.journal.now c.args.image.now (table c.args.slots.now c.args.used) c.args.key c.args.list.now c.args.text.now (tests-pass _ _ depth c.args.key c.check.ensures c.in_ok-check.was) c.climb-up.ensures.chain-is c.put_path.ensures c.in-Some.is (c.resolved-path.ensures ∙ climbed-resolved _ _ c.climb-up.ensures) (c.list_places.ensures ∙ ap (with_places c.args.list.now) (climbed-places _ _ c.climb-up.ensures))

pub returns-in_default : goal.returns-in_default
returns-in_default c = path-full c.args.journal.now c.args.image.now (table c.args.slots.now c.args.used) c.args.key c.args.list.now c.args.text.now (tests-pass _ _ depth c.args.key c.check.ensures c.in_ok-check.was) c.climb-up.ensures.chain-is c.put_path.ensures c.in_default.is
