-- One name after the other.
use mathlib.Core.Path.{ap}
use Rattle.entry_slots.specs.declared.EntryInfo.{EntryInfo}
use Rattle.entry_slots.proofs.NameLaws.{passing-row, passing-outside, passing-end}
use Rattle.additions.proofs.AdditionLaws.{names-of-rows}
use Rattle.additions.proofs.room.names_inside.Goals as goal

pub returns-then-not-is_inside : goal.returns-then-not-is_inside
returns-then-not-is_inside g c = names-of-rows _ (g.S.Source.added c.args.source) _ (passing-outside c.loop-i.invariant (rw c.count-i-end.ensures at c.loop-i-test.true) (ap (λ (e : EntryInfo). e.name) c.info.ensures) c.is_inside.ensures c.if-not-is_inside.true)

pub loop-i-preserved : goal.loop-i-preserved
loop-i-preserved g c = passing-row c.loop-i.invariant (rw c.count-i-end.ensures at c.loop-i-test.true) (ap (λ (e : EntryInfo). e.name) c.info.ensures) c.is_inside.ensures c.if-not-is_inside.false

pub returns : goal.returns
returns g c = names-of-rows _ (g.S.Source.added c.args.source) _ (passing-end c.loop-i.invariant (rw c.count-i-end.ensures at c.loop-i-test.false))
