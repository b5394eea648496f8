use mathlib.Core.Path.{refl, ap}
use native.Mathlib.Omega.{arith}
use Rattle.base.specs.Outcome.{outcome}
use Rattle.additions.proofs.AdditionLaws.{rows-refused, rows-added-all}
use Rattle.additions.proofs.EntryLaws.{added-backward}
use Rattle.entry_table.proofs.AddingLaws.{stores-by}
use Rattle.entry_table.proofs.SeedLaws.{keeping-index, keeping-next}
use Rattle.rewind_records.proofs.backward.add_backward.Goals as goal

pub add_by-requires : goal.add_by-requires
add_by-requires c = record { used_bound = omega (arith, c.loop-i.invariant.made.rest.room); indexed = keeping-index c.loop-i.invariant c.requires.indexed.1 }

pub loop-i-preserved : goal.loop-i-preserved
loop-i-preserved c = keeping-next c.loop-i.invariant c.loop-i-test.true (added-backward c.entry_from_last-entry.ensures c.replaces_backward-replace.ensures) c.add_by.ensures (ap outcome c.in_ok-now_used.was)

pub returns : goal.returns
returns c = stores-by (rows-added-all c.loop-i.invariant.made c.loop-i-test.false c.requires.records_bound) refl refl (c.loop-i.invariant.heads-kept, c.loop-i.invariant.nexts-kept)

pub returns-in_err-now_used : goal.returns-in_err-now_used
returns-in_err-now_used c = absurd (rows-refused c.loop-i.invariant.made c.loop-i-test.true (added-backward c.entry_from_last-entry.ensures c.replaces_backward-replace.ensures) c.add_by.ensures.store.answer (ap outcome c.in_err-now_used.was))
