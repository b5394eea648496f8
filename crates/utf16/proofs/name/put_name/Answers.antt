use mathlib.Core.Path.{sym, ◌∙◌}
use native.Mathlib.Omega.{arith}
use Rattle.utf16.proofs.NameLaws.{four-room, putting-four}
use Rattle.utf16.proofs.name.put_name.Goals as goal

pub put_four-requires : goal.put_four-requires
put_four-requires c = record { units_value = sym c.four_ascii.ensures ∙ c.if-four_ascii.true; at_in_bounds = four-room c.loop-left.invariant (λ k. omega (arith, c.shared_slice_known-1.given k)) c.loop-left-test.true c.four_at-four.ensures (sym c.four_ascii.ensures ∙ c.if-four_ascii.true) c.requires.size_in_bounds_2 }

pub loop-left-preserved : goal.loop-left-preserved
loop-left-preserved c = putting-four c.loop-left.invariant (λ k. omega (arith, c.shared_slice_known-1.given k)) c.loop-left-test.true c.four_at-four.ensures (sym c.four_ascii.ensures ∙ c.if-four_ascii.true) _ (omega arith) (omega arith) (omega arith) c.put_four.ensures
