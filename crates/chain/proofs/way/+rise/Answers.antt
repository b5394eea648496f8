-- Each call has a level less, and the slot that it stores goes behind those of the way so far; the last word gets the sum of what their names count for.
use mathlib.Core.Path.{sym, ◌∙◌}
use native.Mathlib.Omega.{arith}
use Rattle.chain.proofs.ChainLaws.{chain-up}
use Rattle.chain.proofs.WayLaws.{rise-end, rise-asks, rise-up}
use Rattle.chain.proofs.way.+rise.Goals as goal

pub info_at-info-requires : goal.info_at-info-requires
info_at-info-requires t c = omega (arith, (chain-up _ _ _ (sym c.in-Slot.is ∙ c.step.ensures)).slot, c.requires.stride_in_bounds.0)

pub overflow_sub-levels : goal.overflow_sub-levels
overflow_sub-levels t c = omega (arith, (chain-up _ _ _ (sym c.in-Slot.is ∙ c.step.ensures)).level)

pub rise-requires : goal.rise-requires
rise-requires t c = (omega (arith, (chain-up _ _ _ (sym c.in-Slot.is ∙ c.step.ensures)).level), (c.requires.stride_in_bounds, (c.requires.indexed, rise-asks _ _ _ _ c.args.bound c.requires.rise_asks (sym c.in-Slot.is ∙ c.step.ensures) c.info_at-info.ensures c.step_bound.ensures.0 c.step_bound.ensures.1)))

pub returns-in-End : goal.returns-in-End
returns-in-End t c = rise-end _ _ _ _ c.args.bound c.requires.rise_asks (sym c.in-End.is ∙ c.step.ensures)

pub returns-in-Slot : goal.returns-in-Slot
returns-in-Slot t c = rise-up _ _ _ _ c.args.bound c.requires.rise_asks (sym c.in-Slot.is ∙ c.step.ensures) c.info_at-info.ensures c.step_bound.ensures.0 c.rise.ensures
