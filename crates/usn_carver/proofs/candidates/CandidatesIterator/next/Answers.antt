-- Each step by what is left of the run where it stands.
use mathlib.Core.Path.{ap, sym, ◌∙◌}
use native.Mathlib.Omega.{arith}
use lib.ListN.{length}
use Rattle.usn_carver.proofs.SkipLaws.{skipped}
use Rattle.usn_carver.proofs.RunLaws.{rest}
use Rattle.usn_carver.proofs.candidates.CandidatesIterator.next.Goals as goal

pub returns-in-Stop-clause-steps : goal.returns-in-Stop-clause-steps
returns-in-Stop-clause-steps c = let w = rest _ _ _ c.in-Stop.is c.carve_step.ensures in (c.loop-next.invariant ∙ w, w)

pub loop-next-smaller-in-Zero : goal.loop-next-smaller-in-Zero
loop-next-smaller-in-Zero c = let w = rest _ _ _ c.in-Zero.is c.carve_step.ensures in omega (arith, c.skip_zeros-self.ensures.forward)

pub loop-next-preserved-in-Zero : goal.loop-next-preserved-in-Zero
loop-next-preserved-in-Zero c = let w = rest _ _ _ c.in-Zero.is c.carve_step.ensures in c.loop-next.invariant ∙ w.0 ∙ sym (skipped _ _ c.skip_zeros-self.ensures)

pub returns-in-Met-clause-steps : goal.returns-in-Met-clause-steps
returns-in-Met-clause-steps c = let w = rest _ _ _ c.in-Met.is c.carve_step.ensures in c.loop-next.invariant ∙ w.0

pub returns-in-Met-clause-goes : goal.returns-in-Met-clause-goes
returns-in-Met-clause-goes c =
    let w = rest _ _ _ c.in-Met.is c.carve_step.ensures in
    record { on = λ _. (tt, tt, omega (arith, ap length (c.loop-next.invariant ∙ w.0))); keeps = tt; rests = λ _. tt }

pub loop-next-smaller : goal.loop-next-smaller
loop-next-smaller c = let w = rest _ _ _ c.in-Move.is c.carve_step.ensures in omega arith

pub loop-next-preserved : goal.loop-next-preserved
loop-next-preserved c = let w = rest _ _ _ c.in-Move.is c.carve_step.ensures in c.loop-next.invariant ∙ w.0
