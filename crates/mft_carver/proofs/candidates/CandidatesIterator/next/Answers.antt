-- Each step by what is left of the run where it stands.
use mathlib.Core.Path.{ap, ◌∙◌}
use native.Mathlib.Omega.{arith}
use lib.ListN.{length}
use Rattle.mft_carver.proofs.RunLaws.{rest}
use Rattle.mft_carver.proofs.candidates.CandidatesIterator.next.Goals as goal

pub returns-in-Stop-clause-steps : goal.returns-in-Stop-clause-steps
returns-in-Stop-clause-steps c = let w = rest _ _ c.loop-next.self.image.sized _ c.in-Stop.is c.carve_step.ensures in (c.loop-next.invariant ∙ w, w)

pub returns-in-Met-clause-steps : goal.returns-in-Met-clause-steps
returns-in-Met-clause-steps c = let w = rest _ _ c.loop-next.self.image.sized _ c.in-Met.is c.carve_step.ensures in c.loop-next.invariant ∙ w.0

pub returns-in-Met-clause-goes : goal.returns-in-Met-clause-goes
returns-in-Met-clause-goes c =
    let w = rest _ _ c.loop-next.self.image.sized _ c.in-Met.is c.carve_step.ensures in
    record { on = λ _. (tt, tt, omega (arith, ap length (c.loop-next.invariant ∙ w.0))); keeps = tt; rests = λ _. tt }

pub loop-next-smaller : goal.loop-next-smaller
loop-next-smaller c = let w = rest _ _ c.loop-next.self.image.sized _ c.in-Move.is c.carve_step.ensures in omega arith

pub loop-next-preserved : goal.loop-next-preserved
loop-next-preserved c = let w = rest _ _ c.loop-next.self.image.sized _ c.in-Move.is c.carve_step.ensures in c.loop-next.invariant ∙ w.0
