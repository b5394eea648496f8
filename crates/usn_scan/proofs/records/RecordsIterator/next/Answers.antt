-- Each step by what is left of the scan where it stands.
use mathlib.Core.Path.{ap, sym, ◌∙◌}
use native.Mathlib.Omega.{arith}
use lib.ListN.{length}
use Rattle.usn_scan.specs.Scan.{record_places}
use Rattle.usn_scan.proofs.ZeroLaws.{skipped}
use Rattle.usn_scan.proofs.ScanLaws.{rest}
use Rattle.usn_scan.proofs.records.RecordsIterator.next.Goals as goal

pub returns-in-Stop-clause-steps : goal.returns-in-Stop-clause-steps
returns-in-Stop-clause-steps c = let w = ap record_places (rest _ _ c.in-Stop.is c.scan_step.ensures) in (c.loop-next.invariant ∙ w, w)

pub loop-next-smaller-in-Move : goal.loop-next-smaller-in-Move
loop-next-smaller-in-Move c = let w = rest _ _ c.in-Move.is c.scan_step.ensures in omega (arith, c.skip_zeros-self.ensures.forward)

pub loop-next-preserved-in-Move : goal.loop-next-preserved-in-Move
loop-next-preserved-in-Move c = let w = rest _ _ c.in-Move.is c.scan_step.ensures in c.loop-next.invariant ∙ ap record_places (w.0 ∙ sym (skipped _ c.skip_zeros-self.ensures))

pub returns-in-Record-clause-steps : goal.returns-in-Record-clause-steps
returns-in-Record-clause-steps c = let w = rest _ _ c.in-Record.is c.scan_step.ensures in c.loop-next.invariant ∙ ap record_places w.0

pub returns-in-Record-clause-goes : goal.returns-in-Record-clause-goes
returns-in-Record-clause-goes c =
    let w = rest _ _ c.in-Record.is c.scan_step.ensures in
    record { on = λ _. (tt, tt, omega (arith, ap length (c.loop-next.invariant ∙ ap record_places w.0))); keeps = tt; rests = λ _. tt }

pub loop-next-smaller : goal.loop-next-smaller
loop-next-smaller c = let w = rest _ _ c.in-Range.is c.scan_step.ensures in omega arith

pub loop-next-preserved : goal.loop-next-preserved
loop-next-preserved c = let w = rest _ _ c.in-Range.is c.scan_step.ensures in c.loop-next.invariant ∙ ap record_places w.0
