-- By whether there are heads.
use native.Mathlib.Omega.{arith}
use Rattle.entry_slots.proofs.ProbeLaws.{found-hit, found_none}
use Rattle.entry_slots.proofs.links.seek.Goals as goal

pub returns-in-Some : goal.returns-in-Some
returns-in-Some c = found-hit _ _ _ c.find.ensures c.in-Some.is

pub returns-in-None : goal.returns-in-None
returns-in-None c = found_none _ _ _ (omega (arith, c.if-heads-gt0.false)) c.find.ensures c.in-None.is
