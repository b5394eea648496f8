-- By what seeking says.
use Rattle.entry_slots.proofs.ProbeLaws.{probed-hit, probed_none}
use Rattle.entry_slots.proofs.links.find.Goals as goal

pub returns-in-Hit : goal.returns-in-Hit
returns-in-Hit c = probed-hit _ _ _ c.seek.ensures c.in-Hit.is

pub returns-in-Last : goal.returns-in-Last
returns-in-Last c = probed_none _ _ _ c.seek.ensures c.in-Last.is
