-- Each call has a level less.
use Rattle.chain.proofs.way.+rise.Given as goal

abbrev pub decreases-rise : goal.decreases-rise
decreases-rise l = l.levels
