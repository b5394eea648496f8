-- The invariant: the walk stands at the link that follows the last one, and the key's slot is found from there on.
use lib.ListN.{length}
use Rattle.entry_slots.specs.Table.{table}
use Rattle.entry_slots.proofs.ProbeLaws.{left, Walking}
use Rattle.entry_slots.proofs.links.probe_key.Given as goal

abbrev pub invariant-loop-link : goal.invariant-loop-link
invariant-loop-link l = Walking (length l.heads) (table l.slots l.used) l.key l.link l.last

abbrev pub decreases-loop-link : goal.decreases-loop-link
decreases-loop-link l = left l.used l.link
