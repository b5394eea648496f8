-- The invariant: the candidates that are met from here on are those from where the call began. The measure is what is left of the extract.
use Prim.Native.Nat.{◌-◌}
use mathlib.Core.Path.{◌≡◌}
use lib.ListN.{length}
use Rattle.usn_carver.specs.Carve.{events_from}
use Rattle.usn_carver.specs.Step.{settings_by}
use Rattle.usn_carver.proofs.candidates.CandidatesIterator.next.Given as goal

abbrev pub invariant-loop-next : goal.invariant-loop-next
invariant-loop-next l = events_from (settings_by l.fn.self.limits) l.fn.self.extract.now l.fn.self.offset ≡ events_from (settings_by l.self.limits) l.self.extract.now l.self.offset

abbrev pub decreases-loop-next : goal.decreases-loop-next
decreases-loop-next l = length l.self.extract.now - l.self.offset
