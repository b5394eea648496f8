-- The invariant: the candidates that are met from here on are those from where the call began. The measure is what is left of the image.
use Prim.Native.Nat.{◌-◌}
use mathlib.Core.Path.{◌≡◌}
use lib.ListN.{length}
use Rattle.mft_carver.specs.Carve.{events_from}
use Rattle.mft_carver.proofs.candidates.CandidatesIterator.next.Given as goal

abbrev pub invariant-loop-next : goal.invariant-loop-next
invariant-loop-next l =
    let i = l.fn.self.image in
    let j = l.self.image in
    events_from i.settings i.bytes.now l.fn.self.offset ≡ events_from j.settings j.bytes.now l.self.offset

abbrev pub decreases-loop-next : goal.decreases-loop-next
decreases-loop-next l = length l.self.image.bytes.now - l.self.offset
