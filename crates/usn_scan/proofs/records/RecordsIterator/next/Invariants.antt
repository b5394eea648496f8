-- The invariant: the records that are met from here on are those from where the call began. The measure is what is left of the extract.
use Prim.Native.Nat.{◌-◌}
use mathlib.Core.Path.{◌≡◌}
use lib.ListN.{length}
use Rattle.usn_scan.specs.Scan.{events_from, record_places}
use Rattle.usn_scan.proofs.records.RecordsIterator.next.Given as goal

abbrev pub invariant-loop-next : goal.invariant-loop-next
invariant-loop-next l = record_places (events_from l.fn.self.extract.bytes.now l.fn.self.offset) ≡ record_places (events_from l.self.extract.bytes.now l.self.offset)

abbrev pub decreases-loop-next : goal.decreases-loop-next
decreases-loop-next l = length l.self.extract.bytes.now - l.self.offset
