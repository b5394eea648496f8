-- The invariant: the search from here is the whole search.
use Prim.Native.Nat.{◌-◌}
use lib.ListN.{length}
use Rattle.usn_window.specs.Rule.{buffer_reads}
use Rattle.usn_window.proofs.SearchLaws.{Searching}
use Rattle.usn_window.proofs.UsnJournalReader.search.Given as goal

abbrev pub invariant-loop-r : goal.invariant-loop-r
invariant-loop-r l = Searching (buffer_reads l.buffer) (length l.buffer) l.initial.w l.w

abbrev pub decreases-loop-r : goal.decreases-loop-r
decreases-loop-r l = l.w.end - l.w.position
