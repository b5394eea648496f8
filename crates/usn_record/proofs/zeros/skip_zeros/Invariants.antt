-- The invariant: zero words alone lie between o and p. The measure is what is left of the data.
use Prim.Native.Nat.{◌-◌}
use lib.ListN.{length}
use Rattle.usn_record.specs.Zeros.{PastZeros}
use Rattle.usn_record.proofs.zeros.skip_zeros.Given as goal

abbrev pub invariant-loop-p : goal.invariant-loop-p
invariant-loop-p l = PastZeros l.data l.o l.p

abbrev pub decreases-loop-p : goal.decreases-loop-p
decreases-loop-p l = length l.data - l.p
