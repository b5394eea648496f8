-- The invariant: the items copied so far, with what is still to be copied, are all of them.
use Rattle.base.proofs.ListLaws.{Copying}
use Rattle.base.proofs.put.Given as goal

abbrev pub invariant-loop-k : goal.invariant-loop-k
invariant-loop-k g l = Copying l.items l.initial.list l.list l.i l.k
