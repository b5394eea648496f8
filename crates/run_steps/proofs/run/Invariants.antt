-- The steps that are left, from where the loop stands, lead to the whole run.
use mathlib.Core.Path.{◌≡◌}
use lib.ListN.{length}
use Rattle.rewind.specs.Stepping.{state_of}
use Rattle.run_steps.proofs.RunLaws.{Going}
use Rattle.run_steps.proofs.run.Given as goal

abbrev pub invariant-loop-i : goal.invariant-loop-i
invariant-loop-i l =
    Going l.journal l.image l.records l.initial.forward (state_of l.initial.used l.initial.position) l.initial.heads l.initial.nexts l.initial.ends l.initial.text l.forward l.heads l.nexts l.ends l.text l.used l.position l.at l.i × (length l.way ≡ 258)
