-- What is left from where the loop stands leaves what all parts leave, and is the rest of their text.
use Rattle.std.proofs.Common.{◌+◌, ◌-◌, ◌*◌, take}
use Rattle.usnlist.proofs.PartsLaws.{Going, Written}
use Rattle.usnlist.proofs.write_parts.Given as goal

abbrev pub invariant-loop-number : goal.invariant-loop-number
invariant-loop-number g l =
    record {
      going : Going l.journal (take (2 * l.count) l.list) l.initial.forward l.initial.rewind l.count l.forward l.rewind l.number;
      written : Written l.journal (take (2 * l.count) l.list) l.initial.forward l.initial.rewind l.count (g.W.Write.contents l.initial.out) (g.W.Write.contents l.out) l.forward l.rewind l.number;
    }

abbrev pub decreases-loop-number : goal.decreases-loop-number
decreases-loop-number g l = l.count + 2 - l.number
