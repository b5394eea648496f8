-- By the end's cases.
use mathlib.Core.Path.{ap, sym}
use native.Mathlib.Omega.{arith}
use lib.ListN.{length}
use Rattle.path_text.proofs.MarkerLaws.{end-root, unknown-long, unresolved-long}
use Rattle.path_text.proofs.text.end_length.Goals as goal

pub returns-in-Root : goal.returns-in-Root
returns-in-Root c = (sym (ap length (end-root c.in-Root.is)), omega arith)

pub returns-in-Unknown : goal.returns-in-Unknown
returns-in-Unknown c = (omega (arith, c.key_length.ensures.0, unknown-long c.in-Unknown.is), omega (arith, c.key_length.ensures.1))

pub returns-in-Unresolved : goal.returns-in-Unresolved
returns-in-Unresolved c = (omega (arith, c.key_length-in-Unresolved.ensures.0, unresolved-long c.in-Unresolved.is), omega (arith, c.key_length-in-Unresolved.ensures.1))
