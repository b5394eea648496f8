-- Each way out by the tests that led to it.
use native.Mathlib.Omega.{arith}
use Rattle.path_text.proofs.ImageLaws.{not-met, by-entry}
use Rattle.path_text.proofs.stored.is_restored.Goals as goal

pub returns-then-place-le-BODY : goal.returns-then-place-le-BODY
returns-then-place-le-BODY c = not-met c.args.image.now c.args.place c.requires (omega (arith, c.if-place-le-BODY.true))

pub returns : goal.returns
returns c = by-entry c.args.image.now c.args.place c.requires c.in_entry.ensures
