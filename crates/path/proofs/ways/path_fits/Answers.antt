-- The most is enough.
use Prim.Native.Nat.{◌+◌}
use mathlib.Core.Path.{sym, ◌∙◌}
use native.Mathlib.Omega.{arith}
use borrow.Author.Tests.{leb-true}
use lib.ListN.{length}
use Rattle.chain.specs.Way.{chain_by}
use Rattle.path_text.specs.Text.{end_text, path_text}
use Rattle.path_text.proofs.NameLaws.{Sources}
use Rattle.path.proofs.BoundLaws.{fits-so, path-enough}
use Rattle.path.proofs.ways.path_fits.Goals as goal

pub returns-then-surely_fits : goal.returns-then-surely_fits
returns-then-surely_fits c = let w : Sources c.args.journal.now c.args.image.now = record { journal_long = c.requires.near-journal; image_long = c.requires.near-image; journal_bytes = λ i. omega (arith, c.type_inv.journal i); image_bytes = λ i. omega (arith, c.type_inv.image i) } in
    fits-so (length (path_text c.args.journal.now c.args.image.now (chain_by c.args.slots.now c.args.way.now c.args.up))) c.args.room (omega (arith, leb-true (length (end_text c.args.up.end) + c.args.up.bound) c.args.room (sym c.surely_fits.ensures ∙ c.if-surely_fits.true), path-enough c.args.journal.now c.args.image.now w c.args.slots.now c.args.way.now c.args.up c.requires))
