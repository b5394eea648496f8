-- The most is enough; otherwise the bytes of the own name come first, and the path has what they leave.
use Prim.Native.Nat.{◌+◌, ◌-◌}
use mathlib.Core.Path.{sym, ◌∙◌}
use native.Mathlib.Omega.{arith}
use borrow.Author.Tests.{leb-true}
use lib.ListN.{length}
use Rattle.chain.specs.Way.{chain_by}
use Rattle.path_text.specs.Text.{end_text, path_text}
use Rattle.path_text.proofs.NameLaws.{Sources, place-least, step-most, step-long}
use Rattle.path.specs.Ways.{entry_text}
use Rattle.path.proofs.BoundLaws.{fits-so, fits_not, fits-less, step-enough, path-enough, entry-long}
use Rattle.path.proofs.ways.entry_fits.Goals as goal

pub returns-then-surely_fits : goal.returns-then-surely_fits
returns-then-surely_fits c = let w : Sources c.args.journal.now c.args.image.now = record { journal_long = c.requires.way_asks.near-journal; image_long = c.requires.way_asks.near-image; journal_bytes = λ i. omega (arith, c.type_inv.journal i); image_bytes = λ i. omega (arith, c.type_inv.image i) } in
    fits-so (length (entry_text c.args.journal.now c.args.image.now (chain_by c.args.slots.now c.args.way.now c.args.up) c.args.name)) c.args.room (omega (arith, leb-true (length (end_text c.args.up.end) + c.args.up.bound) (c.args.room - c.step_bound-most.result) (sym c.surely_fits.ensures ∙ c.if-surely_fits.true), c.if-most-room.true, c.step_bound-most.ensures.0, path-enough c.args.journal.now c.args.image.now w c.args.slots.now c.args.way.now c.args.up c.requires.way_asks, entry-long c.args.journal.now c.args.image.now (chain_by c.args.slots.now c.args.way.now c.args.up) c.args.name, step-enough c.args.journal.now c.args.image.now w c.args.name c.requires.name_value, step-long c.args.journal.now c.args.image.now c.args.name))

pub returns-then-room-name : goal.returns-then-room-name
returns-then-room-name c = fits_not (length (entry_text c.args.journal.now c.args.image.now (chain_by c.args.slots.now c.args.way.now c.args.up) c.args.name)) c.args.room (omega (arith, c.if-room-name.true, entry-long c.args.journal.now c.args.image.now (chain_by c.args.slots.now c.args.way.now c.args.up) c.args.name, place-least c.args.journal.now c.args.image.now c.args.name))

pub overflow_add-own : goal.overflow_add-own
overflow_add-own c = let w : Sources c.args.journal.now c.args.image.now = record { journal_long = c.requires.way_asks.near-journal; image_long = c.requires.way_asks.near-image; journal_bytes = λ i. omega (arith, c.type_inv.journal i); image_bytes = λ i. omega (arith, c.type_inv.image i) } in
    omega (arith, c.place_length-own.ensures, step-long c.args.journal.now c.args.image.now c.args.name, step-most c.args.journal.now c.args.image.now c.args.name w c.requires.name_value)

pub returns-then-room-own : goal.returns-then-room-own
returns-then-room-own c = fits_not (length (entry_text c.args.journal.now c.args.image.now (chain_by c.args.slots.now c.args.way.now c.args.up) c.args.name)) c.args.room (omega (arith, c.if-room-own.true, c.place_length-own.ensures, entry-long c.args.journal.now c.args.image.now (chain_by c.args.slots.now c.args.way.now c.args.up) c.args.name))

pub returns : goal.returns
returns c = c.bytes_fit.ensures ∙ fits-less (length (path_text c.args.journal.now c.args.image.now (chain_by c.args.slots.now c.args.way.now c.args.up))) (1 + c.place_length-own.result) c.args.room c.if-room-own.false (omega (arith, c.place_length-own.ensures, entry-long c.args.journal.now c.args.image.now (chain_by c.args.slots.now c.args.way.now c.args.up) c.args.name))
