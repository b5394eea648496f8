-- A unit gives at most three bytes, so there is room at once; else the count tells.
use mathlib.Core.Path.{sym}
use native.Mathlib.Omega.{arith}
use borrow.Author.Tests.{le-leb}
use Rattle.utf16.proofs.TextLaws.{name-room}
use Rattle.utf16.proofs.name.has_room.Goals as goal

pub returns-then-size-room : goal.returns-then-size-room
returns-then-size-room c = sym (le-leb _ _ (name-room c.args.source.now (λ i. omega (arith, c.shared_slice_known-1.given i)) _ _ _ c.if-size-room.true))
