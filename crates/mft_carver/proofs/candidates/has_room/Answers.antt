-- An entry takes its size, so there is room at once; else the count tells.
use mathlib.Core.Path.{sym, ap, ◌∙◌}
use native.Mathlib.Omega.{arith}
use lib.ListN.{length}
use lib.Dec.{leb}
use borrow.Author.Tests.{le-leb}
use Rattle.mft_carver.specs.Carve.{entries, events_from}
use Rattle.mft_carver.proofs.RunLaws.{room-enough, events-below, from-start, carved-counted}
use Rattle.mft_carver.proofs.candidates.has_room.Goals as goal

pub count_carved-requires : goal.count_carved-requires
count_carved-requires c =
    let e = c.all_candidates.ensures in
    let i = c.args.image in
    omega (arith, ap length (from-start i.settings i.bytes.now i.sized e.0 e.1 e.2), events-below i.settings i.bytes.now i.sized, i.within)

pub returns-then-image-room : goal.returns-then-image-room
returns-then-image-room c = le-leb _ _ c.if-image-room.true ∙ sym (le-leb _ _ (room-enough _ _ c.args.image.sized c.if-image-room.true))

pub returns-else-image-room : goal.returns-else-image-room
returns-else-image-room c =
    let e = c.all_candidates.ensures in
    let i = c.args.image in
    let j = c.all_candidates.result in
    ap (λ k. leb k c.args.room) (c.count_carved.ensures ∙ carved-counted (events_from j.image.settings j.image.bytes.now j.offset) ∙ ap (λ es. length (entries es)) (from-start i.settings i.bytes.now i.sized e.0 e.1 e.2))
