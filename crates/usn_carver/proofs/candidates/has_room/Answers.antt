-- A carved record takes 64 bytes, of which the last may lack 4, so there is room at once; else the count tells.
use mathlib.Core.Path.{sym, ap, ◌∙◌}
use native.Mathlib.Omega.{arith}
use lib.ListN.{length}
use lib.Dec.{leb}
use borrow.Author.Tests.{le-leb}
use Rattle.usn_carver.specs.Events.{records}
use Rattle.usn_carver.specs.Carve.{events_from}
use Rattle.usn_carver.specs.Step.{settings_by}
use Rattle.usn_carver.proofs.RunLaws.{room-enough, events-few, from-start, carved-counted}
use Rattle.usn_carver.proofs.candidates.has_room.Goals as goal

pub count_carved-requires : goal.count_carved-requires
count_carved-requires c = let e = c.all_candidates.ensures in let st = settings_by c.args.limits in omega (arith, ap length (from-start st c.args.extract.now (ap settings_by e.1) e.0 e.2), events-few st c.args.extract.now)

pub returns-then-extract-room : goal.returns-then-extract-room
returns-then-extract-room c = le-leb _ _ c.if-extract-room.true ∙ sym (le-leb _ _ (room-enough _ _ c.if-extract-room.true))

pub returns-else-extract-room : goal.returns-else-extract-room
returns-else-extract-room c =
    let e = c.all_candidates.ensures in
    ap (λ k. leb k c.args.room) (c.count_carved.ensures ∙ carved-counted (events_from (settings_by c.all_candidates.result.limits) c.all_candidates.result.extract.now c.all_candidates.result.offset) ∙ ap (λ es. length (records es)) (from-start (settings_by c.args.limits) c.args.extract.now (ap settings_by e.1) e.0 e.2))
