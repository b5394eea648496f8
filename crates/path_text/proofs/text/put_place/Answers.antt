-- By the source.
use native.Mathlib.Omega.{arith}
use mathlib.Core.Path.{ap}
use lib.ListN.{length}
use Rattle.utf16.proofs.PutLaws.{put_as}
use Rattle.path_text.proofs.NameLaws.{journal-text, journal-inside, image-text, image-inside}
use Rattle.path_text.proofs.text.put_place.Goals as goal

pub put_name-requires : goal.put_name-requires
put_name-requires c = record { size_in_bounds = journal-inside c.args.journal.now c.args.image.now c.args.place c.if-place-eq-JOURNAL.true c.requires.place_value; size_in_bounds_2 = (omega (arith, c.requires.place_in_bounds, ap length (journal-text c.args.journal.now c.args.image.now c.args.place c.if-place-eq-JOURNAL.true))) }

pub returns-then-place-eq-JOURNAL : goal.returns-then-place-eq-JOURNAL
returns-then-place-eq-JOURNAL c = put_as c.args.text.now c.args.at (journal-text c.args.journal.now c.args.image.now c.args.place c.if-place-eq-JOURNAL.true) c.put_name.ensures

pub put_image-requires : goal.put_image-requires
put_image-requires c = record { size_in_bounds = image-inside c.args.journal.now c.args.image.now c.args.place c.if-place-eq-JOURNAL.false c.requires.place_value; size_in_bounds_2 = (omega (arith, c.requires.place_in_bounds, ap length (image-text c.args.journal.now c.args.image.now c.args.place c.if-place-eq-JOURNAL.false))) }

pub returns : goal.returns
returns c = put_as c.args.text.now c.args.at (image-text c.args.journal.now c.args.image.now c.args.place c.if-place-eq-JOURNAL.false) c.put_image.ensures
