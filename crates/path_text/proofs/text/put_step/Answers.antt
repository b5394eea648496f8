-- A backslash, and then the name.
use mathlib.Core.List.{[], ◌∷◌}
use native.Mathlib.Omega.{arith}
use Rattle.path_text.specs.Text.{place_text}
use Rattle.path_text.proofs.MarkerLaws.{second-room, both-put}
use Rattle.path_text.proofs.NameLaws.{step-parts, step-long}
use Rattle.path_text.proofs.text.put_step.Goals as goal

pub put_byte-to-requires : goal.put_byte-to-requires
put_byte-to-requires c = omega (arith, c.requires.place_in_bounds, step-long c.args.journal.now c.args.image.now c.args.place)

pub put_place-requires : goal.put_place-requires
put_place-requires c = record { place_value = c.requires.place_value; place_in_bounds = (second-room c.args.text.now c.args.at (0x5C ∷ []) (place_text c.args.journal.now c.args.image.now c.args.place) (step-parts c.args.journal.now c.args.image.now c.args.place) c.put_byte-to.ensures c.requires.place_in_bounds) }

pub returns : goal.returns
returns c =
    both-put c.args.text.now c.args.at (0x5C ∷ []) (place_text c.args.journal.now c.args.image.now c.args.place) (step-parts c.args.journal.now c.args.image.now c.args.place) c.put_byte-to.ensures c.put_place.ensures
