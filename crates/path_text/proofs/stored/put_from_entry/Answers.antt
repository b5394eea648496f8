-- The bytes of the place have room, and its text is theirs.
use mathlib.Core.Path.{ap}
use native.Mathlib.Omega.{arith}
use lib.ListN.{length}
use Rattle.utf16.proofs.PutLaws.{put_as}
use Rattle.path_text.proofs.ImageLaws.{entry-room, copied-long, copied-text}
use Rattle.path_text.proofs.stored.put_from_entry.Goals as goal

pub put_restored-requires : goal.put_restored-requires
put_restored-requires c = (omega arith, c.requires.place_value, entry-room c.args.image.now c.args.place c.requires.place_value c.entry_room-bytes.ensures)

pub put_name-requires : goal.put_name-requires
put_name-requires c = record { size_in_bounds = copied-long c.args.image.now c.args.place c.requires.place_value _ c.put_restored.ensures; size_in_bounds_2 = omega (arith, c.requires.length_in_bounds, ap length (copied-text c.args.image.now c.args.place c.requires.place_value _ c.put_restored.ensures)) }

pub returns : goal.returns
returns c = put_as c.args.text.now c.args.at (copied-text c.args.image.now c.args.place c.requires.place_value _ c.put_restored.ensures) c.put_name.ensures
