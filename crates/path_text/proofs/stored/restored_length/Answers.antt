-- The bytes of the place have room, and its text is theirs.
use mathlib.Core.Path.{ap, sym, ◌∙◌}
use native.Mathlib.Omega.{arith}
use lib.ListN.{length}
use Rattle.path_text.proofs.ImageLaws.{entry-room, copied-long, copied-text}
use Rattle.path_text.proofs.stored.restored_length.Goals as goal

pub put_restored-requires : goal.put_restored-requires
put_restored-requires c = (omega arith, c.requires, entry-room c.args.image.now c.args.place c.requires c.entry_room-bytes.ensures)

pub name_length-requires : goal.name_length-requires
name_length-requires c = copied-long c.args.image.now c.args.place c.requires _ c.put_restored.ensures

pub returns : goal.returns
returns c = c.name_length.ensures ∙ sym (ap length (copied-text c.args.image.now c.args.place c.requires _ c.put_restored.ensures))
