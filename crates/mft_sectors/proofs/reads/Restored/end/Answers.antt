-- The end of a sector is in the array.
use mathlib.Core.Path.{sym, ◌∙◌}
use native.Mathlib.Omega.{arith}
use Rattle.usn_record.proofs.ByteLaws.{read_past}
use Rattle.mft_sectors.proofs.SectorLaws.{length-restored, read-home, home-end}
use Rattle.mft_sectors.proofs.reads.Restored.end.Goals as goal

pub returns-then-self-offset : goal.returns-then-self-offset
returns-then-self-offset c = sym (read_past 1 _ _ (rw length-restored (omega arith)))

pub returns : goal.returns
returns c = c.byte_at.ensures ∙ read-home _ _ _ c.if-self-offset.false (sym (home-end c.args.self.array _ c.requires))
