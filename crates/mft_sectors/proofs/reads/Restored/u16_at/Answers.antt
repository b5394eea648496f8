-- A read that meets no sector's end.
use mathlib.Core.Path.{◌∙◌}
use native.Mathlib.Omega.{arith}
use Rattle.mft_sectors.proofs.SectorLaws.{read-body}
use Rattle.mft_sectors.proofs.reads.Restored.u16_at.Goals as goal

pub returns-then-offset : goal.returns-then-offset
returns-then-offset c = c.le_u16.ensures ∙ read-body _ _ 2 _ (omega arith)
