-- A read that meets no sector's end.
use mathlib.Core.Path.{◌∙◌}
use native.Mathlib.Omega.{arith}
use Rattle.mft_sectors.proofs.SectorLaws.{read-body}
use Rattle.mft_sectors.proofs.reads.Restored.u32_at.Goals as goal

pub returns-then-offset : goal.returns-then-offset
returns-then-offset c = c.le_u32.ensures ∙ read-body _ _ 4 _ (omega arith)
