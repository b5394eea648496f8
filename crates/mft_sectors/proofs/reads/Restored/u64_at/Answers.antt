-- A read that meets no sector's end.
use mathlib.Core.Path.{◌∙◌}
use native.Mathlib.Omega.{arith}
use Rattle.mft_sectors.proofs.SectorLaws.{read-body}
use Rattle.mft_sectors.proofs.reads.Restored.u64_at.Goals as goal

pub returns-then-offset : goal.returns-then-offset
returns-then-offset c = c.le_u64.ensures ∙ read-body _ _ 8 _ (omega arith)
