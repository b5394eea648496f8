-- A byte of the body is at home where it stands.
use mathlib.Core.Path.{◌∙◌}
use native.Mathlib.Omega.{arith}
use Rattle.mft_sectors.proofs.SectorLaws.{read-body}
use Rattle.mft_sectors.proofs.reads.Restored.byte.Goals as goal

pub returns-then-offset-lt-BODY : goal.returns-then-offset-lt-BODY
returns-then-offset-lt-BODY c = c.byte_at.ensures ∙ read-body _ _ 1 _ (omega arith)
