-- Restored, an entry is as long.
use mathlib.Core.Path.{sym}
use Rattle.mft_sectors.proofs.SectorLaws.{length-restored}
use Rattle.mft_sectors.proofs.reads.Restored.len.Goals as goal

pub returns-clause-value : goal.returns-clause-value
returns-clause-value c = sym (length-restored _ _)
