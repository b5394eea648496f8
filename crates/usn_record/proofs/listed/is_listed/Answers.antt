-- Each way out is one of `listed`; where a parser would be asked, whether the length fits says what it answers.
use mathlib.Core.Path.{refl, ap}
use native.Mathlib.Omega.{arith}
use Rattle.usn_record.specs.Layout.{v2, v3}
use Rattle.usn_record.specs.Record.{is_answered}
use Rattle.usn_record.proofs.RecordLaws.{v2-inside, v3-inside, listed-no-header, listed-past-end, listed-v2, listed-v3, listed-other}
use Rattle.usn_record.proofs.TestLaws.{fits-tested}
use Rattle.usn_record.proofs.listed.is_listed.Goals as goal

pub returns-then-size-lt8 : goal.returns-then-size-lt8
returns-then-size-lt8 c = ap is_answered (listed-no-header _ _ (omega arith))

pub returns-then-size-offset : goal.returns-then-size-offset
returns-then-size-offset c = ap is_answered (listed-no-header _ _ (omega arith))

pub returns-then-size-offset-2 : goal.returns-then-size-offset-2
returns-then-size-offset-2 c = ap is_answered (listed-past-end _ _ (omega arith) c.le_u32-length.ensures (omega arith))

pub returns-in-2 : goal.returns-in-2
returns-in-2 c = fits-tested v2 v2-inside _ _ c.le_u32-length.ensures (omega arith) c.fits_record.ensures (listed-v2 _ _ (omega arith) c.le_u32-length.ensures (omega arith) c.le_u16-version.ensures refl c.in-2.is refl)

pub returns-in-3 : goal.returns-in-3
returns-in-3 c = fits-tested v3 v3-inside _ _ c.le_u32-length.ensures (omega arith) c.fits_record-in-3.ensures (listed-v3 _ _ (omega arith) c.le_u32-length.ensures (omega arith) c.le_u16-version.ensures refl c.in-3.is refl)

pub returns-in_default : goal.returns-in_default
returns-in_default c = ap is_answered (listed-other _ _ (omega arith) c.le_u32-length.ensures (omega arith) c.le_u16-version.ensures (λ e. omega arith) (λ e. omega arith))
