-- The part has all of its eight bytes.
use native.Mathlib.Omega.{arith}
use Rattle.utf16.proofs.AsciiLaws.{eight-part}
use Rattle.utf16.proofs.ascii.four_at.Goals as goal

pub returns : goal.returns
returns c = eight-part _ _ (omega arith) c.le_u64.ensures
