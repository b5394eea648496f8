-- A read past the end, and one inside.
use mathlib.Core.Path.{sym}
use native.Mathlib.Omega.{arith}
use Rattle.usn_record.proofs.ByteLaws.{read_byte, read_past}
use Rattle.usn_record.proofs.bytes.byte_at.Goals as goal

pub returns-then-data-offset : goal.returns-then-data-offset
returns-then-data-offset c = sym (read_past 1 _ _ (omega arith))

pub returns : goal.returns
returns c = read_byte _ _ (omega arith)
