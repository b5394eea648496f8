-- Two halves joined; a read past the end is 0.
use native.Mathlib.Omega.{arith}
use mathlib.Core.Path.{sym}
use Rattle.usn_record.proofs.ByteLaws.{read_past, read_join}
use Rattle.usn_record.proofs.bytes.le_u64.Goals as goal

pub returns-then-n-lt8 : goal.returns-then-n-lt8
returns-then-n-lt8 c = sym (read_past 8 _ _ (omega arith))

pub returns-then-n-offset : goal.returns-then-n-offset
returns-then-n-offset c = sym (read_past 8 _ _ (omega arith))

pub returns : goal.returns
returns c = read_join 4 _ _ (omega arith) c.le_u32.ensures c.le_u32-2.ensures
