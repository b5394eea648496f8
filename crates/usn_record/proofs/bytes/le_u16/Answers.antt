-- Two halves joined; a read past the end is 0.
use native.Mathlib.Omega.{arith}
use mathlib.Core.Path.{sym, ◌∙◌}
use Rattle.usn_record.proofs.ByteLaws.{read_past, read_join, read_byte}
use Rattle.usn_record.proofs.bytes.le_u16.Goals as goal

pub returns-then-n-lt2 : goal.returns-then-n-lt2
returns-then-n-lt2 c = sym (read_past 2 _ _ (omega arith))

pub returns-then-n-offset : goal.returns-then-n-offset
returns-then-n-offset c = sym (read_past 2 _ _ (omega arith))

pub returns : goal.returns
returns c = read_join 1 _ _ (omega arith) (c.wide.ensures.0 ∙ read_byte _ _ (omega arith)) (c.wide-2.ensures.0 ∙ read_byte _ _ (omega arith))
