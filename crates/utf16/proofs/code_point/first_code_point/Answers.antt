-- Each way out by the units read.
use mathlib.Core.Path.{sym, ◌∙◌}
use native.Mathlib.Omega.{arith}
use Rattle.utf16.proofs.FirstLaws.{first-last, first_alone, first-pair}
use Rattle.utf16.proofs.code_point.first_code_point.Goals as goal

pub returns-then-n-lt2 : goal.returns-then-n-lt2
returns-then-n-lt2 c = first-last _ _ _ c.le_u16-u.ensures (omega arith) c.if-n-lt2.true (omega arith) c.unpaired.ensures

pub returns-then-is_pair : goal.returns-then-is_pair
returns-then-is_pair c = first-pair _ _ _ c.le_u16-u.ensures c.if-n-lt2.false c.le_u16-v.ensures (sym c.is_pair.ensures ∙ c.if-is_pair.true)

pub returns : goal.returns
returns c = first_alone _ _ _ c.le_u16-u.ensures c.if-n-lt2.false c.le_u16-v.ensures (omega arith) (sym c.is_pair.ensures ∙ c.if-is_pair.false) c.unpaired-2.ensures
