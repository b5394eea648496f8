-- By the parser's answer.
use native.Mathlib.Omega.{arith}
use Rattle.additions.proofs.EntryLaws.{name-ends, entry-said}
use Rattle.additions.proofs.entries.entry_at.Goals as goal

pub name_from-requires : goal.name_from-requires
name_from-requires c = omega (arith, name-ends _ _ c.listed_record.ensures c.in-Ok.is)

pub returns : goal.returns
returns c = entry-said _ _ c.listed_record.ensures c.in-Ok.is c.name_from.ensures
