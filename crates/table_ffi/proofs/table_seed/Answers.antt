-- Too few words are refused first; otherwise the table's equations say what goes out.
use borrow.Author.Rules.{rules}
use Rattle.table_ffi.proofs.DomainLaws.{storing-domain}
use Rattle.table_ffi.proofs.CallLaws.{stores-short, stores-answered}
use Rattle.table_ffi.proofs.table_seed.Goals as goal

pub returns-then-out-lt-USED_WORDS : goal.returns-then-out-lt-USED_WORDS
returns-then-out-lt-USED_WORDS c = stores-short _ _ _ (storing-domain _ _ _) c.if-out-lt-USED_WORDS.true c.number.ensures

pub returns : goal.returns
returns c = stores-answered _ _ _ c.if-out-lt-USED_WORDS.false c.seed.result c.seed.ensures.answer c.seed.ensures.slots-are c.put_answer.ensures
