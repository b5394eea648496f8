-- Too few words are refused first; otherwise seeding's equations say what goes out.
use borrow.Author.Rules.{rules}
use Rattle.table_ffi.proofs.DomainLaws.{storing-domain}
use Rattle.table_ffi.proofs.CallLaws.{seeds-short, seeds-answered}
use Rattle.table_ffi.proofs.table_seed_indexed.Goals as goal

pub returns-then-out-lt-USED_WORDS : goal.returns-then-out-lt-USED_WORDS
returns-then-out-lt-USED_WORDS c = seeds-short _ _ _ _ _ (storing-domain _ _ _) c.if-out-lt-USED_WORDS.true c.number.ensures

pub returns : goal.returns
returns c = seeds-answered _ _ _ _ _ c.if-out-lt-USED_WORDS.false c.seed_indexed.ensures c.put_answer.ensures
