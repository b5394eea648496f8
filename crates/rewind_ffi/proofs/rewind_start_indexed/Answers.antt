-- Too few words are refused behind the domain; otherwise the start's equations say what goes out.
use borrow.Author.Rules.{rules}
use Rattle.base.proofs.WordLaws.{out-same, out-mapped}
use Rattle.rewind_ffi.proofs.CallLaws.{starts-indexed-short, starts-indexed-answered}
use Rattle.rewind_ffi.proofs.DomainLaws.{start-domain}
use Rattle.rewind_ffi.proofs.rewind_start_indexed.Goals as goal

pub returns-then-out-lt-START_WORDS : goal.returns-then-out-lt-START_WORDS
returns-then-out-lt-START_WORDS c = let a = c.args in starts-indexed-short _ _ _ _ _ _ (start-domain a.journal.now a.image.now a.records.now a.slots.now a.used a.forward.now) c.if-out-lt-START_WORDS.true c.short_over.ensures

pub returns : goal.returns
returns c = starts-indexed-answered _ _ _ _ _ _ c.if-out-lt-START_WORDS.false c.rewind_start_indexed.ensures.start.first c.rewind_start_indexed.ensures.start.forward c.rewind_start_indexed.ensures.heads-are c.rewind_start_indexed.ensures.nexts-are (out-mapped _ (out-same c.put_answer.ensures c.rewind_start_indexed.ensures.start.answer))
