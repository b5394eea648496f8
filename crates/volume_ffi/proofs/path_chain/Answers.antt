-- Too few words are refused behind the domain; otherwise the chain's equations say what goes out.
use borrow.Author.Rules.{rules}
use Rattle.base.proofs.WordLaws.{out-same, out-mapped}
use Rattle.volume_ffi.proofs.DomainLaws.{tracing-domain}
use Rattle.volume_ffi.proofs.CallLaws.{traces-short, traces-answered}
use Rattle.volume_ffi.proofs.path_chain.Goals as goal

pub returns-then-out-lt-CHAIN_WORDS : goal.returns-then-out-lt-CHAIN_WORDS
returns-then-out-lt-CHAIN_WORDS c = traces-short _ _ _ _ _ (tracing-domain c.args.journal.now c.args.image.now _ _ _) c.if-out-lt-CHAIN_WORDS.true c.short_over.ensures

pub returns : goal.returns
returns c = traces-answered _ _ _ _ _ c.if-out-lt-CHAIN_WORDS.false c.path_chain.ensures.places (out-mapped _ (out-same c.put_answer.ensures c.path_chain.ensures.answer))
