-- Too few words are refused behind the domain; otherwise decoding's equations say what goes out.
use borrow.Author.Rules.{rules}
use Rattle.base.proofs.WordLaws.{out-same, out-mapped, lists-short, lists-answered}
use Rattle.volume_ffi.proofs.DomainLaws.{place-domain}
use Rattle.volume_ffi.proofs.path_decode.Goals as goal

pub returns-then-out-lt-TEXT_WORDS : goal.returns-then-out-lt-TEXT_WORDS
returns-then-out-lt-TEXT_WORDS c = lists-short _ _ 1 _ _ _ (place-domain c.args.journal.now c.args.image.now _ _) c.if-out-lt-TEXT_WORDS.true c.short_over.ensures

pub returns : goal.returns
returns c = lists-answered _ _ _ _ _ _ c.if-out-lt-TEXT_WORDS.false c.decode.ensures.written (out-mapped _ (out-same c.put_answer.ensures c.decode.ensures.answer))
