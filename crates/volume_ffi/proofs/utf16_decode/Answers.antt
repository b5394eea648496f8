-- Too few words are refused behind the domain; otherwise decoding's equations say what goes out.
use borrow.Author.Rules.{rules}
use Rattle.base.proofs.WordLaws.{out-same, lists-short, lists-answered}
use Rattle.volume_ffi.proofs.DomainLaws.{name-domain}
use Rattle.volume_ffi.proofs.utf16_decode.Goals as goal

pub returns-then-out-lt-TEXT_WORDS : goal.returns-then-out-lt-TEXT_WORDS
returns-then-out-lt-TEXT_WORDS c = lists-short _ _ 1 _ _ _ (name-domain _ _) c.if-out-lt-TEXT_WORDS.true c.short.ensures

pub returns : goal.returns
returns c = lists-answered _ _ _ _ _ _ c.if-out-lt-TEXT_WORDS.false c.decode_utf16.ensures.written (out-same c.put_answer.ensures c.decode_utf16.ensures.answer)
