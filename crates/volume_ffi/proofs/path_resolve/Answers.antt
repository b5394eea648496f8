-- Too few words are refused behind the domain; otherwise the path's equations say what goes out.
use borrow.Author.Rules.{rules}
use Rattle.base.proofs.WordLaws.{out-same, out-mapped}
use Rattle.volume_ffi.proofs.DomainLaws.{traced-text-domain}
use Rattle.volume_ffi.proofs.CallLaws.{tells-short, tells-answered}
use Rattle.volume_ffi.proofs.path_resolve.Goals as goal

pub returns-then-out-lt-PATH_WORDS : goal.returns-then-out-lt-PATH_WORDS
returns-then-out-lt-PATH_WORDS c = tells-short _ _ _ _ _ _ _ (traced-text-domain c.args.journal.now c.args.image.now _ _ _ _) c.if-out-lt-PATH_WORDS.true c.short_over.ensures

pub returns : goal.returns
returns c = tells-answered _ _ _ _ _ _ _ c.if-out-lt-PATH_WORDS.false c.path.ensures.places c.path.ensures.written (out-mapped _ (out-same c.put_answer.ensures c.path.ensures.answer))
