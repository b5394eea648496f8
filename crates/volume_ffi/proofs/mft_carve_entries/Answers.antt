-- Too few words are refused behind the domain; otherwise carving's equations say what goes out.
use borrow.Author.Rules.{rules}
use Rattle.base.proofs.WordLaws.{out-same, lists-short, lists-answered}
use Rattle.volume_ffi.proofs.DomainLaws.{carving-domain}
use Rattle.volume_ffi.proofs.mft_carve_entries.Goals as goal

pub returns-then-out-lt-STATS_WORDS : goal.returns-then-out-lt-STATS_WORDS
returns-then-out-lt-STATS_WORDS c = lists-short _ _ 4 _ _ _ (carving-domain _ _ _) c.if-out-lt-STATS_WORDS.true c.short.ensures

pub returns : goal.returns
returns c = lists-answered _ _ _ _ _ _ c.if-out-lt-STATS_WORDS.false c.carve_mft_entries.ensures.list-is (out-same c.put_answer.ensures c.carve_mft_entries.ensures.answer)
