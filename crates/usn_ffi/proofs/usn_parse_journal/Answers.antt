-- Too few words are refused behind the domain; otherwise the scan's equations say what goes out.
use Rattle.base.proofs.WordLaws.{lists-short, lists-answered}
use Rattle.usn_ffi.proofs.DomainLaws.{scan-domain}
use Rattle.usn_ffi.proofs.JournalLaws.{journal-out}
use Rattle.usn_ffi.proofs.usn_parse_journal.Goals as goal

pub returns-then-out-lt-COUNT_WORDS : goal.returns-then-out-lt-COUNT_WORDS
returns-then-out-lt-COUNT_WORDS c = lists-short _ _ 1 _ _ _ (scan-domain _ _) c.if-out-lt-COUNT_WORDS.true c.short.ensures

pub returns : goal.returns
returns c = lists-answered _ _ _ _ _ _ c.if-out-lt-COUNT_WORDS.false c.parse_usn_journal.ensures.places (journal-out _ _ c.parse_usn_journal.ensures.answer c.put_answer.ensures)
