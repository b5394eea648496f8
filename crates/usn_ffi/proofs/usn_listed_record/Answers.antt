-- Too few words are refused first; otherwise the equation of the record says what goes out.
use Rattle.usn_ffi.proofs.DomainLaws.{listed-domain}
use Rattle.usn_ffi.proofs.RecordLaws.{record-short, record-answers}
use Rattle.usn_ffi.proofs.usn_listed_record.Goals as goal

pub returns-then-words-lt-RECORD_WORDS : goal.returns-then-words-lt-RECORD_WORDS
returns-then-words-lt-RECORD_WORDS c = record-short _ _ (listed-domain _ _) c.if-words-lt-RECORD_WORDS.true c.number.ensures

pub returns : goal.returns
returns c = record-answers _ _ c.if-words-lt-RECORD_WORDS.false c.listed_record.ensures c.put_answer.ensures
