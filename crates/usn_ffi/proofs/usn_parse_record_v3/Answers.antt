-- Too few words are refused behind the domain; otherwise the parser's equation says what goes out.
use Rattle.usn_ffi.proofs.DomainLaws.{parsed-domain}
use Rattle.usn_ffi.proofs.RecordLaws.{record-short, record-answers}
use Rattle.usn_ffi.proofs.usn_parse_record_v3.Goals as goal

pub returns-then-words-lt-RECORD_WORDS : goal.returns-then-words-lt-RECORD_WORDS
returns-then-words-lt-RECORD_WORDS c = record-short _ _ (parsed-domain _ _) c.if-words-lt-RECORD_WORDS.true c.short.ensures

pub returns : goal.returns
returns c = record-answers _ _ c.if-words-lt-RECORD_WORDS.false c.parse_usn_record_v3.ensures c.put_answer.ensures
