-- Too few words are refused first; otherwise those of the new window are stored.
use Rattle.usn_ffi.proofs.WindowLaws.{new-short, new-answers}
use Rattle.usn_ffi.proofs.usn_reader_new.Goals as goal

pub returns-then-reader-lt-READER_WORDS : goal.returns-then-reader-lt-READER_WORDS
returns-then-reader-lt-READER_WORDS c = rw c.number.ensures (new-short _ _ c.if-reader-lt-READER_WORDS.true)

pub returns : goal.returns
returns c = new-answers _ _ c.if-reader-lt-READER_WORDS.false c.new.ensures c.put_reader.ensures
