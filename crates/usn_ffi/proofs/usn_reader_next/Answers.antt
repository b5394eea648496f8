-- Too few words of a window are refused first, and too few for the answer behind its total; otherwise the window's equation says what goes out.
use Rattle.usn_answers.proofs.WindowLaws.{out-refused}
use Rattle.usn_ffi.proofs.WindowLaws.{short-reader, next-short, next-answers}
use Rattle.usn_ffi.proofs.usn_reader_next.Goals as goal

pub returns-then-reader-lt-READER_WORDS : goal.returns-then-reader-lt-READER_WORDS
returns-then-reader-lt-READER_WORDS c = rw c.number.ensures (out-refused (short-reader _ _ _ c.if-reader-lt-READER_WORDS.true))

pub returns-then-out-lt-READING_WORDS : goal.returns-then-out-lt-READING_WORDS
returns-then-out-lt-READING_WORDS c = next-short _ _ _ c.if-reader-lt-READER_WORDS.false c.reader_of-w.ensures c.if-out-lt-READING_WORDS.true c.short.ensures

pub returns : goal.returns
returns c = next-answers _ _ _ c.if-reader-lt-READER_WORDS.false c.reader_of-w.ensures c.if-out-lt-READING_WORDS.false c.next.ensures c.put_reading.ensures
