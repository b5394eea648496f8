-- The window over a journal as words, and what a reading of it says.
use Rattle.std.specs.Prelude.{ℕ, List, [], ◌∷◌, cond, not, get_or, eqb, Ok, Err}
use Rattle.base.specs.Lent.{MutLent}
use Rattle.base.specs.Outcome.{Outcome, refused, answered}
use Rattle.base.specs.Refusals.{number_of}
use Rattle.base.specs.Words.{ListPromise}
use Rattle.usn_record.specs.Record.{record_words}
use Rattle.usn_window.specs.declared.UsnJournalReader.{UsnJournalReader}
use Rattle.usn_window.specs.Answers.{Answered}
use Rattle.usn_window.specs.declared.Answer.{Answer}
use Rattle.usn_window.specs.declared.Answer.TheVariants.{Record, Wants, End}
use Rattle.usn_window.specs.declared.Reading.{Reading}

-- a window's numbers as six words; whether it has ended is 1 or 0
unfoldable pub reader_words : UsnJournalReader → List ℕ
reader_words w = w.start ∷ w.position ∷ w.end ∷ w.held ∷ w.total ∷ cond w.ended 1 0 ∷ []

-- the window whose numbers are the first six words; it has ended where the last is not 0
abbrev pub reader_of : List ℕ → UsnJournalReader
reader_of l =
    record {
      start = get_or l 0 0;
      position = get_or l 1 0;
      end = get_or l 2 0;
      held = get_or l 3 0;
      total = get_or l 4 0;
      ended = not (eqb (get_or l 5 0) 0);
    }

-- an answer as words, its kind first: 0 the end, 1 the bytes that are wanted, 2 a record, its place and its words
abbrev pub given_words : Answer → List ℕ
given_words End = 0 ∷ 0 ∷ 0 ∷ []
given_words (Wants from bytes) = 1 ∷ from ∷ bytes ∷ []
given_words (Record offset n r) = 2 ∷ offset ∷ n ∷ record_words r

-- a refusal has none
abbrev pub answer_words : Answered → List ℕ
answer_words (Ok a) = given_words a
answer_words (Err r) = []

-- the words that a call leaves of a reading: the window's, and the answer's
abbrev pub window_words : Reading → List ℕ
window_words x = reader_words x.reader

abbrev pub reading_words : Reading → List ℕ
reading_words x = answer_words x.answer

-- what a reading says: its refusal, or itself
abbrev pub outcome_by : Answered → Reading → Outcome Reading
outcome_by (Err r) x = refused (number_of r)
outcome_by (Ok a) x = answered x

abbrev pub reading_outcome : Reading → Outcome Reading
reading_outcome x = outcome_by x.answer x

-- what a reading leaves: its list is the words of the window
abbrev pub ReadingPromise : Outcome Reading → MutLent → MutLent → ℕ → Type 0
ReadingPromise o reader out r = ListPromise window_words reading_words o reader out r
