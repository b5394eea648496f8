-- Lists of calls, refused ones included, from one window and its buffer on.
use Rattle.std.specs.Prelude.{ℕ, ◌-◌, ◌≡◌, List, [], ◌∷◌, ◌++◌, length, Ok, Err}
use Rattle.base.specs.Outcome.{answered}
use Rattle.base.specs.declared.Place.{Place}
use Rattle.usn_record.specs.Bytes.{le_at}
use Rattle.usn_record.specs.Record.{listed}
use Rattle.usn_record.specs.declared.UsnRecord.{UsnRecord}
use Rattle.window_numbers.specs.Numbers.{window_size}
use Rattle.usn_window.specs.Window.{fresh}
use Rattle.usn_window.specs.Rule.{buffer_reads, named_from}
use Rattle.usn_window.specs.Journal.{to_come}
use Rattle.usn_window.specs.Calls.{next_of, give_of, buffer_after}
use Rattle.usn_window.specs.declared.UsnJournalReader.{UsnJournalReader}
use Rattle.usn_window.specs.Answers.{Answered}
use Rattle.usn_window.specs.declared.Answer.TheVariants.{Record, Wants, End}
use Rattle.usn_window.specs.declared.Reading.{Reading}

-- a call: with the window's own buffer, as the last call left it, or with another one
pub data Call : Type 0 where
  next : Call
  give : List ℕ → Call
  next_other : List ℕ → Call
  give_other : List ℕ → List ℕ → Call

-- the window and its own buffer
pub record State : Type 0 where
  pub window : UsnJournalReader
  pub buffer : List ℕ

-- a call's answer, with the window after it
unfoldable pub reading_of : Call → State → Reading
reading_of next st = next_of (buffer_reads st.buffer) (length st.buffer) st.window
reading_of (give x) st = give_of (length st.buffer) (length x) st.window
reading_of (next_other b) st = next_of (buffer_reads b) (length b) st.window
reading_of (give_other b x) st = give_of (length b) (length x) st.window

unfoldable pub buffer_of : Call → State → List ℕ
buffer_of next st = st.buffer
buffer_of (give x) st = buffer_after st.buffer x st.window
buffer_of (next_other b) st = st.buffer
buffer_of (give_other b x) st = st.buffer

abbrev pub state_after : Call → State → State
state_after c st = record { window = (reading_of c st).reader; buffer = buffer_of c st }

-- the answers of a list of calls, and the state that it reaches
abbrev pub readings : List Call → State → List Reading
readings [] st = []
readings (c ∷ cs) st = reading_of c st ∷ readings cs (state_after c st)

abbrev pub reached : List Call → State → State
reached [] st = st
reached (c ∷ cs) st = reached cs (state_after c st)

-- what two runs of a list of calls have in common: which calls they are, with buffers of which lengths, and how many bytes are given. The
-- window's own buffer has `window_size` bytes.
pub data CallShape : Type 0 where
  asks : ℕ → CallShape
  gives : ℕ → ℕ → CallShape

abbrev pub shape_of : Call → CallShape
shape_of next = asks window_size
shape_of (give x) = gives window_size (length x)
shape_of (next_other b) = asks (length b)
shape_of (give_other b x) = gives (length b) (length x)

abbrev pub shapes : List Call → List CallShape
shapes [] = []
shapes (c ∷ cs) = shape_of c ∷ shapes cs

-- the records that answers give, by their places in the stream
abbrev pub place_of : Answered → List Place
place_of (Ok (Record o n r)) = record { offset = o; length = n } ∷ []
place_of (Ok (Wants from bytes)) = []
place_of (Ok End) = []
place_of (Err r) = []

abbrev pub given_by : List Reading → List Place
given_by [] = []
given_by (x ∷ xs) = place_of x.answer ++ given_by xs

-- what is still to come from a window over the journal s
abbrev pub coming : List ℕ → UsnJournalReader → List Place
coming s w = to_come s w.position w.end

-- the record that an answer gives at o is the journal's, with its name's place counted from the start of the buffer, which is the window's
pub record RecordGiven (s : List ℕ) (o n : ℕ) (r : UsnRecord) (w : UsnJournalReader) : Type 0 where
  pub fields : UsnRecord
  pub is : listed s o ≡ answered fields
  pub name-is : r ≡ named_from (o - w.start) fields
  pub size : n ≡ le_at 4 s o

abbrev pub GivesRecord : List ℕ → Answered → UsnJournalReader → Type 0
GivesRecord s (Ok (Record o n r)) w = RecordGiven s o n r w
GivesRecord s (Ok (Wants from bytes)) w = Unit {0}
GivesRecord s (Ok End) w = Unit {0}
GivesRecord s (Err r) w = Unit {0}

-- a fresh window over a journal, with a buffer
abbrev pub fresh_over : List ℕ → List ℕ → State
fresh_over s b = record { window = fresh (length s); buffer = b }
