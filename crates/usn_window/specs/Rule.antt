-- What the window does at its position, by the numbers and by what is read there.
use Rattle.std.specs.Prelude.{ℕ, zero, suc, ◌+◌, ◌-◌, ◌%◌, ◌≤◌, ◌≡◌, List, cond, ◌||◌, ltb, eqb, Ok}
use Rattle.base.specs.Outcome.{Outcome, refused, answered}
use Rattle.base.specs.Places.{place_from}
use Rattle.usn_record.specs.Bytes.{le_at}
use Rattle.usn_record.specs.Record.{listed}
use Rattle.usn_record.specs.declared.UsnRecord.{UsnRecord}
use Rattle.window_numbers.specs.Numbers.{window_size}
use Rattle.usn_window.specs.Window.{wanted_of, refilled, skipped, advanced, moved_by, finished}
use Rattle.usn_window.specs.declared.UsnJournalReader.{UsnJournalReader}
use Rattle.usn_window.specs.Answers.{Answered}
use Rattle.usn_window.specs.declared.Answer.TheVariants.{Record, Wants, End}
use Rattle.usn_window.specs.declared.Reading.{Reading}
use Rattle.usn_window.specs.declared.turn.Turn.{Turn}
use Rattle.usn_window.specs.declared.turn.Turn.TheVariants.{Done, Again}

-- what is read at a window's position: the length field, and the record that stands there
pub record Reads : Type 0 where
  pub length_at : UsnJournalReader → ℕ
  pub record_at : UsnJournalReader → Outcome UsnRecord

-- of a buffer, which begins at the window's start, and of a journal
abbrev pub buffer_reads : List ℕ → Reads
buffer_reads b = record { length_at = λ w. le_at 4 b (w.position - w.start); record_at = λ w. listed b (w.position - w.start) }

abbrev pub journal_reads : List ℕ → Reads
journal_reads s = record { length_at = λ w. le_at 4 s w.position; record_at = λ w. listed s w.position }

-- a record whose name's place counts from o bytes before it
unfoldable pub named_from : ℕ → UsnRecord → UsnRecord
named_from o r =
    record {
      mft_entry = r.mft_entry;
      mft_sequence = r.mft_sequence;
      parent_mft_entry = r.parent_mft_entry;
      parent_mft_sequence = r.parent_mft_sequence;
      usn = r.usn;
      timestamp = r.timestamp;
      reason = r.reason;
      filename = place_from o r.filename;
      file_attributes = r.file_attributes;
      source_info = r.source_info;
      security_id = r.security_id;
      major_version = r.major_version;
      minor_version = r.minor_version;
      record_length = r.record_length;
      filetime = r.filetime;
      file_reference_high = r.file_reference_high;
      parent_reference_high = r.parent_reference_high;
    }

abbrev pub reading : Answered → UsnJournalReader → Reading
reading a w = record { answer = a; reader = w }

-- the answer that wants the window's next bytes
abbrev pub asking : UsnJournalReader → Reading
asking w = reading (Ok (Wants (w.start + w.held) (wanted_of w))) w

-- the end, where the window's end is the stream's; otherwise w' is asked for
abbrev pub or_end : UsnJournalReader → UsnJournalReader → Turn
or_end w w' = cond (eqb w.end w.total) (Done (reading (Ok End) (finished w))) (Done (asking w'))

-- a record of n bytes passes the window's end: refill, and where it passes the stream's end too, move on 8
abbrev pub past_end : UsnJournalReader → ℕ → Turn
past_end w n = or_end w (cond (ltb w.total (w.position + n)) (skipped (refilled w)) (refilled w))

-- a record of n bytes lies inside: it is given where its parser accepts it
abbrev pub given : UsnJournalReader → ℕ → Outcome UsnRecord → Turn
given w n (refused m) = Again (advanced w n)
given w n (answered r) = Done (reading (Ok (Record w.position n (named_from (w.position - w.start) r))) (advanced w n))

-- by the length field n; a zero word has length 0
unfoldable pub turn_by_length : UsnJournalReader → ℕ → Outcome UsnRecord → Turn
turn_by_length w n x =
    cond (ltb n 8 || ltb window_size n) (Again (skipped w))
    (cond (ltb w.end (w.position + n)) (past_end w n)
    (given w n x))

-- one turn of a window that has all its bytes
unfoldable pub turn_of : Reads → UsnJournalReader → Turn
turn_of r w = cond (ltb w.end (w.position + 8)) (or_end w (refilled w)) (turn_by_length w (r.length_at w) (r.record_at w))

abbrev pub onward : {A : Type 0} → (Reading → A) → (UsnJournalReader → A) → Turn → A
onward stop go (Done x) = stop x
onward stop go (Again w) = go w

-- the answer of at most k turns
unfoldable pub turns : Reads → ℕ → UsnJournalReader → Reading
turns r zero w = reading (Ok End) w
turns r (suc k) w = onward (λ x. x) (turns r k) (turn_of r w)

-- the answer of all turns: each that goes on moves the position, and one at the end does not go on
unfoldable pub searched : Reads → UsnJournalReader → Reading
searched r w = turns r (suc (w.end - w.position)) w

-- the search from a window that is further on, with nothing else changed, is the search from w
pub record Passes (b : List ℕ) (w v : UsnJournalReader) : Type 0 where
  pub by : ℕ
  pub is : v ≡ moved_by w by
  pub upto : v.position ≤ w.end + 7
  pub whole : by % 8 ≡ 0
  pub same : searched (buffer_reads b) v ≡ searched (buffer_reads b) w
