-- What the calls promise as C calls: what goes out is `Answers` or `Lists`, by the call's outcome and its words.
use Rattle.std.specs.Prelude.{ℕ, ◌≡◌, List, length}
use Rattle.base.specs.Lent.{Lent, MutLent, before, before_mut, after}
use Rattle.base.specs.Lists.{flatten, place_words}
use Rattle.base.specs.Outcome.{Outcome}
use Rattle.base.specs.Words.{after_domain, Lists, AnswerPromise, ListPromise}
use Rattle.usn_record.specs.Layout.{Layout}
use Rattle.usn_record.specs.Record.{parsed, listed, record_words}
use Rattle.usn_record.specs.declared.UsnRecord.{UsnRecord}
use Rattle.usn_carver.specs.Events.{stats_words}
use Rattle.usn_answers.specs.Window.{reader_words, window_words, reading_words, ReadingPromise}
use Rattle.usn_ffi.specs.Carver.{carve_call, carved_words}
use Rattle.usn_ffi.specs.Scan.{scan_call, scan_words}
use Rattle.usn_ffi.specs.Window.{new_call, next_call, give_call, give_buffer}

-- a record
abbrev pub RecordPromise : Outcome UsnRecord → MutLent → ℕ → Type 0
RecordPromise o words r = AnswerPromise record_words (after_domain 19 (length (before_mut words)) o) words r

-- the record that a slice begins with, and the one at an offset of an extract
abbrev pub ParsePromise : Layout → Lent → MutLent → ℕ → Type 0
ParsePromise layout slice words r = RecordPromise (parsed layout (before slice)) words r

abbrev pub ListedPromise : Lent → ℕ → MutLent → ℕ → Type 0
ListedPromise extract offset words r = RecordPromise (listed (before extract) offset) words r

-- the places of the records of an extract, and their number
abbrev pub ScanPromise : Lent → MutLent → MutLent → ℕ → Type 0
ScanPromise extract list out r = ListPromise (flatten place_words) scan_words (scan_call (before extract) (before_mut list) (before_mut out)) list out r

-- the places of the records in raw bytes, and the counters
abbrev pub CarvePromise : Lent → MutLent → MutLent → ℕ → Type 0
CarvePromise extract list out r = ListPromise (carved_words (before extract)) stats_words (carve_call (before extract) (before_mut list) (before_mut out)) list out r

-- a new window, and the next answer of one
abbrev pub NewPromise : ℕ → MutLent → ℕ → Type 0
NewPromise total reader r = AnswerPromise reader_words (new_call total (before_mut reader)) reader r

abbrev pub NextPromise : MutLent → Lent → MutLent → ℕ → Type 0
NextPromise reader buffer out r = ReadingPromise (next_call (before_mut reader) (before buffer) (before_mut out)) reader out r

-- giving bytes: what a reading leaves, and the buffer
pub record Gives (reader buffer bytes out : List ℕ) (r : ℕ) (reader' buffer' out' : List ℕ) : Type 0 where
  pub reading : Lists window_words reading_words (give_call reader buffer bytes out) reader out r reader' out'
  pub filled : buffer' ≡ give_buffer reader buffer bytes out

abbrev pub GivePromise : MutLent → MutLent → Lent → MutLent → ℕ → Type 0
GivePromise reader buffer bytes out r = Gives (before_mut reader) (before_mut buffer) (before bytes) (before_mut out) r (after reader) (after buffer) (after out)
