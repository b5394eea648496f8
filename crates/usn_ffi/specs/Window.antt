-- The calls on a window over a journal as C calls.
use Rattle.std.specs.Prelude.{ℕ, List, length}
use Rattle.base.specs.Outcome.{Outcome, answered}
use Rattle.base.specs.Words.{with_room, after_domain, unless_refused}
use Rattle.usn_window.specs.Window.{fresh}
use Rattle.usn_window.specs.Rule.{buffer_reads}
use Rattle.usn_window.specs.Calls.{next_of, give_of, buffer_after}
use Rattle.usn_window.specs.declared.UsnJournalReader.{UsnJournalReader}
use Rattle.usn_window.specs.declared.Reading.{Reading}
use Rattle.usn_answers.specs.Window.{reader_of, reading_outcome}

-- a new window over a stream of so many bytes, with a lent list l for its words
abbrev pub new_call : ℕ → List ℕ → Outcome UsnJournalReader
new_call total l = with_room 6 (length l) (answered (fresh total))

-- a call on a window reads the words of a window, and writes those of its answer, of which the longest is a record's
unfoldable pub on_window : List ℕ → List ℕ → Reading → Outcome Reading
on_window l out x = with_room 6 (length l) (after_domain 22 (length out) (reading_outcome x))

-- the next answer of the window that l is, with the buffer b
abbrev pub next_call : List ℕ → List ℕ → List ℕ → Outcome Reading
next_call l b out = on_window l out (next_of (buffer_reads b) (length b) (reader_of l))

-- giving it the bytes x, and what the buffer holds after that
abbrev pub give_call : List ℕ → List ℕ → List ℕ → List ℕ → Outcome Reading
give_call l b x out = on_window l out (give_of (length b) (length x) (reader_of l))

abbrev pub give_buffer : List ℕ → List ℕ → List ℕ → List ℕ → List ℕ
give_buffer l b x out = unless_refused (give_call l b x out) b (buffer_after b x (reader_of l))
