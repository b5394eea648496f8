-- What giving bytes promises. The record says it of lists: what the lent slices hold before, and, with ', after. The promise itself takes the call's parameters.
use Rattle.std.specs.Prelude.{ℕ, ◌≡◌, List, length}
use Rattle.base.specs.Lent.{Lent, MutLent, before, before_mut, after}
use Rattle.usn_window.specs.Calls.{give_of, buffer_after}
use Rattle.usn_window.specs.declared.Reading.{Reading}
use Rattle.usn_window.specs.declared.UsnJournalReader.{UsnJournalReader}

-- giving: its answer with the window after it, and the buffer
pub record Gives (w : UsnJournalReader) (buffer bytes : List ℕ) (r : Reading) (buffer' : List ℕ) : Type 0 where
  pub answer : r ≡ give_of (length buffer) (length bytes) w
  pub filled : buffer' ≡ buffer_after buffer bytes w

abbrev pub GivePromise : UsnJournalReader → MutLent → Lent → Reading → Type 0
GivePromise w buffer bytes r = Gives w (before_mut buffer) (before bytes) r (after buffer)
