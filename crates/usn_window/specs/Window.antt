-- The window: whether its numbers may be a window's, what it wants, and its moves.
use Rattle.std.specs.Prelude.{ℕ, ◌+◌, ◌-◌, ◌%◌, ◌≤◌, ◌≡◌, true, false, cond}
use Rattle.base.specs.Places.{round8}
use Rattle.window_numbers.specs.Numbers.{window_size, stream_domain, window_end, Numbers, numbers_of, numbers_refusal}
use Rattle.usn_window.specs.declared.UsnJournalReader.{UsnJournalReader}

-- those that decide whether a call is refused
abbrev pub numbers_in : UsnJournalReader → Numbers
numbers_in w = numbers_of w.start w.position w.end w.held w.total

-- the refusal of a call with a buffer of n bytes, or 0
abbrev pub window_refusal : UsnJournalReader → ℕ → ℕ
window_refusal w n = numbers_refusal (numbers_in w) n

-- the bytes that the window still wants; none after an end
unfoldable pub wanted_of : UsnJournalReader → ℕ
wanted_of w = cond w.ended 0 (w.end - w.start - w.held)

-- before the first refill
abbrev pub fresh : ℕ → UsnJournalReader
fresh total = record { start = 0; position = 0; end = 0; held = 0; total = total; ended = false }

-- a window that starts at the position, with no bytes yet
abbrev pub refilled : UsnJournalReader → UsnJournalReader
refilled w =
    record {
      start = w.position;
      position = w.position;
      end = window_end w.position w.total;
      held = 0;
      total = w.total;
      ended = w.ended;
    }

-- the position n further on
abbrev pub moved_by : UsnJournalReader → ℕ → UsnJournalReader
moved_by w n = record { start = w.start; position = w.position + n; end = w.end; held = w.held; total = w.total; ended = w.ended }

-- past 8 bytes that begin no record, and past a record of n bytes
abbrev pub skipped : UsnJournalReader → UsnJournalReader
skipped w = moved_by w 8

abbrev pub advanced : UsnJournalReader → ℕ → UsnJournalReader
advanced w n = moved_by w (round8 n)

-- with k bytes more in the buffer
abbrev pub fed_by : UsnJournalReader → ℕ → UsnJournalReader
fed_by w k = record { start = w.start; position = w.position; end = w.end; held = w.held + k; total = w.total; ended = w.ended }

-- at its end
abbrev pub finished : UsnJournalReader → UsnJournalReader
finished w = record { start = w.start; position = w.position; end = w.end; held = w.held; total = w.total; ended = true }

-- what is known of a window that was not refused, with a buffer of n bytes
pub record Ready (w : UsnJournalReader) (n : ℕ) : Type 0 where
  pub buffer : n ≡ window_size
  pub small : w.total ≤ stream_domain
  pub inside : w.end ≤ w.total
  pub starts : w.start ≤ w.end
  pub near : w.end ≤ w.start + window_size
  pub from : w.start ≤ w.position
  pub upto : w.position ≤ w.end + 7
  pub position8 : w.position % 8 ≡ 0
  pub end8 : (w.end ≡ w.total → ⊥) → w.end % 8 ≡ 0
