-- The numbers of a window: where it ends, and which numbers cannot be a window's.
use Rattle.std.specs.Prelude.{ℕ, ◌+◌, ◌%◌, min, Bool, cond, not, ◌||◌, ltb, eqb}
use Rattle.base.specs.Places.{round8}
use Rattle.base.specs.Refusals.{above_domain, bad_state, bad_buffer}

-- the bytes of a window
abbrev pub window_size : ℕ
window_size = 65536

-- the most bytes of a stream
abbrev pub stream_domain : ℕ
stream_domain = 1099511627776

-- where a window that starts at p ends
abbrev pub window_end : ℕ → ℕ → ℕ
window_end p total = min (p + window_size) total

-- a window's numbers
pub record Numbers : Type 0 where
  -- the buffer holds the stream's bytes from start on, up to held of them
  pub start : ℕ
  -- records are read from position on up to end
  pub position : ℕ
  pub end : ℕ
  pub held : ℕ
  -- the bytes of the stream
  pub total : ℕ

-- numbers of the code
abbrev pub numbers_of : ℕ → ℕ → ℕ → ℕ → ℕ → Numbers
numbers_of start position end held total = record { start = start; position = position; end = end; held = held; total = total }

-- the end is not that of a window that starts there, nor 0, as before the first refill
unfoldable pub wrong_end : ℕ → ℕ → ℕ → Bool
wrong_end start end total = not (eqb end (window_end start total) || eqb end 0)

-- the numbers cannot be a window's
unfoldable pub wrong_numbers : Numbers → Bool
wrong_numbers w =
    wrong_end w.start w.end w.total
    || not (eqb (w.start % 8) 0)
    || not (eqb (w.position % 8) 0)
    || ltb w.position w.start
    || ltb (round8 w.end) w.position
    || ltb w.end (w.start + w.held)

-- the refusal of a call with a buffer of n bytes, or 0
unfoldable pub numbers_refusal : Numbers → ℕ → ℕ
numbers_refusal w n =
    cond (ltb stream_domain w.total) above_domain
    (cond (eqb n window_size)
    (cond (wrong_numbers w) bad_state 0)
    bad_buffer)
