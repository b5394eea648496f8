-- Two byte lists that agree on a range.
use Rattle.std.specs.Prelude.{ℕ, ◌≤◌, ◌<◌, ◌≡◌, List, length, get_or}

-- t is as long as s, and has the same bytes from lo up to, not including, hi
pub record Agree (s t : List ℕ) (lo hi : ℕ) : Type 0 where
  pub long : length t ≡ length s
  pub at : (i : ℕ) → lo ≤ i → i < hi → get_or t i 0 ≡ get_or s i 0
