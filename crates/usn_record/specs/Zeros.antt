-- Runs of zero words.
use Rattle.std.specs.Prelude.{ℕ, ◌+◌, ◌≤◌, ◌≡◌, List, length}
use Rattle.usn_record.specs.Bytes.{le_at}

-- from o up to p lie whole words of 8 bytes, all zero
pub data ZeroWords (s : List ℕ) (o : ℕ) : ℕ → Type 0 where
  none : {p : ℕ} → p ≡ o → ZeroWords s o p
  word : {p q : ℕ} → ZeroWords s o q → q + 8 ≤ length s → le_at 8 s q ≡ 0 → p ≡ q + 8 → ZeroWords s o p

pub record PastZeros (s : List ℕ) (o p : ℕ) : Type 0 where
  pub forward : o ≤ p
  pub words : ZeroWords s o p
