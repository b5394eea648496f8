-- A slice of numbers that a call is lent, as a contract names it: what it holds when the call begins and when it returns.
use Rattle.std.specs.Prelude.{ℕ, List}
use Rattle.std.specs.Borrow.{Bor, MutBor}
use denote.Triple.Both.{Both}

-- lent to be read
abbrev pub Lent : Type 0
Lent = Both (Bor (List ℕ)) (Bor (List ℕ))

abbrev pub before : Lent → List ℕ
before s = s.entry.now

-- lent to be written
abbrev pub MutLent : Type 0
MutLent = Both (MutBor (List ℕ)) (MutBor (List ℕ))

abbrev pub before_mut : MutLent → List ℕ
before_mut s = s.entry.now

abbrev pub after : MutLent → List ℕ
after s = s.exit.now
