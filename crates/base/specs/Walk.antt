-- A walk over offsets: each visit says what it found and where to go on, or stops.
use Rattle.std.specs.Prelude.{ℕ, zero, suc, ◌-◌, List, [], ◌++◌}

-- what a visit says: stop, or what was found and the next offset
pub data Visit (A : Type 0) : Type 0 where
  stop : Visit A
  go : List A → ℕ → Visit A

-- what a visit found, and then what comes after it
abbrev pub going_on : {A : Type 0} → Visit A → (ℕ → List A) → List A
going_on stop f = []
going_on (go es p) f = es ++ f p

-- what at most k visits find, from o on
unfoldable pub walk : {A : Type 0} → (ℕ → Visit A) → ℕ → ℕ → List A
walk visit zero o = []
walk visit (suc k) o = going_on (visit o) (walk visit k)

-- all that the visits from o on find, where a visit goes forward and only below bound
unfoldable pub from : {A : Type 0} → (ℕ → Visit A) → ℕ → ℕ → List A
from visit bound o = walk visit (bound - o) o
