-- A number in decimal, without leading zeros.
use Rattle.std.specs.Prelude.{ℕ, zero, suc, ◌+◌, ◌/◌, ◌%◌, List, [], ◌∷◌, ◌++◌, cond, ltb}

-- the ASCII code of a digit
abbrev pub digit : ℕ → ℕ
digit d = 0x30 + d

-- the digits of n, at most k + 1 of them: those of its tenth, and the last
unfoldable pub digits : ℕ → ℕ → List ℕ
digits zero n = digit (n % 10) ∷ []
digits (suc k) n = cond (ltb n 10) (digit n ∷ []) (digits k (n / 10) ++ (digit (n % 10) ∷ []))

-- all digits of n: there are at most n + 1
abbrev pub decimal : ℕ → List ℕ
decimal n = digits n n
