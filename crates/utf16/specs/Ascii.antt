-- Four units at once, as the number that their eight bytes spell.
use Rattle.std.specs.Prelude.{ℕ, ◌/◌, ◌%◌, List, [], ◌∷◌, Bool, ◌&&◌, ltb}

-- the four units, the first in the lowest bits
abbrev pub four_units : ℕ → List ℕ
four_units n = n % 0x10000 ∷ n / 0x10000 % 0x10000 ∷ n / 0x100000000 % 0x10000 ∷ n / 0x1000000000000 % 0x10000 ∷ []

-- whether each of them is of ASCII
unfoldable pub four_ascii : ℕ → Bool
four_ascii n = ltb (n % 0x10000) 0x80 && (ltb (n / 0x10000 % 0x10000) 0x80 && (ltb (n / 0x100000000 % 0x10000) 0x80 && ltb (n / 0x1000000000000 % 0x10000) 0x80))
