-- UTF-16: the code points of units of 16 bits, and the units of little-endian bytes.
use Rattle.std.specs.Prelude.{ℕ, zero, suc, ◌+◌, ◌-◌, ◌*◌, List, [], ◌∷◌, Bool, cond, ◌&&◌, leb}
use Rattle.usn_record.specs.Bytes.{le_at}

-- a high surrogate, a low one, and either
abbrev pub is_high : ℕ → Bool
is_high u = leb 0xD800 u && leb u 0xDBFF

abbrev pub is_low : ℕ → Bool
is_low u = leb 0xDC00 u && leb u 0xDFFF

abbrev pub is_surrogate : ℕ → Bool
is_surrogate u = leb 0xD800 u && leb u 0xDFFF

-- two units that are one code point, and that code point
abbrev pub is_pair : ℕ → ℕ → Bool
is_pair u v = is_high u && is_low v

abbrev pub joined : ℕ → ℕ → ℕ
joined u v = 0x10000 + (u - 0xD800) * 0x400 + (v - 0xDC00)

-- the code point of a unit that is not of a pair: a surrogate is replaced by U+FFFD
unfoldable pub alone : ℕ → ℕ
alone u = cond (is_surrogate u) 0xFFFD u

-- the code points of units
unfoldable pub code_points : List ℕ → List ℕ
code_points [] = []
code_points (u ∷ []) = alone u ∷ []
code_points (u ∷ (v ∷ us)) = cond (is_pair u v) (joined u v ∷ code_points us) (alone u ∷ code_points (v ∷ us))

-- the n units whose bytes begin at o, the low byte first
unfoldable pub units_at : List ℕ → ℕ → ℕ → List ℕ
units_at s o zero = []
units_at s o (suc n) = le_at 2 s o ∷ units_at s (o + 2) n
