-- UTF-8: the bytes of a code point.
use Rattle.std.specs.Prelude.{ℕ, ◌+◌, ◌/◌, ◌%◌, List, [], ◌∷◌, cond, ltb}

-- a byte after the first: the low six bits of n
abbrev pub trail : ℕ → ℕ
trail n = 0x80 + n % 0x40

-- one byte below U+0080, two below U+0800, three below U+10000, and four from there on
unfoldable pub utf8 : ℕ → List ℕ
utf8 c =
    cond (ltb c 0x80) (c ∷ [])
    (cond (ltb c 0x800) ((0xC0 + c / 0x40) ∷ trail c ∷ [])
    (cond (ltb c 0x10000) ((0xE0 + c / 0x1000) ∷ trail (c / 0x40) ∷ trail c ∷ [])
    ((0xF0 + c / 0x40000) ∷ trail (c / 0x1000) ∷ trail (c / 0x40) ∷ trail c ∷ [])))
