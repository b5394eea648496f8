-- Little-endian numbers in a list of bytes, of any width.
use Rattle.std.specs.Prelude.{ℕ, zero, suc, ◌+◌, ◌*◌, ◌/◌, ◌%◌, ◌^◌, List, [], ◌∷◌, cond, length, get_or, leb}

-- the number that the w bytes from o on spell, the lowest byte first
unfoldable pub le : ℕ → List ℕ → ℕ → ℕ
le zero s o = 0
le (suc w) s o = le w s o + get_or s (o + w) 0 * 256 ^ w

-- n as w bytes, the lowest first
abbrev pub le_bytes : ℕ → ℕ → List ℕ
le_bytes zero n = []
le_bytes (suc w) n = n % 256 ∷ le_bytes w (n / 256)

-- a read of w bytes at o: 0 where it runs past the end
unfoldable pub le_at : ℕ → List ℕ → ℕ → ℕ
le_at w s o = cond (leb (o + w) (length s)) (le w s o) 0
