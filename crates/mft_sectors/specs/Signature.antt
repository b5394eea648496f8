-- The signature of an MFT entry.
use Rattle.std.specs.Prelude.{ℕ, ◌+◌, List, [], ◌∷◌, Bool, true, ◌&&◌, eqb}
use Rattle.usn_record.specs.Bytes.{le_at}

-- the bytes FILE, with which an entry begins
abbrev pub signature : List ℕ
signature = 0x46 ∷ 0x49 ∷ 0x4C ∷ 0x45 ∷ []

-- these bytes stand at o
abbrev pub spells : List ℕ → List ℕ → ℕ → Bool
spells [] s o = true
spells (x ∷ xs) s o = eqb (le_at 1 s o) x && spells xs s (o + 1)

-- a candidate begins with the signature
unfoldable pub has_signature : List ℕ → Bool
has_signature e = spells signature e 0
