-- The names of an MFT entry, and which of them is kept.
use Rattle.std.specs.Prelude.{ℕ, List, [], ◌∷◌, Bool, cond, not, ◌&&◌, ◌||◌, eqb, Option, Some, None}
use Rattle.mft_attributes.specs.declared.filename.Filename.{Filename}

-- the namespaces of a name: Win32, DOS (the short name of 8 and 3 characters), and one name for both
abbrev pub win32 : ℕ
win32 = 1

abbrev pub dos : ℕ
dos = 2

abbrev pub win32_and_dos : ℕ
win32_and_dos = 3

-- whether a name of the new namespace replaces one of the old: a Win32 name stays, and a DOS name replaces none
unfoldable pub replaces : ℕ → ℕ → Bool
replaces old new = not (eqb old win32 || eqb old win32_and_dos) && not (eqb new dos)

-- an attribute that was walked: one that gives a name, or another
pub data Attribute : Type 0 where
  other : Attribute
  named : Filename → Attribute

-- what is kept after one more name
unfoldable pub keep : Option Filename → Filename → Option Filename
keep None new = Some new
keep (Some old) new = cond (replaces old.namespace new.namespace) (Some new) (Some old)

-- what is kept after these attributes
abbrev pub keep_all : Option Filename → List Attribute → Option Filename
keep_all k [] = k
keep_all k (other ∷ xs) = keep_all k xs
keep_all k (named new ∷ xs) = keep_all (keep k new) xs
