-- Known cases of paths.
use Rattle.std.specs.Prelude.{ℕ, zero, suc, List, [], ◌∷◌, ◌++◌}
use Rattle.path.specs.Sample.{key, nested_table, last_key, loop_table, path_says}
use Rattle.known.specs.Case.{Case}

-- the bytes of `UNRESOLVED(`, and of `\a` so many times
abbrev pub unresolved : List ℕ
unresolved = 0x55 ∷ 0x4E ∷ 0x52 ∷ 0x45 ∷ 0x53 ∷ 0x4F ∷ 0x4C ∷ 0x56 ∷ 0x45 ∷ 0x44 ∷ 0x28 ∷ []

unfoldable pub names : ℕ → List ℕ
names zero = []
names (suc n) = 0x5C ∷ 0x61 ∷ names n

-- P9: 256 names under 5:5 begin with a full stop, 257 with UNRESOLVED(5:5); 9:1 as its own parent, named a, gives UNRESOLVED(9:1) and 257 names.
-- Each has just the room that its text takes; the 0 in front says that it is answered.
abbrev pub nested_says : ℕ → ℕ → List ℕ → Case
nested_says n room known = record { of = 9; given = n ∷ []; says = path_says (nested_table n) (last_key n) room; known = known }

abbrev pub depths : List Case
depths =
    nested_says 256 513 (0 ∷ 0x2E ∷ names 256)
    ∷ nested_says 257 529 (0 ∷ (unresolved ++ (0x35 ∷ 0x3A ∷ 0x35 ∷ 0x29 ∷ names 257)))
    ∷ record { of = 9; given = []; says = path_says loop_table (key 9 1) 529; known = 0 ∷ (unresolved ++ (0x39 ∷ 0x3A ∷ 0x31 ∷ 0x29 ∷ names 257)) }
    ∷ []
