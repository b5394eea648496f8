-- The state of a rewind as words.
use Rattle.std.specs.Prelude.{ℕ, List, [], ◌∷◌}
use Rattle.rewind.specs.declared.Rewind.{Rewind}

abbrev pub rewind_words : Rewind → List ℕ
rewind_words r = r.used ∷ r.position ∷ []
