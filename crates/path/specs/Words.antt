-- A path with text as words: those of the path, and the length of its text.
use Rattle.std.specs.Prelude.{ℕ, List, [], ◌∷◌, ◌++◌}
use Rattle.chain.specs.Words.{resolved_words}
use Rattle.path.specs.declared.WrittenPath.{WrittenPath}

abbrev pub written_words : WrittenPath → List ℕ
written_words t = resolved_words t.path ++ (t.text ∷ [])
