-- The text of an entry by its parent's path and its own name, and whether it has room behind other text.
use Rattle.std.specs.Prelude.{ℕ, ◌-◌, List, ◌++◌, Bool, length, ltb}
use Rattle.entry_slots.specs.declared.NamePlace.{NamePlace}
use Rattle.chain.specs.Chain.{Chain}
use Rattle.path_text.specs.Text.{path_text, step_text}

-- the path of the parent, a backslash and the name
unfoldable pub entry_text : List ℕ → List ℕ → Chain → NamePlace → List ℕ
entry_text journal image parent name = path_text journal image parent ++ step_text journal image name

-- a text is longer than the room behind the first bytes of another
abbrev pub passes : List ℕ → ℕ → List ℕ → Bool
passes text at more = ltb (length text - at) (length more)
