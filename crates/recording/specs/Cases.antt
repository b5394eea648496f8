-- What is known of the cases of a recording.
use Rattle.std.specs.Prelude.{ℕ, ◌≡◌, List, ◌++◌, length}

-- a recording begins with a case that has these bytes, and goes on with the rest: five bytes stand before them
pub record Begins (cases bytes rest : List ℕ) : Type 0 where
  pub head : List ℕ
  pub five : length head ≡ 5
  pub parts : cases ≡ head ++ (bytes ++ rest)
