-- The domain of a call over a journal and an image.
use Rattle.std.specs.Prelude.{ℕ, List, Bool, ◌||◌, length, ltb}
use Rattle.base.specs.Refusals.{domain}

-- one of the two is above it
abbrev pub either_above : List ℕ → List ℕ → Bool
either_above journal image = ltb domain (length journal) || ltb domain (length image)
