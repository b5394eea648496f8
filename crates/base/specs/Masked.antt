-- Two runs over byte lists that differ in places alone.
use Rattle.std.specs.Prelude.{ℕ, ◌+◌, ◌≤◌, ◌<◌, ◌≡◌, List, [], ◌∷◌, ◌++◌, length, get_or}
use Rattle.base.specs.declared.Place.{Place}

-- i lies in a place
pub record Within (p : Place) (i : ℕ) : Type 0 where
  pub from : p.offset ≤ i
  pub to : i < p.offset + p.length

-- i lies in none of these places
abbrev pub Apart : List Place → ℕ → Type 0
Apart [] i = Unit {0}
Apart (p ∷ ps) i = (Within p i → ⊥) × Apart ps i

-- t is as long as s, and has the same bytes outside these places
pub record Masked (s t : List ℕ) (ps : List Place) : Type 0 where
  pub long : length t ≡ length s
  pub same : (i : ℕ) → Apart ps i → get_or t i 0 ≡ get_or s i 0

-- the places of all these things, one after the other
abbrev pub places_of : {A : Type 0} → (A → List Place) → List A → List Place
places_of places [] = []
places_of places (x ∷ xs) = places x ++ places_of places xs
