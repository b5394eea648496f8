-- A lent list that takes results, each as a row of words, from its front on; a test of every element of a list; and lists by their elements' numbers.
use Rattle.std.specs.Prelude.{ℕ, zero, suc, ◌+◌, List, [], ◌∷◌, ◌++◌, Bool, true, ◌&&◌, length, drop}
use Rattle.base.specs.Outcome.{Outcome, refused, answered}
use Rattle.base.specs.declared.Place.{Place}

-- each thing's words, one after the other
abbrev pub flatten : {A : Type 0} → (A → List ℕ) → List A → List ℕ
flatten words [] = []
flatten words (x ∷ xs) = words x ++ flatten words xs

-- a place as two words
abbrev pub place_words : Place → List ℕ
place_words p = p.offset ∷ p.length ∷ []

-- l with its first elements replaced by vs
abbrev pub overwrite : List ℕ → List ℕ → List ℕ
overwrite l vs = vs ++ drop (length vs) l

-- what a lent list holds after a call: what it held where the call is refused, else the answer's words in front
abbrev pub list_after : {A : Type 0} → (A → List ℕ) → Outcome A → List ℕ → List ℕ
list_after words (refused n) l = l
list_after words (answered a) l = overwrite l (words a)

-- a test holds of every element
unfoldable pub every : {A : Type 0} → (A → Bool) → List A → Bool
every test [] = true
every test (x ∷ xs) = test x && every test xs

-- P holds of every element
abbrev pub All : {A : Type 0} → (A → Type 0) → List A → Type 0
All P [] = Unit {0}
All P (x ∷ xs) = P x × All P xs

-- what f gives for each of the n numbers from i on
unfoldable pub rows : {A : Type 0} → (ℕ → A) → ℕ → ℕ → List A
rows f i zero = []
rows f i (suc n) = f i ∷ rows f (i + 1) n
