-- The outcome of a call: a refusal's number, or what it answers.
use Rattle.std.specs.Prelude.{ℕ, List, [], ◌∷◌, Result, Ok, Err}
use Rattle.base.specs.Refusals.{number_of}
use Rattle.base.specs.declared.refusal.Refusal.{Refusal}

pub data Outcome (A : Type 0) : Type 0 where
  refused : ℕ → Outcome A
  answered : A → Outcome A

-- what a call's result says
abbrev pub outcome : {A : Type 0} → Result A Refusal → Outcome A
outcome (Err r) = refused (number_of r)
outcome (Ok a) = answered a

-- what is done with an answer; a refusal stays
abbrev pub map_outcome : {A B : Type 0} → (A → B) → Outcome A → Outcome B
map_outcome f (refused n) = refused n
map_outcome f (answered a) = answered (f a)

-- what comes after an answer; a refusal stays
abbrev pub and_then : {A B : Type 0} → Outcome A → (A → Outcome B) → Outcome B
and_then (refused n) f = refused n
and_then (answered a) f = f a

-- every refusal under one number
abbrev pub refused_as : {A : Type 0} → ℕ → Outcome A → Outcome A
refused_as n (refused m) = refused n
refused_as n (answered a) = answered a

-- what a call lists: nothing where it is refused
abbrev pub listed_by : {A B : Type 0} → (A → List B) → Outcome A → List B
listed_by list (refused n) = []
listed_by list (answered a) = list a

-- an outcome as numbers: a refusal is its number alone, an answer 0 and its words
abbrev pub outcome_words : {A : Type 0} → (A → List ℕ) → Outcome A → List ℕ
outcome_words words (refused n) = n ∷ []
outcome_words words (answered a) = 0 ∷ words a
