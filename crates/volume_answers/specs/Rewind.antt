-- The answers of a rewind's steps as words.
use Rattle.std.specs.Prelude.{ℕ, List, [], ◌∷◌, ◌++◌}
use Rattle.rewind.specs.Words.{rewind_words}
use Rattle.rewind_records.specs.Turning.{Next, ended, next}
use Rattle.rewind.specs.declared.Rewind.{Rewind}

-- an answer of a step: 0 the end or 1 a record, the state after it, and the words of what a record tells
abbrev pub next_words : {A : Type 0} → (A → List ℕ) → Rewind → Next A → List ℕ
next_words words r ended = 0 ∷ rewind_words r
next_words words r (next a) = 1 ∷ (rewind_words r ++ words a)
