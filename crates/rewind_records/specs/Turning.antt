-- The record that is next, or that none is left.
use Rattle.std.specs.Prelude.{ℕ, List, [], ◌∷◌, drop, Option, None, Some, Result, Ok, Err}
use Rattle.base.specs.Outcome.{Outcome, refused, answered}
use Rattle.base.specs.Refusals.{number_of}
use Rattle.base.specs.declared.refusal.Refusal.{Refusal}
use Rattle.entry_slots.specs.Table.{Table}
use Rattle.rewind_records.specs.Environment.{Environment, entries_of, tested}
use Rattle.additions.specs.declared.entries.RecordEntry.{RecordEntry}

-- what a next one says, or that none is left
pub data Next (A : Type 0) : Type 0 where
  ended : Next A
  next : A → Next A

abbrev pub map_next : {A B : Type 0} → (A → B) → Next A → Next B
map_next f ended = ended
map_next f (next a) = next (f a)

abbrev pub first_of : {A : Type 0} → List A → Next A
first_of [] = ended
first_of (x ∷ xs) = next x

-- the record that is next where so many are behind: 1, 9, 12, 7
unfoldable pub turning : Environment → Table → ℕ → Outcome (Next RecordEntry)
turning env t position = tested env t (answered (first_of (drop position (entries_of env.records))))

-- what is answered where one may be next, and none may be left
abbrev pub next_outcome : {A : Type 0} → Result (Option A) Refusal → Outcome (Next A)
next_outcome (Err r) = refused (number_of r)
next_outcome (Ok None) = answered ended
next_outcome (Ok (Some a)) = answered (next a)
