-- The tests before the first write, each by the answer of those before it, with the used slots: a refusal is handed on.
use Rattle.std.specs.Prelude.{ℕ, List, cond, ltb}
use Rattle.base.specs.Outcome.{Outcome, refused, answered}
use Rattle.base.specs.Refusals.{bad_state, name_outside, table_full}
use Rattle.entry_slots.specs.Names.{Lengths, all_inside}
use Rattle.entry_slots.specs.Slots.{slots_in}
use Rattle.entry_slots.specs.Table.{table, Addition}
use Rattle.additions.specs.Storing.{names_of, fits}

-- 9: the used slots are above the slots
unfoldable pub state_tested : ℕ → ℕ → Outcome ℕ
state_tested slots used = cond (ltb slots used) (refused bad_state) (answered used)

-- 7: a name's place is outside its slice
unfoldable pub names_tested : Lengths → List Addition → Outcome ℕ → Outcome ℕ
names_tested ls xs (refused n) = refused n
names_tested ls xs (answered used) = cond (all_inside ls (names_of xs)) (answered used) (refused name_outside)

-- 6: the used slots plus the different keys to be added exceed the slots
unfoldable pub room_tested : List ℕ → List Addition → Outcome ℕ → Outcome ℕ
room_tested s xs (refused n) = refused n
room_tested s xs (answered used) = cond (fits (table s used) xs (slots_in s)) (answered used) (refused table_full)

-- where a walk over so many entries goes on: past the last one after a refusal
abbrev pub onward : Outcome ℕ → ℕ → ℕ → ℕ
onward (refused n) i count = count
onward (answered used) i count = i

-- the used slots of an answer; 0 of a refusal
abbrev pub used_in : Outcome ℕ → ℕ
used_in (refused n) = 0
used_in (answered used) = used
