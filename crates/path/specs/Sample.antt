-- Tables, for worked examples. Every name in them is a, the one unit of the journal.
use Rattle.std.specs.Prelude.{ℕ, zero, suc, ◌+◌, List, [], ◌∷◌, ◌++◌}
use Rattle.base.specs.Outcome.{outcome_words}
use Rattle.entry_slots.specs.Slots.{slot_words}
use Rattle.entry_slots.specs.Table.{Table, table}
use Rattle.entry_slots.specs.declared.EntryKey.{EntryKey}
use Rattle.chain.specs.Settings.{depth}
use Rattle.path_text.specs.Text.{path_text}
use Rattle.path.specs.Written.{tracing_with_text}

abbrev pub key : ℕ → ℕ → EntryKey
key entry sequence = record { entry = entry; sequence = sequence }

-- a journal that is a name of one unit, a
abbrev pub journal_a : List ℕ
journal_a = 0x61 ∷ 0x00 ∷ []

-- the slot of a key that is called a, under a parent
abbrev pub slot_a : EntryKey → EntryKey → List ℕ
slot_a k parent = slot_words k (record { parent = parent; name = record { source = 0; offset = 0; length = 2 } })

-- the n keys after e:5, each in the one before it
unfoldable pub nested : ℕ → ℕ → List ℕ
nested e zero = []
nested e (suc n) = slot_a (key (suc e) 5) (key e 5) ++ nested (suc e) n

-- n keys under 5:5, and the last of them
abbrev pub nested_table : ℕ → Table
nested_table n = table (nested 5 n) n

abbrev pub last_key : ℕ → EntryKey
last_key n = key (5 + n) 5

-- 9:1 as its own parent
abbrev pub loop_table : Table
loop_table = table (slot_a (key 9 1) (key 9 1)) 1

-- what a path says, with room for so many bytes: a refusal's number alone, or 0 and the text
unfoldable pub path_says : Table → EntryKey → ℕ → List ℕ
path_says t k room = outcome_words (path_text journal_a []) (tracing_with_text journal_a [] t depth k room)

-- the text `\a` so many times
unfoldable pub times_a : ℕ → List ℕ
times_a zero = []
times_a (suc n) = 0x5C ∷ 0x61 ∷ times_a n
