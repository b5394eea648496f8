-- The entries that a call adds, whatever they are read from: so many, and what the one of each number adds.
use Rattle.std.specs.Prelude.{ℕ, List}
use Rattle.base.specs.Lists.{rows}
use Rattle.entry_slots.specs.Table.{Addition}
use Rattle.entry_slots.specs.declared.EntryKey.{EntryKey}

-- all of them, and the key of each
abbrev pub all_of : ℕ → (ℕ → Addition) → List Addition
all_of n f = rows f 0 n

abbrev pub keys_by : (ℕ → Addition) → ℕ → EntryKey
keys_by f i = (f i).key
