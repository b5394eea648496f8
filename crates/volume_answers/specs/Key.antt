-- Keys as numbers.
use Rattle.std.specs.Prelude.{ℕ}
use Rattle.entry_slots.specs.declared.EntryKey.{EntryKey}

-- a key from its numbers
abbrev pub key_of : ℕ → ℕ → EntryKey
key_of entry sequence = record { entry = entry; sequence = sequence }
