-- The lookup table's calls as C calls.
use Rattle.std.specs.Prelude.{ℕ, List, Bool, length}
use Rattle.base.specs.Outcome.{Outcome}
use Rattle.base.specs.Words.{after_domain, count_words}
use Rattle.entry_slots.specs.Names.{lengths_of}
use Rattle.entry_slots.specs.Table.{Table, table}
use Rattle.additions.specs.Storing.{inserting}
use Rattle.additions.specs.Carved.{seeding}
use Rattle.entry_slots.specs.declared.EntryKey.{EntryKey}
use Rattle.entry_slots.specs.declared.EntryInfo.{EntryInfo}
use Rattle.volume_answers.specs.Key.{key_of}

-- what is known of a key, from its numbers
abbrev pub info_of : ℕ → ℕ → ℕ → ℕ → ℕ → EntryInfo
info_of parent sequence source offset length =
    record { parent = key_of parent sequence; name = record { source = source; offset = offset; length = length } }

-- an insertion, with lent words for the table and for the number of its used slots
abbrev pub insert_call : List ℕ → List ℕ → List ℕ → ℕ → EntryKey → EntryInfo → Bool → List ℕ → Outcome Table
insert_call journal image slots used key info replace out =
    after_domain 1 (length out) (inserting (lengths_of journal image) (table slots used) key info replace)

-- seeding with a list of carved entries
abbrev pub seed_call : List ℕ → List ℕ → List ℕ → ℕ → List ℕ → List ℕ → Outcome Table
seed_call journal image slots used entries out = after_domain 1 (length out) (seeding (lengths_of journal image) (table slots used) entries)

-- the word of a table's used slots
abbrev pub used_words : Table → List ℕ
used_words t = count_words t.used
