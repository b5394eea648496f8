-- What the calls promise. Each record says it of lists: what the lent slices hold before, and, with ', after, where storing comes to o. The promise
-- itself takes the call's parameters.
use Rattle.std.specs.Prelude.{ℕ, ◌≡◌, List, map, Result}
use Rattle.std.specs.Borrow.{Bor}
use denote.Triple.Both.{Both}
use Rattle.base.specs.Lent.{Lent, MutLent, before, before_mut, after}
use Rattle.base.specs.Outcome.{Outcome, refused, answered}
use Rattle.mft_carver.specs.declared.CarvedMftEntry.{CarvedMftEntry}
use Rattle.entry_slots.specs.Names.{lengths_of}
use Rattle.entry_slots.specs.Table.{Table, table}
use Rattle.additions.specs.Storing.{storing, used_after, words_after}
use Rattle.additions.specs.Carved.{addition_of}
use Rattle.entry_table.specs.Promise.{Stores}
use Rattle.base.specs.declared.refusal.Refusal.{Refusal}
use Rattle.carved_seed.specs.declared.Seeded.{Seeded}

-- a lent slice of carved entries
abbrev pub LentEntries : Type 0
LentEntries = Both (Bor (List CarvedMftEntry)) (Bor (List CarvedMftEntry))

-- storing carved entries in a table
abbrev pub seeded_from : List ℕ → List ℕ → List ℕ → ℕ → List CarvedMftEntry → Outcome Table
seeded_from journal image slots used entries = storing (lengths_of journal image) (table slots used) (map addition_of entries)

-- an outcome in numbers: the used slots, which are those that came in where it is refused, and 0 or the number of the refusal
abbrev pub in_numbers : ℕ → Outcome ℕ → Seeded
in_numbers used (refused n) = record { used = used; refusal = n }
in_numbers used (answered n) = record { used = n; refusal = 0 }

-- the answer in numbers, and the words of the table
pub record StoresInNumbers (o : Outcome Table) (used : ℕ) (words : List ℕ) (r : Seeded) (words' : List ℕ) : Type 0 where
  pub answer : r ≡ in_numbers used (used_after o)
  pub slots-are : words' ≡ words_after o words

module _ (journal image : Lent) (slots : MutLent) (used : ℕ) (entries : LentEntries) where
  abbrev pub seed_out : Outcome Table
  seed_out = seeded_from (before journal) (before image) (before_mut slots) used entries.entry.now

  abbrev pub SeedFromCarvedPromise : Result ℕ Refusal → Type 0
  SeedFromCarvedPromise r = Stores seed_out (before_mut slots) r (after slots)

  abbrev pub SeedEntriesPromise : Seeded → Type 0
  SeedEntriesPromise r = StoresInNumbers seed_out used (before_mut slots) r (after slots)
