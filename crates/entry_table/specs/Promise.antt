-- What the calls promise that store. Each record says it of lists: what the lent slices hold before, and, with ', after, where the call comes to o. The promise
-- itself takes the call's parameters.
use Rattle.std.specs.Prelude.{ℕ, ◌≡◌, List, [], ◌∷◌, Bool, length, Result}
use Rattle.base.specs.Lent.{Lent, MutLent, before, before_mut, after}
use Rattle.base.specs.Outcome.{Outcome, outcome}
use Rattle.base.specs.declared.refusal.Refusal.{Refusal}
use Rattle.entry_slots.specs.Names.{Lengths, lengths_of}
use Rattle.entry_slots.specs.Slots.{slots_in}
use Rattle.entry_slots.specs.Table.{Table, table, Addition, addition}
use Rattle.additions.specs.Storing.{adding, storing, inserting, used_after, words_after}
use Rattle.additions.specs.Carved.{seeding}
use Rattle.entry_slots.specs.declared.EntryInfo.{EntryInfo}
use Rattle.entry_slots.specs.declared.EntryKey.{EntryKey}
use Rattle.entry_slots.specs.Index.{heads_after, nexts_after, heads_left, nexts_left}

-- the answer, and the words of the table
pub record Stores (o : Outcome Table) (words : List ℕ) (r : Result ℕ Refusal) (words' : List ℕ) : Type 0 where
  pub answer : outcome r ≡ used_after o
  pub slots-are : words' ≡ words_after o words

-- with an index, or with no heads
pub record StoresBy (o : Outcome Table) (words heads nexts : List ℕ) (r : Result ℕ Refusal) (words' heads' nexts' : List ℕ) : Type 0 where
  pub store : Stores o words r words'
  pub heads-are : heads' ≡ heads_after o heads
  pub nexts-are : nexts' ≡ nexts_after (length heads) o nexts

-- with words for an index that may be too few
pub record StoresIndexed (o : Outcome Table) (words heads nexts : List ℕ) (r : Result ℕ Refusal) (words' heads' nexts' : List ℕ) : Type 0 where
  pub store : Stores o words r words'
  pub heads-are : heads' ≡ heads_left (slots_in words) o heads nexts
  pub nexts-are : nexts' ≡ nexts_left (slots_in words) o heads nexts

-- of lent slices: an addition, with no index and with one, and those of all entries
module _ (slots : MutLent) (used : ℕ) where
  abbrev pub add_out : EntryKey → EntryInfo → Bool → Outcome Table
  add_out key info replace = adding (table (before_mut slots) used) (addition key info replace ∷ [])

  abbrev pub AddPromise : EntryKey → EntryInfo → Bool → Result ℕ Refusal → Type 0
  AddPromise key info replace r = Stores (add_out key info replace) (before_mut slots) r (after slots)

abbrev pub StoreByPromise : MutLent → MutLent → MutLent → Outcome Table → Result ℕ Refusal → Type 0
StoreByPromise slots heads nexts o r = StoresBy o (before_mut slots) (before_mut heads) (before_mut nexts) r (after slots) (after heads) (after nexts)

abbrev pub AddByPromise : MutLent → ℕ → MutLent → MutLent → EntryKey → EntryInfo → Bool → Result ℕ Refusal → Type 0
AddByPromise slots used heads nexts key info replace = StoreByPromise slots heads nexts (add_out slots used key info replace)

abbrev pub AddAllPromise : MutLent → ℕ → List Addition → MutLent → MutLent → Result ℕ Refusal → Type 0
AddAllPromise slots used xs heads nexts = StoreByPromise slots heads nexts (adding (table (before_mut slots) used) xs)

-- all of these entries behind the tests, and the same with no index
abbrev pub SeedByPromise : Lengths → MutLent → ℕ → List Addition → MutLent → MutLent → Result ℕ Refusal → Type 0
SeedByPromise ls slots used xs heads nexts = StoreByPromise slots heads nexts (storing ls (table (before_mut slots) used) xs)

-- of the calls
abbrev pub StorePromise : Lengths → MutLent → ℕ → EntryKey → EntryInfo → Bool → Result ℕ Refusal → Type 0
StorePromise lengths slots used key info replace r =
    Stores (inserting lengths (table (before_mut slots) used) key info replace) (before_mut slots) r (after slots)

module _ (journal image : Lent) (slots : MutLent) (used : ℕ) where
  abbrev pub InsertPromise : EntryKey → EntryInfo → Bool → Result ℕ Refusal → Type 0
  InsertPromise = StorePromise (lengths_of (before journal) (before image)) slots used

  abbrev pub seed_out : Lent → Outcome Table
  seed_out entries = seeding (lengths_of (before journal) (before image)) (table (before_mut slots) used) (before entries)

  abbrev pub SeedPromise : Lent → Result ℕ Refusal → Type 0
  SeedPromise entries r = Stores (seed_out entries) (before_mut slots) r (after slots)

  abbrev pub SeedIndexedPromise : Lent → MutLent → MutLent → Result ℕ Refusal → Type 0
  SeedIndexedPromise entries heads nexts r =
      StoresIndexed (seed_out entries) (before_mut slots) (before_mut heads) (before_mut nexts) r (after slots) (after heads) (after nexts)
