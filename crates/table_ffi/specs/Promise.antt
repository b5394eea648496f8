-- What the table's calls promise as C calls. Each record says it of lists: what the lent slices hold before, and, with ', after, where the call comes to o.
use Rattle.std.specs.Prelude.{ℕ, ◌≡◌, List, Bool}
use Rattle.base.specs.Lent.{Lent, MutLent, before, before_mut, after}
use Rattle.base.specs.Lists.{list_after}
use Rattle.base.specs.Outcome.{Outcome}
use Rattle.base.specs.Words.{number}
use Rattle.entry_slots.specs.Slots.{slots_in}
use Rattle.entry_slots.specs.Table.{Table}
use Rattle.entry_slots.specs.Index.{heads_left, nexts_left}
use Rattle.additions.specs.Storing.{words_after}
use Rattle.entry_slots.specs.declared.EntryInfo.{EntryInfo}
use Rattle.entry_slots.specs.declared.EntryKey.{EntryKey}
use Rattle.table_ffi.specs.Table.{insert_call, seed_call, used_words}

-- storing: its number, the words of the table, and the word of the used slots
pub record Stores (o : Outcome Table) (words out : List ℕ) (r : ℕ) (words' out' : List ℕ) : Type 0 where
  pub answer : r ≡ number o
  pub table : words' ≡ words_after o words
  pub row : out' ≡ list_after used_words o out

abbrev pub StorePromise : Lent → Lent → MutLent → ℕ → EntryKey → EntryInfo → Bool → MutLent → ℕ → Type 0
StorePromise journal image slots used key info replace out r =
    Stores (insert_call (before journal) (before image) (before_mut slots) used key info replace (before_mut out)) (before_mut slots) (before_mut out) r (after slots) (after out)

abbrev pub SeedCallPromise : Lent → Lent → MutLent → ℕ → Lent → MutLent → ℕ → Type 0
SeedCallPromise journal image slots used entries out r =
    Stores (seed_call (before journal) (before image) (before_mut slots) used (before entries) (before_mut out)) (before_mut slots) (before_mut out) r (after slots) (after out)

-- seeding: what the call with no index promises, and the words of the index
pub record Seeds (o : Outcome Table) (words heads nexts out : List ℕ) (r : ℕ) (words' heads' nexts' out' : List ℕ) : Type 0 where
  pub store : Stores o words out r words' out'
  pub heads-are : heads' ≡ heads_left (slots_in words) o heads nexts
  pub nexts-are : nexts' ≡ nexts_left (slots_in words) o heads nexts

abbrev pub SeedIndexedCallPromise : Lent → Lent → MutLent → ℕ → Lent → MutLent → MutLent → MutLent → ℕ → Type 0
SeedIndexedCallPromise journal image slots used entries heads nexts out r =
    let o = seed_call (before journal) (before image) (before_mut slots) used (before entries) (before_mut out) in
    Seeds o (before_mut slots) (before_mut heads) (before_mut nexts) (before_mut out) r (after slots) (after heads) (after nexts) (after out)
