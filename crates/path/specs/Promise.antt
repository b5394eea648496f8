-- What the call and the writers of paths ask and promise. Each record says it of lists: what the lent slices hold before, and, with ', after. The promise
-- itself takes the call's parameters.
use Rattle.std.specs.Prelude.{ℕ, ◌+◌, ◌≤◌, ◌<◌, ◌≡◌, List, true, cond, length, get_or, Option, Some, None, Result}
use Rattle.std.proofs.lemmas.List.Edits.{sets}
use Rattle.base.specs.Lent.{Lent, MutLent, before, before_mut, after}
use Rattle.base.specs.Lists.{list_after}
use Rattle.base.specs.Outcome.{Outcome, outcome, map_outcome}
use Rattle.base.specs.Refusals.{domain}
use Rattle.entry_slots.specs.Names.{lengths_of, inside}
use Rattle.entry_slots.specs.Slots.{slot_name}
use Rattle.entry_slots.specs.Table.{Table, table}
use Rattle.entry_slots.specs.declared.EntryKey.{EntryKey}
use Rattle.entry_slots.specs.declared.NamePlace.{NamePlace}
use Rattle.chain.specs.Chain.{Chain}
use Rattle.chain.specs.Settings.{depth}
use Rattle.chain.specs.Tracing.{chain_after}
use Rattle.chain.specs.Way.{Slots, way_places, names_bound, chain_by}
use Rattle.chain.specs.declared.way.Climbed.{Climbed}
use Rattle.path_text.specs.Text.{path_text}
use Rattle.path.specs.Written.{tracing_with_text, WrittenPath, written_path}
use Rattle.path.specs.Ways.{entry_text, passes}
use Rattle.base.specs.declared.refusal.Refusal.{Refusal}

-- the path of a key: its answer, the list of its places, and its text
module _ (journal image : List ℕ) (t : Table) (key : EntryKey) (list text : List ℕ) where
  abbrev pub path_out : Outcome Chain
  path_out = tracing_with_text journal image t depth key (length text)

  pub record Paths (r : Result WrittenPath Refusal) (list' text' : List ℕ) : Type 0 where
    pub answer : outcome r ≡ map_outcome (written_path journal image) path_out
    pub places : list' ≡ chain_after path_out list
    pub written : text' ≡ list_after (path_text journal image) path_out text

abbrev pub PathPromise : Lent → Lent → Lent → ℕ → EntryKey → MutLent → MutLent → Result WrittenPath Refusal → Type 0
PathPromise journal image slots used key list text r =
    Paths (before journal) (before image) (table (before slots) used) key (before_mut list) (before_mut text) r (after list) (after text)

-- what is known before the names of a way are told: its slots are slots of these words, their names are inside, and its bound is theirs
pub record WayAsks (journal image words way : List ℕ) (up : Climbed) : Type 0 where
  pub slots : Slots words way up.names
  pub insides : (i : ℕ) → i < up.names → inside (lengths_of journal image) (slot_name words (get_or way i 0)) ≡ true
  pub bounds : up.bound ≡ names_bound (way_places words way up.names)
  pub near-journal : length journal ≤ domain
  pub near-image : length image ≤ domain

-- more put behind the first bytes of a text: it is written where it has room
pub record Behinds (more text : List ℕ) (at : ℕ) (r : Option ℕ) (text' : List ℕ) : Type 0 where
  pub answer : r ≡ cond (passes text at more) None (Some (at + length more))
  pub written : text' ≡ cond (passes text at more) text (sets text at more)

module _ (journal image slots way : Lent) (up : Climbed) where
  abbrev pub chain_of_way : Chain
  chain_of_way = chain_by (before slots) (before way) up

  -- the path of a way, at the front of a text
  abbrev pub FrontPromise : MutLent → Option ℕ → Type 0
  FrontPromise text r = Behinds (path_text (before journal) (before image) chain_of_way) (before_mut text) 0 r (after text)

  -- the path of an entry by its parent's way and its own name
  abbrev pub BehindPromise : NamePlace → MutLent → ℕ → Option ℕ → Type 0
  BehindPromise name text at r = Behinds (entry_text (before journal) (before image) chain_of_way name) (before_mut text) at r (after text)
