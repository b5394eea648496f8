-- What the call promises. The record says it of lists: what the lent slices hold before, and, with ', after. The promise itself takes the call's parameters.
use Rattle.std.specs.Prelude.{ℕ, ◌+◌, ◌-◌, ◌*◌, ◌^◌, ◌≤◌, ◌<◌, ◌≡◌, List, ◌++◌, length, get_or, Result}
use Rattle.base.specs.Lent.{Lent, MutLent, before, before_mut, after}
use Rattle.base.specs.Outcome.{Outcome, outcome, map_outcome}
use Rattle.base.specs.declared.refusal.Refusal.{Refusal}
use Rattle.entry_slots.specs.Names.{lengths_of}
use Rattle.entry_slots.specs.Slots.{info_at}
use Rattle.entry_slots.specs.Table.{Table, table}
use Rattle.entry_slots.specs.declared.EntryKey.{EntryKey}
use Rattle.chain.specs.Settings.{depth, levels}
use Rattle.chain.specs.Chain.{Chain, chain, chain_of, resolved}
use Rattle.chain.specs.Way.{way_places, names_bound, end_by, chain_by, Below}
use Rattle.chain.specs.Tracing.{tracing, chain_after}
use Rattle.chain.specs.declared.ResolvedPath.{ResolvedPath}
use Rattle.chain.specs.declared.way.Climbed.{Climbed}

-- a chain that comes to o: its answer, and the list of its places
pub record Chains (o : Outcome Chain) (list : List ℕ) (r : Result ResolvedPath Refusal) (list' : List ℕ) : Type 0 where
  pub answer : outcome r ≡ map_outcome resolved o
  pub places : list' ≡ chain_after o list

abbrev pub ChainPromise : Lent → Lent → Lent → ℕ → EntryKey → MutLent → Result ResolvedPath Refusal → Type 0
ChainPromise journal image slots used key list r =
    Chains (tracing (lengths_of (before journal) (before image)) (table (before slots) used) depth key) (before_mut list) r (after list)

-- a way of as many slots as levels are gone, whose names take so many bytes at most, that goes on by a chain to its end: how many slots it has then, what they
-- hang under, the most that all names take, in the last word, the names of all slots, and that these are used ones if the first are
pub record Rises (t : Table) (n : ℕ) (k : EntryKey) (way : List ℕ) (bound r : ℕ) (way' : List ℕ) : Type 0 where
  pub count : r ≡ (levels - n) + length (chain t n k).places
  pub ends : end_by t.words way' r k ≡ (chain t n k).end
  pub bounds : get_or way' (length way - 1) 0 ≡ bound + names_bound (chain t n k).places
  pub places : way_places t.words way' r ≡ (chain t n k).places ++ way_places t.words way (levels - n)
  pub below : Below t.used way (levels - n) → Below t.used way' r

-- what is known before it: there is a word for each level and one more, the sum is small, and the key stands above the last slot of the way
pub record RiseAsks (words way : List ℕ) (n : ℕ) (k : EntryKey) (bound : ℕ) : Type 0 where
  pub near : n ≤ levels
  pub room : levels < length way
  pub sum : bound + n * 1099511627776 < 2 ^ 63
  pub reached : 0 < levels - n → (info_at words (get_or way (levels - n - 1) 0)).parent ≡ k

abbrev pub RisePromise : Lent → ℕ → EntryKey → ℕ → MutLent → ℕ → ℕ → Type 0
RisePromise slots used key levels way bound r = Rises (table (before slots) used) levels key (before_mut way) bound r (after way)

-- the whole way of a key that is asked for: its chain, the most that its names take, and that its slots are used ones
pub record Climbs (t : Table) (k : EntryKey) (r : Climbed) (way' : List ℕ) : Type 0 where
  pub chain-is : chain_by t.words way' r ≡ chain_of t depth k
  pub bounds : r.bound ≡ names_bound (way_places t.words way' r.names)
  pub below : Below t.used way' r.names

abbrev pub ClimbPromise : Lent → ℕ → EntryKey → MutLent → Climbed → Type 0
ClimbPromise slots used key way r = Climbs (table (before slots) used) key r (after way)
