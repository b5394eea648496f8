-- The way up from a key as a list of slots, the key's own first, and the places of their names.
use Rattle.std.specs.Prelude.{ℕ, zero, suc, ◌+◌, ◌-◌, ◌*◌, ◌/◌, ◌≤◌, ◌<◌, List, [], ◌∷◌, cond, length, get_or, eqb, ltb}
use Rattle.entry_slots.specs.Slots.{stride, slot_name, info_at}
use Rattle.entry_slots.specs.declared.EntryKey.{EntryKey}
use Rattle.entry_slots.specs.declared.NamePlace.{NamePlace}
use Rattle.chain.specs.declared.ResolvedPath.{ResolvedPath}
use Rattle.chain.specs.declared.way.Climbed.{Climbed}
use Rattle.chain.specs.declared.ChainEnd.{ChainEnd}
use Rattle.chain.specs.declared.ChainEnd.TheVariants.{Root, Unknown, Unresolved}
use Rattle.chain.specs.Settings.{levels}
use Rattle.chain.specs.Chain.{Chain, is_root}

-- where the names of the first n slots of a way lie, the last slot's first
unfoldable pub way_places : List ℕ → List ℕ → ℕ → List NamePlace
way_places words way zero = []
way_places words way (suc n) = slot_name words (get_or way n 0) ∷ way_places words way n

-- the most bytes that a backslash and a name take as text: three for each unit of the name. A name that is longer than any slice counts for more than any text has
unfoldable pub step_bound : NamePlace → ℕ
step_bound p = cond (ltb (p.length / 2) 4294967296) (1 + 3 * (p.length / 2)) 1099511627776

unfoldable pub names_bound : List NamePlace → ℕ
names_bound [] = 0
names_bound (p ∷ ps) = step_bound p + names_bound ps

-- what a way of n slots hangs under, where it goes no further: the key above its last slot, or the key asked for where it has none, is unresolved if no level is
-- left, and otherwise the root or unknown
abbrev pub top_key : List ℕ → List ℕ → ℕ → EntryKey → EntryKey
top_key words way n k = cond (eqb n 0) k (info_at words (get_or way (n - 1) 0)).parent

abbrev pub end_under : ℕ → EntryKey → ChainEnd
end_under n k = cond (eqb n levels) (Unresolved k) (cond (is_root k) Root (Unknown k))

unfoldable pub end_by : List ℕ → List ℕ → ℕ → EntryKey → ChainEnd
end_by words way n k = end_under n (top_key words way n k)

-- the chain of a way: its names, and the end that they hang under
abbrev pub chain_by : List ℕ → List ℕ → Climbed → Chain
chain_by words way up = record { places = way_places words way up.names; end = up.end }

abbrev pub resolved_by : Climbed → ResolvedPath
resolved_by up = record { names = up.names; end = up.end }

-- the first n slots of a way are slots of these words
pub record Slots (words way : List ℕ) (n : ℕ) : Type 0 where
  pub short : n ≤ length way
  pub within : (i : ℕ) → i < n → get_or way i 0 * stride + stride ≤ length words

-- and they are below so many
pub record Below (used : ℕ) (way : List ℕ) (n : ℕ) : Type 0 where
  pub near : n ≤ length way
  pub each : (i : ℕ) → i < n → get_or way i 0 < used
