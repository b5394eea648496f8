-- The chain of a key: the names from the top down, and what they hang under. Of journal and image it knows nothing.
use Rattle.std.specs.Prelude.{ℕ, zero, suc, ◌+◌, List, [], ◌∷◌, ◌++◌, Bool, cond, length, eqb, Option, Some, None}
use Rattle.base.specs.Lists.{flatten}
use Rattle.entry_slots.specs.Table.{Table, Lookup, unknown, entered, lookup, find}
use Rattle.entry_slots.specs.declared.EntryKey.{EntryKey}
use Rattle.entry_slots.specs.declared.NamePlace.{NamePlace}
use Rattle.chain.specs.declared.ChainEnd.{ChainEnd}
use Rattle.chain.specs.declared.ChainEnd.TheVariants.{Root, Unknown, Unresolved}
use Rattle.chain.specs.declared.ResolvedPath.{ResolvedPath}
use Rattle.chain.specs.declared.steps.Way.{Way}
use Rattle.chain.specs.declared.steps.Way.TheVariants.{End, Slot}

-- the places of the names, the top one first, and the end that they hang under
pub record Chain : Type 0 where
  pub places : List NamePlace
  pub end : ChainEnd

-- an end alone, and a chain with one more name below it
abbrev pub bare : ChainEnd → Chain
bare e = record { places = []; end = e }

abbrev pub under : Chain → NamePlace → Chain
under c p = record { places = c.places ++ (p ∷ []); end = c.end }

-- the root is entry 5 of any sequence
unfoldable pub is_root : EntryKey → Bool
is_root k = eqb k.entry 5

-- by what the table says of a key: its name hangs under its parent's chain, or the key is the end
abbrev pub linked : EntryKey → (EntryKey → Chain) → Lookup → Chain
linked k above (entered e) = under (above e.parent) e.name
linked k above unknown = bare (Unknown k)

-- the chain of a key with so many levels left: the depth is tested first, then the root, then the table
unfoldable pub chain : Table → ℕ → EntryKey → Chain
chain t zero k = bare (Unresolved k)
chain t (suc n) k = cond (is_root k) (bare Root) (linked k (chain t n) (lookup t k))

-- the chain of the key that is asked for, whose parent has as many levels left as the depth
abbrev pub chain_of : Table → ℕ → EntryKey → Chain
chain_of t depth k = chain t (depth + 1) k

-- how many names it has, and its end
abbrev pub resolved : Chain → ResolvedPath
resolved c = record { names = length c.places; end = c.end }

-- a place as three words, and those of all places
abbrev pub source_words : NamePlace → List ℕ
source_words p = p.source ∷ p.offset ∷ p.length ∷ []

abbrev pub chain_words : List NamePlace → List ℕ
chain_words ps = flatten source_words ps

-- the first step of that chain: it ends here, or goes on from the slot that the key stands in
abbrev pub way_found : EntryKey → Option ℕ → Way
way_found k (Some i) = Slot i
way_found k None = End (Unknown k)

unfoldable pub way_of : Table → ℕ → EntryKey → Way
way_of t n k = cond (eqb n 0) (End (Unresolved k)) (cond (is_root k) (End Root) (way_found k (find t k)))
