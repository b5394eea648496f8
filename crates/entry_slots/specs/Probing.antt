-- A walk along the links of a hash: what it comes to, and how a new slot is linked behind the last one.
use Rattle.std.specs.Prelude.{ℕ, zero, suc, ◌+◌, ◌-◌, ◌<◌, ◌≡◌, List, cond, set, eqb, Some, None}
use Rattle.entry_slots.specs.Slots.{key_at}
use Rattle.entry_slots.specs.Table.{Table, find}
use Rattle.entry_slots.specs.declared.EntryKey.{EntryKey}
use Rattle.entry_slots.specs.Index.{hash, first_link, head_of}
use Rattle.entry_slots.specs.declared.links.Probe.{Probe}
use Rattle.entry_slots.specs.declared.links.Probe.TheVariants.{Hit, Last}

-- the link that comes after a link of the hash h; after none comes the head
unfoldable pub following : ℕ → Table → ℕ → ℕ → ℕ
following m t h zero = head_of m t h
following m t h (suc i) = first_link m t.words h (i + 1) (t.used - (i + 1))

-- a link to a used slot whose key has the hash h, or none
unfoldable pub LinkOf : ℕ → Table → ℕ → ℕ → Type 0
LinkOf m t h zero = Unit
LinkOf m t h (suc i) = (i < t.used) × (hash m (key_at t.words i) ≡ h)

-- the last link of the hash h, or none where no key has it
pub record LastOf (m : ℕ) (t : Table) (h link : ℕ) : Type 0 where
  pub is : LinkOf m t h link
  pub none : following m t h link ≡ 0

-- what a walk along the links of a key's hash says: the slot of the key, or that there is none, and the last link where there are heads
unfoldable pub Probed : ℕ → Table → EntryKey → Probe → Type 0
Probed m t k (Hit i) = find t k ≡ Some i
Probed m t k (Last l) = (find t k ≡ None) × (0 < m → LastOf m t (hash m k) l)

-- the slot that an entry under the key goes to then: that of the key, or the first that is not used
abbrev pub slot_by : ℕ → Probe → ℕ
slot_by used (Hit i) = i
slot_by used (Last l) = used

-- heads and nexts with a link put behind the last one of the hash h, or first where there is none
unfoldable pub heads_linked : List ℕ → ℕ → ℕ → ℕ → List ℕ
heads_linked heads h last link = cond (eqb last 0) (set heads h link) heads

unfoldable pub nexts_linked : List ℕ → ℕ → ℕ → List ℕ
nexts_linked nexts last link = cond (eqb last 0) nexts (set nexts (last - 1) link)
