-- What becomes of the record that is next: it goes into the forward table, and its chain is its parent's in that table. Text has no part in it.
use Rattle.std.specs.Prelude.{ℕ, [], ◌∷◌}
use Rattle.base.specs.Outcome.{Outcome, answered, map_outcome}
use Rattle.entry_slots.specs.Table.{Table}
use Rattle.additions.specs.Storing.{adding}
use Rattle.entry_slots.specs.declared.EntryKey.{EntryKey}
use Rattle.entry_slots.specs.declared.NamePlace.{NamePlace}
use Rattle.chain.specs.Settings.{depth}
use Rattle.chain.specs.Chain.{Chain, chain_of}
use Rattle.additions.specs.Entries.{forward}
use Rattle.rewind_records.specs.Turning.{Next, ended, next}
use Rattle.additions.specs.declared.entries.RecordEntry.{RecordEntry}

-- what becomes of a record: the forward table with it, its parent's chain there, and where its own name lies
pub record Step : Type 0 where
  pub table : Table
  pub chain : Chain
  pub name : NamePlace

abbrev pub step_with : ℕ → EntryKey → NamePlace → Table → Step
step_with depth parent name u = record { table = u; chain = chain_of u depth parent; name = name }

abbrev pub step_of : ℕ → RecordEntry → Table → Step
step_of depth e u = step_with depth e.info.parent e.info.name u

-- 6: its key is new and no slot is left
abbrev pub taken : Table → ℕ → Next RecordEntry → Outcome (Next Step)
taken t depth ended = answered ended
taken t depth (next e) = map_outcome (λ u. next (step_of depth e u)) (adding t (forward e ∷ []))
