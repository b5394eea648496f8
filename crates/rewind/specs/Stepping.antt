-- A step of a rewind: the next record goes into the forward table, and its chain is its parent's in that table. Text has no part in it.
use Rattle.std.specs.Prelude.{ℕ, ◌+◌, List}
use Rattle.base.specs.Outcome.{Outcome, refused, answered, map_outcome, and_then}
use Rattle.entry_slots.specs.Table.{Table, table}
use Rattle.chain.specs.Settings.{depth}
use Rattle.chain.specs.Chain.{resolved}
use Rattle.chain.specs.Tracing.{with_places}
use Rattle.chain.specs.declared.ResolvedPath.{ResolvedPath}
use Rattle.rewind_records.specs.Environment.{Environment, environment_of}
use Rattle.rewind_records.specs.Turning.{Next, ended, next, map_next, turning}
use Rattle.rewind_steps.specs.Taking.{Step, taken}
use Rattle.rewind.specs.declared.Rewind.{Rewind}

-- a step over a forward table, with so many records behind it
abbrev pub stepping : Environment → Table → ℕ → ℕ → Outcome (Next Step)
stepping env t depth position = and_then (turning env t position) (taken t depth)

-- the state of a rewind by its two numbers
abbrev pub state_of : ℕ → ℕ → Rewind
state_of used position = record { used = used; position = position }

-- the forward table of a state
abbrev pub forward_table : List ℕ → Rewind → Table
forward_table words r = table words r.used

-- a call's: over a journal, an image, a list of records, and the words of the forward table with the state of the rewind
abbrev pub stepped : List ℕ → List ℕ → List ℕ → List ℕ → Rewind → Outcome (Next Step)
stepped journal image records words r = stepping (environment_of journal image records) (forward_table words r) depth r.position

-- the state after a step: one record on, with the slots that are used then; as it was where the step is refused or no record is left
abbrev pub rewind_after : Outcome (Next Step) → Rewind → Rewind
rewind_after (refused n) r = r
rewind_after (answered ended) r = r
rewind_after (answered (next x)) r = record { used = x.table.used; position = r.position + 1 }

-- what the lent words of the forward table, and the lent chain list, hold after it
abbrev pub words_after : Outcome (Next Step) → List ℕ → List ℕ
words_after (refused n) s = s
words_after (answered ended) s = s
words_after (answered (next x)) s = x.table.words

abbrev pub chain_after : Outcome (Next Step) → List ℕ → List ℕ
chain_after (refused n) l = l
chain_after (answered ended) l = l
chain_after (answered (next x)) l = with_places l x.chain.places

-- what it answers: the names and the end of the parent's chain
abbrev pub step_answer : Outcome (Next Step) → Outcome (Next ResolvedPath)
step_answer = map_outcome (map_next (λ (x : Step). resolved x.chain))
