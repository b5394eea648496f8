-- Rewinds as C calls.
use Rattle.std.specs.Prelude.{ℕ, List, length}
use Rattle.base.specs.Outcome.{Outcome, answered}
use Rattle.base.specs.Words.{after_domain}
use Rattle.entry_slots.specs.Table.{table}
use Rattle.chain.specs.Chain.{resolved}
use Rattle.rewind.specs.Starting.{Tables, started, begun}
use Rattle.rewind_records.specs.Turning.{Next}
use Rattle.rewind_steps.specs.Taking.{Step}
use Rattle.rewind.specs.Stepping.{stepped, rewind_after}
use Rattle.rewind.specs.Written.{stepped_with_text, written_step}
use Rattle.rewind.specs.declared.Rewind.{Rewind}
use Rattle.chain.specs.Words.{resolved_words}
use Rattle.path.specs.Words.{written_words}
use Rattle.rewind.specs.Words.{rewind_words}
use Rattle.volume_answers.specs.Rewind.{next_words}

-- a state, from its numbers
abbrev pub rewind_of : ℕ → ℕ → Rewind
rewind_of used position = record { used = used; position = position }

-- a start, with lent words for both tables and for the state
abbrev pub start_call : List ℕ → List ℕ → List ℕ → List ℕ → ℕ → List ℕ → List ℕ → Outcome Tables
start_call journal image records slots used forward out = after_domain 2 (length out) (started journal image records (table slots used) forward)

abbrev pub start_words : Tables → List ℕ
start_words ts = rewind_words (begun ts)

-- the answer of a step from a state as words
abbrev pub step_words : (Step → List ℕ) → Rewind → Next Step → List ℕ
step_words words r x = next_words words (rewind_after (answered x) r) x

-- what a record tells without text, and with it
abbrev pub chain_step_words : Step → List ℕ
chain_step_words x = resolved_words (resolved x.chain)

abbrev pub path_step_words : List ℕ → List ℕ → Step → List ℕ
path_step_words journal image x = written_words (written_step journal image x)

-- a step without text, from a state, with lent words for the forward table and for the answer
abbrev pub chain_step_call : List ℕ → List ℕ → List ℕ → Rewind → List ℕ → List ℕ → Outcome (Next Step)
chain_step_call journal image records r forward out = after_domain 7 (length out) (stepped journal image records forward r)

-- and with it
abbrev pub path_step_call : List ℕ → List ℕ → List ℕ → Rewind → List ℕ → List ℕ → List ℕ → Outcome (Next Step)
path_step_call journal image records r forward text out = after_domain 8 (length out) (stepped_with_text journal image records forward r (length text))
