-- Paths and the decoding of stored names as C calls.
use Rattle.std.specs.Prelude.{ℕ, List, length}
use Rattle.base.specs.Outcome.{Outcome}
use Rattle.base.specs.Words.{after_domain}
use Rattle.entry_slots.specs.Names.{lengths_of}
use Rattle.entry_slots.specs.Table.{table}
use Rattle.entry_slots.specs.declared.EntryKey.{EntryKey}
use Rattle.entry_slots.specs.declared.NamePlace.{NamePlace}
use Rattle.chain.specs.Settings.{depth}
use Rattle.chain.specs.Chain.{Chain}
use Rattle.chain.specs.Tracing.{tracing}
use Rattle.path_text.specs.Decoding.{place_decoding}
use Rattle.path.specs.Written.{tracing_with_text}

-- a path with its text, with lent words for the answer
abbrev pub resolve_call : List ℕ → List ℕ → List ℕ → ℕ → EntryKey → List ℕ → List ℕ → Outcome Chain
resolve_call journal image slots used key text out = after_domain 5 (length out) (tracing_with_text journal image (table slots used) depth key (length text))

-- and without it
abbrev pub chain_call : List ℕ → List ℕ → List ℕ → ℕ → EntryKey → List ℕ → Outcome Chain
chain_call journal image slots used key out = after_domain 4 (length out) (tracing (lengths_of journal image) (table slots used) depth key)

-- the text of the name at a place
abbrev pub place_call : List ℕ → List ℕ → NamePlace → List ℕ → List ℕ → Outcome NamePlace
place_call journal image place text out = after_domain 1 (length out) (place_decoding journal image place (length text))
