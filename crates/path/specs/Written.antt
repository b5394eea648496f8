-- The outcome of a path with text.
use Rattle.std.specs.Prelude.{ℕ, List, length}
use Rattle.base.specs.Outcome.{Outcome}
use Rattle.entry_slots.specs.Names.{lengths_of}
use Rattle.entry_slots.specs.Table.{Table}
use Rattle.entry_slots.specs.declared.EntryKey.{EntryKey}
pub use Rattle.path.specs.declared.WrittenPath.{WrittenPath}
use Rattle.chain.specs.Chain.{Chain, resolved}
use Rattle.chain.specs.Tracing.{tracing}
use Rattle.path_text.specs.Text.{path_text}
use Rattle.path_text.specs.Decoding.{with_text}

-- the chain of a key, with its text
abbrev pub tracing_with_text : List ℕ → List ℕ → Table → ℕ → EntryKey → ℕ → Outcome Chain
tracing_with_text journal image t depth k room = with_text (path_text journal image) room (tracing (lengths_of journal image) t depth k)

-- what a path with text says: its names and its end, and how many bytes its text takes
abbrev pub written_path : List ℕ → List ℕ → Chain → WrittenPath
written_path journal image c = record { path = resolved c; text = length (path_text journal image c) }
