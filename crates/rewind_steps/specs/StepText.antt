-- A step with text: the parent's path, a backslash and the record's own name. This layer alone knows the bytes of journal and image, and how
-- much room there is for text.
use Rattle.std.specs.Prelude.{ℕ, List, [], ◌++◌}
use Rattle.base.specs.Outcome.{Outcome, answered}
use Rattle.path_text.specs.Text.{path_text, step_text}
use Rattle.path_text.specs.Decoding.{with_text}
use Rattle.entry_slots.specs.Table.{Table}
use Rattle.entry_slots.specs.declared.EntryKey.{EntryKey}
use Rattle.entry_slots.specs.declared.NamePlace.{NamePlace}
use Rattle.chain.specs.Settings.{depth}
use Rattle.rewind_records.specs.Turning.{Next, ended, next}
use Rattle.rewind_steps.specs.Taking.{Step, step_with}

-- the text of a step; where no record is left there is none
unfoldable pub record_text : List ℕ → List ℕ → Step → List ℕ
record_text journal image x = path_text journal image x.chain ++ step_text journal image x.name

abbrev pub next_text : List ℕ → List ℕ → Next Step → List ℕ
next_text journal image ended = []
next_text journal image (next x) = record_text journal image x

-- the part of a step after its record is in the table: its text
abbrev pub step_with_text : List ℕ → List ℕ → Table → EntryKey → NamePlace → ℕ → Outcome (Next Step)
step_with_text journal image u parent name room = with_text (next_text journal image) room (answered (next (step_with depth parent name u)))
