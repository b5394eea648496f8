-- One step of a run as the code makes it: by what a step with text comes to, what is answered, and what the table and the text then are.
use Rattle.std.specs.Prelude.{ℕ, ◌+◌, ◌≡◌, List, length}
use Rattle.std.proofs.lemmas.List.Edits.{sets}
use Rattle.base.specs.Outcome.{Outcome, refused, answered, map_outcome}
use Rattle.entry_slots.specs.Table.{Table}
use Rattle.chain.specs.Settings.{depth}
use Rattle.chain.specs.Chain.{resolved}
use Rattle.chain.specs.Way.{Slots, way_places}
use Rattle.path_text.specs.Decoding.{with_text}
use Rattle.rewind_records.specs.Turning.{Next, ended, next, map_next}
use Rattle.rewind_steps.specs.Taking.{Step, taken}
use Rattle.rewind_steps.specs.StepText.{record_text, next_text}
use Rattle.additions.specs.declared.entries.RecordEntry.{RecordEntry}
use Rattle.rewind_steps.specs.declared.Told.{Told}

-- a step with text where the next record is known and the tests have passed: 6, and then 8
abbrev pub making : List ℕ → List ℕ → Table → RecordEntry → ℕ → Outcome (Next Step)
making journal image t e room = with_text (next_text journal image) room (taken t depth (next e))

-- what is answered of a step whose text begins at a place of the lent text: where it ends, how many slots are used then, and the parent's path without its
-- text
abbrev pub told_of : List ℕ → List ℕ → ℕ → Step → Told
told_of journal image at x = record { at = at + length (record_text journal image x); used = x.table.used; path = resolved x.chain }

abbrev pub made_of : List ℕ → List ℕ → ℕ → Outcome (Next Step) → Outcome (Next Told)
made_of journal image at = map_outcome (map_next (told_of journal image at))

-- the forward table after it
abbrev pub table_after : Outcome (Next Step) → Table → Table
table_after (refused n) t = t
table_after (answered ended) t = t
table_after (answered (next x)) t = x.table

-- what the lent text holds after it
abbrev pub text_after : List ℕ → List ℕ → ℕ → Outcome (Next Step) → List ℕ → List ℕ
text_after journal image at (refused n) text = text
text_after journal image at (answered ended) text = text
text_after journal image at (answered (next x)) text = sets text at (record_text journal image x)

-- what the lent way holds after it: the slots of the parent's path, where one is told
abbrev pub WayAfter : Outcome (Next Step) → List ℕ → Type 0
WayAfter (refused n) way = Unit
WayAfter (answered ended) way = Unit
WayAfter (answered (next x)) way =
    Slots x.table.words way (length x.chain.places) × (way_places x.table.words way (length x.chain.places) ≡ x.chain.places)
