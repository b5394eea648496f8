-- A call's step with text, and what it answers.
use Rattle.std.specs.Prelude.{ℕ, List, length}
use Rattle.base.specs.Outcome.{Outcome, refused, answered, map_outcome}
use Rattle.chain.specs.Chain.{resolved}
use Rattle.path_text.specs.Decoding.{with_text}
use Rattle.path.specs.declared.WrittenPath.{WrittenPath}
use Rattle.rewind_records.specs.Turning.{Next, ended, next, map_next}
use Rattle.rewind_steps.specs.Taking.{Step}
use Rattle.rewind_steps.specs.StepText.{record_text, next_text}
use Rattle.rewind.specs.Stepping.{stepped}
use Rattle.rewind.specs.declared.Rewind.{Rewind}

-- a call's step with room for so many bytes of text: 1, 9, 12, 7, 6, and then 8
abbrev pub stepped_with_text : List ℕ → List ℕ → List ℕ → List ℕ → Rewind → ℕ → Outcome (Next Step)
stepped_with_text journal image records words r room = with_text (next_text journal image) room (stepped journal image records words r)

-- what it answers: the names and the end of the parent's chain, and how many bytes the text takes
abbrev pub written_step : List ℕ → List ℕ → Step → WrittenPath
written_step journal image x = record { path = resolved x.chain; text = length (record_text journal image x) }

abbrev pub written_answer : List ℕ → List ℕ → Outcome (Next Step) → Outcome (Next WrittenPath)
written_answer journal image = map_outcome (map_next (written_step journal image))
