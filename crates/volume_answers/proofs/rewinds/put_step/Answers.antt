-- A record and the end, each with its words.
use mathlib.Core.Path.{ap, ◌∙◌}
use Rattle.std.specs.Prelude.{Ok}
use Rattle.base.proofs.WordLaws.{row_out}
use Rattle.rewind_records.specs.Turning.{next_outcome}
use Rattle.volume_answers.specs.Rewind.{next_words}
use Rattle.volume_answers.proofs.RewindLaws.{step-out}
use Rattle.volume_answers.proofs.rewinds.put_step.Goals as goal

pub returns-in-Ok-Some : goal.returns-in-Ok-Some
returns-in-Ok-Some g c = step-out g.T.Row.words _ (ap next_outcome (c.in-Ok-Some.is ∙ ap Ok c.in-Ok-Some.field-0-is)) c.state_row.ensures c.row.ensures c.put_rows.ensures

pub returns-in-Ok-None : goal.returns-in-Ok-None
returns-in-Ok-None g c = row_out (next_words g.T.Row.words _) (ap next_outcome (c.in-Ok-None.is ∙ ap Ok c.in-Ok-None.field-0-is)) c.state_row-in-Ok-None.ensures c.put_row.ensures
