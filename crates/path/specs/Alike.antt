-- What two runs of a call with text have in common: all but the text, and whether it fits.
use Rattle.std.specs.Prelude.{◌≡◌, ◌⊎◌}
use Rattle.base.specs.Outcome.{Outcome, refused, answered}
use Rattle.base.specs.Refusals.{text_full}

-- an outcome with text beside the one without: the same, or 8 where the one without is answered
abbrev pub Beside : {A : Type 0} → Outcome A → Outcome A → Type 0
Beside (refused n) o = o ≡ refused n
Beside (answered a) o = (o ≡ answered a) ⊎ (o ≡ refused text_full)

-- both runs' outcomes beside one that has no text
pub record Alike {A : Type 0} (core o o' : Outcome A) : Type 0 where
  pub first : Beside core o
  pub second : Beside core o'
