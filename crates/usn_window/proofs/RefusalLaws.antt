-- The refusals and their numbers. Assumes nothing.
use mathlib.Core.List.{[], ◌∷◌}
use mathlib.Core.Path.{◌≡◌, refl}
use native.Mathlib.Omega.{arith}
use Rattle.base.specs.Lists.{All}
use Rattle.base.specs.Refusals.{number_of}
use Rattle.base.specs.declared.refusal.Refusal.{Refusal}
use Rattle.base.specs.declared.refusal.Refusal.TheVariants.{AboveDomain, ShortSlice, BadLength, LengthPastSlice, ListFull, TableFull, NameOutside, TextFull, BadState, TooManyBytes, BadBuffer, NotARecord}
use Rattle.usn_window.specs.Answers.{refused_by}

-- a refusal is the one of its number
pub refused_again : (r : Refusal) → refused_by (number_of r) ≡ r
unfolding refused_by
refused_again AboveDomain = refl
refused_again ShortSlice = refl
refused_again BadLength = refl
refused_again LengthPastSlice = refl
refused_again ListFull = refl
refused_again TableFull = refl
refused_again NameOutside = refl
refused_again TextFull = refl
refused_again BadState = refl
refused_again TooManyBytes = refl
refused_again BadBuffer = refl
refused_again NotARecord = refl

-- the other way round, of each number from 1 to 12
pub numbers_again : All (λ n. number_of (refused_by n) ≡ n) (1 ∷ 2 ∷ 3 ∷ 4 ∷ 5 ∷ 6 ∷ 7 ∷ 8 ∷ 9 ∷ 10 ∷ 11 ∷ 12 ∷ [])
unfolding refused_by
numbers_again = (refl, (refl, (refl, (refl, (refl, (refl, (refl, (refl, (refl, (refl, (refl, (refl, tt))))))))))))
