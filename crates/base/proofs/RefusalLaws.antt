-- Refusals: each has a number above 0, and a question mark hands on the one that came. Assumes nothing.
use mathlib.Core.Path.{◌≡◌, ap}
use native.Mathlib.Omega.{arith}
use Rattle.std.specs.Prelude.{Result, Ok, Err, IsErrAnd}
use Rattle.base.specs.Outcome.{Outcome, refused, outcome}
use Rattle.base.specs.Refusals.{number_of}
use Rattle.base.specs.declared.refusal.Refusal.{Refusal}
use Rattle.base.specs.declared.refusal.Refusal.TheVariants.{AboveDomain, ShortSlice, BadLength, LengthPastSlice, ListFull, TableFull, NameOutside, TextFull, BadState, TooManyBytes, BadBuffer, NotARecord}

pub some_number : (r : Refusal) → number_of r ≡ 0 → ⊥
some_number AboveDomain e = omega (arith, e)
some_number ShortSlice e = omega (arith, e)
some_number BadLength e = omega (arith, e)
some_number LengthPastSlice e = omega (arith, e)
some_number ListFull e = omega (arith, e)
some_number TableFull e = omega (arith, e)
some_number NameOutside e = omega (arith, e)
some_number TextFull e = omega (arith, e)
some_number BadState e = omega (arith, e)
some_number TooManyBytes e = omega (arith, e)
some_number BadBuffer e = omega (arith, e)
some_number NotARecord e = omega (arith, e)

pub handed-on : {A : Type 0} {r : Refusal} (x : Result A Refusal) → IsErrAnd x (λ y. y ≡ r) → x ≡ Err r
handed-on (Ok a) h = absurd h
handed-on (Err y) h = ap Err h
