-- By the power of ten at or below the number.
use mathlib.Core.Path.{sym, ap}
use native.Mathlib.Omega.{arith}
use lib.ListN.{length}
use Rattle.utf16.proofs.DecimalLaws.{decimal-one, digits-at}
use Rattle.utf16.proofs.decimal.decimal_length.Goals as goal

pub returns-in-Some : goal.returns-in-Some
returns-in-Some c = sym (digits-at _ _ c.in-Some.ensures.power_le c.in-Some.ensures.next_power_gt)

pub returns-in-None : goal.returns-in-None
returns-in-None c = let z = c.in-None.ensures.none in sym (ap length (decimal-one c.args.n (omega (arith, z))))
