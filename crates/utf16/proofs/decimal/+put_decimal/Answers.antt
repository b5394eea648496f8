-- The digits of the tenth are written first, and then the last digit.
use mathlib.Core.Path.{refl, ap}
use native.Mathlib.Omega.{arith}
use lib.ListN.{length}
use Rattle.utf16.proofs.PutLaws.{put_as}
use Rattle.utf16.proofs.DecimalLaws.{decimal-one, decimal-next, last-room, put_last}
use Rattle.utf16.proofs.decimal.+put_decimal.Goals as goal

pub bounds-text-at : goal.bounds-text-at
bounds-text-at t c = omega (arith, ap length (decimal-one _ c.if-n-lt10.true))

pub returns-then-n-lt10 : goal.returns-then-n-lt10
returns-then-n-lt10 t c = put_as _ _ (decimal-one _ c.if-n-lt10.true) (record { value = refl; text_after = refl })

pub put_decimal-last-requires : goal.put_decimal-last-requires
put_decimal-last-requires t c = (omega arith, omega (arith, decimal-next c.args.n c.if-n-lt10.false))

pub bounds-text-last : goal.bounds-text-last
bounds-text-last t c = last-room _ _ _ c.if-n-lt10.false c.put_decimal-last.ensures c.requires

pub overflow_add-result-2 : goal.overflow_add-result-2
overflow_add-result-2 t c = omega (arith, last-room _ _ _ c.if-n-lt10.false c.put_decimal-last.ensures c.requires)

pub returns : goal.returns
returns t c = put_last _ _ _ c.if-n-lt10.false c.put_decimal-last.ensures
