use Rattle.utf16.proofs.NameLaws.{putting-point, ascii-room, putting-ascii, putting-end}
use Rattle.utf16.proofs.name.put_units.Goals as goal

pub bounds-text-to : goal.bounds-text-to
bounds-text-to c = ascii-room c.loop-left.invariant c.le_u16-unit.ensures c.loop-left-test.true c.if-unit-lt128.true c.requires.units_in_bounds_2

pub loop-left-preserved-then-unit-lt128 : goal.loop-left-preserved-then-unit-lt128
loop-left-preserved-then-unit-lt128 c = putting-ascii c.loop-left.invariant c.le_u16-unit.ensures c.loop-left-test.true c.if-unit-lt128.true

pub loop-left-preserved : goal.loop-left-preserved
loop-left-preserved c = putting-point c.loop-left.invariant c.first_code_point-first.ensures c.put_code_point-to.ensures

pub returns : goal.returns
returns c = putting-end c.loop-left.invariant c.loop-left-test.false
