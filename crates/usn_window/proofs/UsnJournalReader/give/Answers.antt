-- Each answer by the tests that led to it; the bytes go behind those that are held.
use mathlib.Core.Path.{sym}
use native.Mathlib.Omega.{arith}
use borrow.Author.Tests.{eqb-true, eqb-false}
use Rattle.window_numbers.proofs.NumberLaws.{sound-of, end_of}
use Rattle.usn_window.proofs.CallLaws.{give-refused, give-too-many, give-fits, give-nothing, give-end, give-bytes}
use Rattle.usn_window.proofs.UsnJournalReader.give.Goals as goal

pub returns-in-Err : goal.returns-in-Err
returns-in-Err c = give-refused _ _ _ c.in-Err.ensures

pub wanted-wanted-requires : goal.wanted-wanted-requires
wanted-wanted-requires c = (sound-of _ _ (sym c.in_default.ensures)).fits

pub returns-then-wanted-bytes : goal.returns-then-wanted-bytes
returns-then-wanted-bytes c = give-too-many _ _ _ (sym c.in_default.ensures) c.wanted-wanted.ensures (omega arith)

pub asking-requires : goal.asking-requires
asking-requires c = (sound-of _ _ (sym c.in_default.ensures)).fits

pub returns-then-wanted-eq0 : goal.returns-then-wanted-eq0
returns-then-wanted-eq0 c = give-nothing _ _ _ (sym c.in_default.ensures) c.wanted-wanted.ensures (omega arith) (eqb-true _ _ (sym c.if-is_empty.ensures)) (omega arith) c.asking.ensures

pub returns-then-is_empty : goal.returns-then-is_empty
returns-then-is_empty c = give-end _ _ _ (sym c.in_default.ensures) c.wanted-wanted.ensures (omega arith) (eqb-true _ _ (sym c.if-is_empty.ensures)) c.if-wanted-eq0.false c.finish.ensures

pub put-requires : goal.put-requires
put-requires c = let s = sound-of _ _ (sym c.in_default.ensures) in let k = give-fits c.args.buffer.now c.args.bytes.now _ (sym c.in_default.ensures) c.wanted-wanted.ensures (omega arith) in omega (arith, s.buffer, (end_of _ _ _ s.ends).near)

pub fed-requires : goal.fed-requires
fed-requires c = give-fits c.args.buffer.now c.args.bytes.now _ (sym c.in_default.ensures) c.wanted-wanted.ensures (omega arith)

pub asking-requires-2 : goal.asking-requires-2
asking-requires-2 c = rw c.fed.ensures (omega (arith, give-fits c.args.buffer.now c.args.bytes.now _ (sym c.in_default.ensures) c.wanted-wanted.ensures (omega arith)))

pub returns : goal.returns
returns c = give-bytes _ _ _ (sym c.in_default.ensures) c.wanted-wanted.ensures (omega arith) (eqb-false _ _ (sym c.if-is_empty.ensures)) c.put.ensures c.fed.ensures c.asking-2.ensures
