-- Each answer by the tests that led to it.
use mathlib.Core.Path.{sym}
use native.Mathlib.Omega.{arith}
use Rattle.window_numbers.proofs.NumberLaws.{sound-of}
use Rattle.usn_window.proofs.WindowLaws.{ready_of}
use Rattle.usn_window.proofs.CallLaws.{next-refused, next-ended, next-asks, next-searches}
use Rattle.usn_window.proofs.UsnJournalReader.next.Goals as goal

pub returns-in-Err : goal.returns-in-Err
returns-in-Err c = next-refused _ _ _ c.in-Err.ensures

pub returns-then-self : goal.returns-then-self
returns-then-self c = next-ended _ _ _ (sym c.in_default.ensures) c.if-self.true

pub wanted-requires : goal.wanted-requires
wanted-requires c = (sound-of _ _ (sym c.in_default.ensures)).fits

pub asking-requires : goal.asking-requires
asking-requires c = (sound-of _ _ (sym c.in_default.ensures)).fits

pub returns-then-wanted-ne0 : goal.returns-then-wanted-ne0
returns-then-wanted-ne0 c = next-asks _ _ _ (sym c.in_default.ensures) c.if-self.false c.wanted.ensures c.if-wanted-ne0.true c.asking.ensures

pub search-requires : goal.search-requires
search-requires c = ready_of _ (sound-of _ _ (sym c.in_default.ensures))

pub returns : goal.returns
returns c = next-searches _ _ _ (sym c.in_default.ensures) c.if-self.false c.wanted.ensures (omega arith) c.search.ensures
