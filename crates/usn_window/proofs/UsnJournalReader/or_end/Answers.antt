-- Each choice by its test.
use borrow.Author.Tests.{eq-eqb, ne_eqb}
use Rattle.usn_window.proofs.UsnJournalReader.or_end.Goals as goal

pub asking-requires : goal.asking-requires
asking-requires c = c.requires c.if-self.false

pub returns-then-self : goal.returns-then-self
returns-then-self c = rw c.finish.ensures (simp (eq-eqb _ _ c.if-self.true))

pub returns-else-self : goal.returns-else-self
returns-else-self c = rw c.asking.ensures (simp (ne_eqb _ _ c.if-self.false))
