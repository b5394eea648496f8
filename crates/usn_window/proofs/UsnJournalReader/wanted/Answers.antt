-- By the flag.
use Rattle.usn_window.proofs.WindowLaws.{wants-none, wants-rest}
use Rattle.usn_window.proofs.UsnJournalReader.wanted.Goals as goal

pub returns-then-self : goal.returns-then-self
returns-then-self c = wants-none _ c.if-self.true

pub returns-else-self : goal.returns-else-self
returns-else-self c = wants-rest _ c.if-self.false
