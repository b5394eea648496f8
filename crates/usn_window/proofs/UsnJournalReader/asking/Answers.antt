-- The answer by what the window wants.
use Rattle.usn_window.proofs.UsnJournalReader.asking.Goals as goal

pub returns : goal.returns
returns c = rw c.wanted.ensures
