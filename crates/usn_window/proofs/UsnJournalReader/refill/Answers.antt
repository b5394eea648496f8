-- The end by its own equation.
use Rattle.usn_window.proofs.UsnJournalReader.refill.Goals as goal

pub returns : goal.returns
returns c = rw c.window_end.ensures
