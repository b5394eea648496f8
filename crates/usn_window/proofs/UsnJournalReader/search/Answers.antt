use Rattle.usn_window.proofs.SearchLaws.{searching-start, searching-done, searching-again, searching-less, searching-passed, passed-less}
use Rattle.usn_window.proofs.UsnJournalReader.search.Goals as goal

pub loop-r-init : goal.loop-r-init
loop-r-init c = searching-start _ c.requires

pub turn-requires : goal.turn-requires
turn-requires c = c.loop-r.invariant.ready

pub returns-in-Done : goal.returns-in-Done
returns-in-Done c = searching-done c.loop-r.invariant c.turn.ensures c.in-Done.is

pub past_zeros-w-requires : goal.past_zeros-w-requires
past_zeros-w-requires c = (searching-again c.loop-r.invariant c.turn.ensures c.in-Again.is).ready

pub loop-r-smaller : goal.loop-r-smaller
loop-r-smaller c = passed-less c.past_zeros-w.ensures (searching-less c.loop-r.invariant c.turn.ensures c.in-Again.is)

pub loop-r-preserved : goal.loop-r-preserved
loop-r-preserved c = searching-passed (searching-again c.loop-r.invariant c.turn.ensures c.in-Again.is) c.past_zeros-w.ensures
