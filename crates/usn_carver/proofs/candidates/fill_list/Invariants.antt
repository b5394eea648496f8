-- The invariant: what is written and counted, with the candidates that are still to come, is the whole.
use lib.ListN.{length}
use Rattle.usn_carver.specs.Carve.{events_from, events}
use Rattle.usn_carver.specs.Step.{settings_by}
use Rattle.usn_carver.proofs.FillLaws.{Filling}
use Rattle.usn_carver.proofs.candidates.fill_list.Given as goal

abbrev pub invariant-loop-candidate : goal.invariant-loop-candidate
invariant-loop-candidate l =
    let i = l.candidate-iterator in
    Filling (length l.extract) (events (settings_by l.fn.limits) l.extract) (events_from (settings_by i.limits) i.extract.now i.offset) l.fn.list l.list l.stats
