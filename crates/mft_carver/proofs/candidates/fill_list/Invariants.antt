-- The invariant: what is written and counted, with the candidates that are still to come, is the whole.
use lib.ListN.{length}
use Rattle.mft_carver.specs.Carve.{events_from, events}
use Rattle.mft_carver.proofs.FillLaws.{Filling}
use Rattle.mft_carver.proofs.candidates.fill_list.Given as goal

abbrev pub invariant-loop-candidate : goal.invariant-loop-candidate
invariant-loop-candidate l =
    let i = l.candidate-iterator in
    let s = l.fn.image.bytes.now in
    Filling (length s) (events l.fn.image.settings s) (events_from i.image.settings i.image.bytes.now i.offset) l.fn.list l.list l.stats
