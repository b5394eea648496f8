-- By the tests, then by the room of either table, and then all records are added and the used slots copied.
use mathlib.Core.Path.{ap}
use native.Mathlib.Omega.{arith}
use lib.ListN.{length, length-take}
use Rattle.base.specs.Outcome.{outcome}
use Rattle.base.proofs.RefusalLaws.{handed-on}
use Rattle.entry_slots.specs.Table.{table}
use Rattle.additions.proofs.CountLaws.{adding-room}
use Rattle.entry_table.proofs.SeedLaws.{heads-long, nexts-long, index-again}
use Rattle.additions.specs.Walking.{walked_back}
use Rattle.rewind.proofs.StartLaws.{start-refused, start_fits, first-full, first-room, forward-full, starts, start-never, copy-room, copied-room, start-begun}
use Rattle.rewind.proofs.BeginLaws.{refused-begins, begun-begins}
use Rattle.rewind.proofs.start.begin.Goals as goal

pub returns-in_err-check : goal.returns-in_err-check
returns-in_err-check c = rw (handed-on _ c.from_residual.ensures.1) (refused-begins _ _ _ _ _ _ _ (start-refused _ _ _ _ _ c.check.ensures c.in_err-check.was))

pub records_fit-requires : goal.records_fit-requires
records_fit-requires c =
    let s = c.args in
    omega (arith, start_fits s.journal.now s.image.now s.records.now (table s.slots.now s.used) s.forward.now c.check.ensures c.in_ok-check.was)

pub returns-then-not-records_fit : goal.returns-then-not-records_fit
returns-then-not-records_fit c =
    refused-begins _ _ _ _ _ _ _ (first-full _ _ _ _ _ c.check.ensures c.in_ok-check.was c.records_fit.ensures c.if-not-records_fit.true)

pub returns-then-not-records_fit-2 : goal.returns-then-not-records_fit-2
returns-then-not-records_fit-2 c =
    refused-begins _ _ _ _ _ _ _ (forward-full _ _ _ _ _ c.check.ensures c.in_ok-check.was c.records_fit.ensures c.if-not-records_fit.false c.records_fit-2.ensures c.if-not-records_fit-2.true)

pub add_backward-requires : goal.add_backward-requires
add_backward-requires c =
    let s = c.args in
    let long-heads = heads-long (length s.heads.now) (table s.slots.now s.used) s.nexts.now c.build.ensures.heads_after c.build.ensures.nexts_after in
    let long-nexts = nexts-long (length s.heads.now) (table s.slots.now s.used) s.nexts.now c.build.ensures.heads_after c.build.ensures.nexts_after in
    record {
      records_bound = first-room s.journal.now s.image.now s.records.now (table s.slots.now s.used) s.forward.now c.check.ensures c.in_ok-check.was c.records_fit.ensures c.if-not-records_fit.false;
      indexed = (
        index-again (length s.heads.now) (table s.slots.now s.used) s.nexts.now c.build.ensures.heads_after c.build.ensures.nexts_after,
        λ h. let g = c.requires (omega (arith, long-heads)) in omega (arith, long-nexts),
      );
    }

pub returns-in_err-stored : goal.returns-in_err-stored
returns-in_err-stored c =
    let s = c.args in
    absurd (start-never s.journal.now s.image.now s.records.now (table s.slots.now s.used) s.forward.now c.check.ensures c.in_ok-check.was c.records_fit.ensures c.if-not-records_fit.false c.records_fit-2.ensures c.if-not-records_fit-2.false c.add_backward.ensures.store.answer (ap outcome c.in_err-stored.was))

pub overflow_mul-stored : goal.overflow_mul-stored
overflow_mul-stored c =
    let s = c.args in
    omega (arith, copy-room s.journal.now s.image.now s.records.now (table s.slots.now s.used) s.forward.now c.check.ensures c.in_ok-check.was c.records_fit.ensures c.if-not-records_fit.false c.records_fit-2.ensures c.if-not-records_fit-2.false c.add_backward.ensures.store.answer (ap outcome c.in_ok-stored.was) c.add_backward.ensures.store.slots-are, c.well_formed)

pub slice_bounds-put-end : goal.slice_bounds-put-end
slice_bounds-put-end c =
    let s = c.args in
    omega (arith, copied-room s.journal.now s.image.now s.records.now (table s.slots.now s.used) s.forward.now c.check.ensures c.in_ok-check.was c.records_fit.ensures c.if-not-records_fit.false c.records_fit-2.ensures c.if-not-records_fit-2.false c.add_backward.ensures.store.answer (ap outcome c.in_ok-stored.was) c.add_backward.ensures.store.slots-are)

pub slice_bounds-put-end-2 : goal.slice_bounds-put-end-2
slice_bounds-put-end-2 c =
    let s = c.args in
    simp length-take (omega (arith, copied-room s.journal.now s.image.now s.records.now (table s.slots.now s.used) s.forward.now c.check.ensures c.in_ok-check.was c.records_fit.ensures c.if-not-records_fit.false c.records_fit-2.ensures c.if-not-records_fit-2.false c.add_backward.ensures.store.answer (ap outcome c.in_ok-stored.was) c.add_backward.ensures.store.slots-are))

pub put-requires : goal.put-requires
put-requires c =
    let s = c.args in
    simp length-take (omega (arith, copy-room s.journal.now s.image.now s.records.now (table s.slots.now s.used) s.forward.now c.check.ensures c.in_ok-check.was c.records_fit.ensures c.if-not-records_fit.false c.records_fit-2.ensures c.if-not-records_fit-2.false c.add_backward.ensures.store.answer (ap outcome c.in_ok-stored.was) c.add_backward.ensures.store.slots-are))

pub returns : goal.returns
returns c =
    let s = c.args in
    begun-begins s.journal.now s.image.now s.records.now (table s.slots.now s.used) s.forward.now s.heads.now s.nexts.now (starts s.journal.now s.image.now s.records.now (table s.slots.now s.used) s.forward.now c.check.ensures c.in_ok-check.was c.records_fit.ensures c.if-not-records_fit.false c.records_fit-2.ensures c.if-not-records_fit-2.false)
    c.build.ensures.heads_after c.build.ensures.nexts_after (adding-room (table s.slots.now s.used) (walked_back s.journal.now s.records.now) (first-room s.journal.now s.image.now s.records.now (table s.slots.now s.used) s.forward.now c.check.ensures c.in_ok-check.was c.records_fit.ensures c.if-not-records_fit.false))
    c.add_backward.ensures.heads-are c.add_backward.ensures.nexts-are (start-begun s.journal.now s.image.now s.records.now (table s.slots.now s.used) s.forward.now c.check.ensures c.in_ok-check.was c.records_fit.ensures c.if-not-records_fit.false c.records_fit-2.ensures c.if-not-records_fit-2.false c.add_backward.ensures.store.answer (ap outcome c.in_ok-stored.was) c.add_backward.ensures.store.slots-are c.put.ensures)
