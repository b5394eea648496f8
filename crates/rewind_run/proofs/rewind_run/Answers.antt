-- By the tests, and by whether there is an index.
use Rattle.rewind_run.proofs.CallLaws.{run-refused, build-asks, run-asks, run-built, plain-asks, run-plain}
use Rattle.rewind_run.proofs.rewind_run.Goals as goal

pub returns-in-Err : goal.returns-in-Err
returns-in-Err c = run-refused _ _ _ _ _ _ _ _ _ c.check.ensures c.in-Err.is

pub build-requires : goal.build-requires
build-requires c =
    let s = c.args in
    build-asks s.journal.now s.image.now s.records.now s.forward.now s.rewind s.heads.now s.nexts.now s.ends.now s.text.now c.check.ensures c.in_default.is c.is_enough.ensures c.if-is_enough.true

pub run-requires : goal.run-requires
run-requires c =
    let s = c.args in
    run-asks s.journal.now s.image.now s.records.now s.forward.now s.rewind s.heads.now s.nexts.now s.ends.now s.text.now c.check.ensures c.in_default.is c.is_enough.ensures c.if-is_enough.true c.build.ensures.heads_after c.build.ensures.nexts_after

pub returns-then-is_enough : goal.returns-then-is_enough
returns-then-is_enough c =
    run-built _ _ _ _ _ _ _ _ _ c.check.ensures c.in_default.is c.is_enough.ensures c.if-is_enough.true c.build.ensures.heads_after c.build.ensures.nexts_after c.run.ensures

pub run-requires-2 : goal.run-requires-2
run-requires-2 c =
    let s = c.args in
    plain-asks s.journal.now s.image.now s.records.now s.forward.now s.rewind s.heads.now s.nexts.now s.ends.now s.text.now c.check.ensures c.in_default.is c.is_enough.ensures c.if-is_enough.false

pub returns : goal.returns
returns c =
    run-plain _ _ _ _ _ _ _ _ _ c.check.ensures c.in_default.is c.is_enough.ensures c.if-is_enough.false c.run-2.ensures
