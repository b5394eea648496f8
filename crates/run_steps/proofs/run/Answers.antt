-- By what each step answers.
use mathlib.Core.Path.{refl, sym, ap, ◌∙◌}
use native.Mathlib.Omega.{arith}
use Rattle.std.specs.Prelude.{Ok}
use Rattle.run_steps.proofs.RunLaws.{going_start, going-asks, going-heads, going-nexts, going-room, going-all, going_end, going-refused, going-made, going-near}
use Rattle.run_steps.proofs.run.Goals as goal

pub run_step-requires : goal.run_step-requires
run_step-requires c =
    let s = c.args in
    record { run_asks = going-asks s.journal.now s.image.now s.records.now s.forward.now s.rewind s.heads.now s.nexts.now s.ends.now s.text.now c.loop-i.invariant.0; levels_in_bounds = (omega (arith, c.loop-i.invariant.1), going-room s.journal.now s.image.now s.records.now s.forward.now s.rewind s.heads.now s.nexts.now s.ends.now s.text.now c.loop-i.invariant.0) }

pub loop-i-preserved : goal.loop-i-preserved
loop-i-preserved c =
    let s = c.args in
    (going-made s.journal.now s.image.now s.records.now s.forward.now s.rewind s.heads.now s.nexts.now s.ends.now s.text.now c.loop-i.invariant.0 (omega (arith, c.loop-i.invariant.0.ends-long)) (c.in-Ok-Some.is ∙ ap Ok c.in-Ok-Some.field-0-is) c.run_step.ensures, c.run_step.auto.way ∙ c.loop-i.invariant.1)

pub overflow_add-position : goal.overflow_add-position
overflow_add-position c =
    let s = c.args in
    omega (arith, going-near s.journal.now s.image.now s.records.now s.forward.now s.rewind s.heads.now s.nexts.now s.ends.now s.text.now c.loop-i.invariant.0 (omega (arith, c.loop-i.invariant.0.ends-long)) (c.in-Ok-Some.is ∙ ap Ok c.in-Ok-Some.field-0-is) c.run_step.ensures.answer, c.well_formed)

pub returns-in-Ok-None : goal.returns-in-Ok-None
returns-in-Ok-None c = going_end _ _ _ _ _ _ _ _ _ c.loop-i.invariant.0 (omega (arith, c.loop-i.invariant.0.ends-long)) (c.in-Ok-None.is ∙ ap Ok c.in-Ok-None.field-0-is) c.run_step.ensures

pub returns-in-Err : goal.returns-in-Err
returns-in-Err c = going-refused _ _ _ _ _ _ _ _ _ c.loop-i.invariant.0 (omega (arith, c.loop-i.invariant.0.ends-long)) c.in-Err.is c.run_step.ensures

pub returns : goal.returns
returns c = going-all _ _ _ _ _ _ _ _ _ c.loop-i.invariant.0 (omega (arith, c.loop-i.invariant.0.ends-long)) refl
