use mathlib.Core.Path.{refl, ◌∙◌}
use native.Mathlib.Omega.{arith}
use Rattle.entry_slots.proofs.IndexLaws.{links-index, no-heads, no-nexts}
use Rattle.entry_slots.proofs.BuildLaws.{length-zeros, built-none, built-below, built-more, built-all}
use Rattle.entry_slots.proofs.links.build.Goals as goal

pub loop-i-init : goal.loop-i-init
loop-i-init c = built-none _ (omega (arith, c.if-m-eq0.false)) (c.requires.1 (omega (arith, c.if-m-eq0.false))) (c.fill.ensures.after (λ y h. h)) (c.fill-2.ensures.after (λ y h. h))

pub offset_bounds-heads-h : goal.offset_bounds-heads-h
offset_bounds-heads-h c = omega (arith, built-below c.loop-i.invariant _ c.hash_of-h.ensures)

pub bounds-heads-h : goal.bounds-heads-h
bounds-heads-h c = omega (arith, built-below c.loop-i.invariant _ c.hash_of-h.ensures)

pub offset_bounds-heads-h-in-loop-i : goal.offset_bounds-heads-h-in-loop-i
offset_bounds-heads-h-in-loop-i c = omega (arith, built-below c.loop-i.invariant _ c.hash_of-h.ensures)

pub bounds-heads-h-in-loop-i : goal.bounds-heads-h-in-loop-i
bounds-heads-h-in-loop-i c = built-below c.loop-i.invariant _ c.hash_of-h.ensures

pub loop-i-preserved : goal.loop-i-preserved
loop-i-preserved c = built-more c.loop-i.invariant _ _ (omega arith) c.key_at.ensures c.hash_of-h.ensures

pub returns-then-m-eq0 : goal.returns-then-m-eq0
returns-then-m-eq0 c = record { heads_after = no-heads _ _ _ (omega (arith, c.if-m-eq0.true)) refl; nexts_after = no-nexts _ _ _ (omega (arith, c.if-m-eq0.true)) }

pub returns : goal.returns
returns c = links-index _ (built-all c.loop-i.invariant c.loop-i-test.false) (c.loop-i.invariant.long ∙ length-zeros _ (c.fill-2.ensures.after (λ y h. h)))
