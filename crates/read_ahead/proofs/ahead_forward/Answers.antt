-- Where records are read ahead for, they are among those listed.
use native.Mathlib.Omega.{arith}
use lib.ListN.{length-take}
use Rattle.read_ahead.proofs.ReadingLaws.{fits, done-further, done-to}
use Rattle.read_ahead.proofs.ahead_forward.Goals as goal

pub returns-then-position-done : goal.returns-then-position-done
returns-then-position-done c = done-further _ _ _ _ _ (omega arith)

pub returns-then-n-eq0 : goal.returns-then-n-eq0
returns-then-n-eq0 c = done-to _ _ _ _ _ (omega arith) c.at_once-n.ensures (omega arith)

pub overflow_add-end : goal.overflow_add-end
overflow_add-end c = let f = fits _ _ _ _ c.at_once-n.ensures (omega (arith, c.if-n-eq0.false)) in omega (arith, f.there)

pub overflow_mul-position : goal.overflow_mul-position
overflow_mul-position c = let f = fits _ _ _ _ c.at_once-n.ensures (omega (arith, c.if-n-eq0.false)) in omega (arith, f.there)

pub overflow_mul-end : goal.overflow_mul-end
overflow_mul-end c = let f = fits _ _ _ _ c.at_once-n.ensures (omega (arith, c.if-n-eq0.false)) in omega (arith, f.there)

pub offset_bounds-records-position : goal.offset_bounds-records-position
offset_bounds-records-position c = let f = fits _ _ _ _ c.at_once-n.ensures (omega (arith, c.if-n-eq0.false)) in omega (arith, f.there)

pub slice_bounds-read_batch-end : goal.slice_bounds-read_batch-end
slice_bounds-read_batch-end c = let f = fits _ _ _ _ c.at_once-n.ensures (omega (arith, c.if-n-eq0.false)) in omega (arith, f.there)

pub read_batch-sum-requires : goal.read_batch-sum-requires
read_batch-sum-requires c = let f = fits _ _ _ _ c.at_once-n.ensures (omega (arith, c.if-n-eq0.false)) in (f.index, simp length-take (omega (arith, f.few, f.there)), omega arith)

pub reached-requires : goal.reached-requires
reached-requires c = let f = fits _ _ _ _ c.at_once-n.ensures (omega (arith, c.if-n-eq0.false)) in (c.read_batch-sum.ensures, omega (arith, f.there))

pub returns : goal.returns
returns c = done-to _ _ _ _ _ (omega (arith, c.if-position-done.false)) c.at_once-n.ensures c.reached.ensures
