-- By what seeking said, whether a slot is left, and whether there are heads.
use Prim.Native.Nat.{◌<◌}
use mathlib.Core.Path.{refl, sym}
use native.Mathlib.Omega.{arith}
use lib.ListN.{length}
use Rattle.base.specs.Outcome.{answered}
use Rattle.entry_slots.proofs.TableLaws.{find-used}
use Rattle.additions.proofs.StoringLaws.{add-over, add_kept, add-new, add-full}
use Rattle.entry_slots.proofs.ProbeLaws.{probed-hit, probed_none, probed-last, last_within}
use Rattle.entry_table.proofs.AddingLaws.{stores-by, none_after, kept-over, index-more}
use Rattle.entry_table.proofs.adding.add_found.Goals as goal

pub put-requires : goal.put-requires
put-requires c = omega (arith, c.requires.used_bound, find-used _ _ _ (sym (probed-hit _ _ _ c.requires.probed c.in-Hit.is)))

pub returns-then-slots-used : goal.returns-then-slots-used
returns-then-slots-used c = stores-by (add-full _ _ (probed_none _ _ _ c.requires.probed c.in-Last.is) refl c.if-slots-used.true) refl refl (refl, refl)

pub returns-then-heads-eq0 : goal.returns-then-heads-eq0
returns-then-heads-eq0 c =
    let l = c.in-Last.is in
    stores-by (add-new _ _ (probed_none _ _ _ c.requires.probed l) refl (omega (arith, c.if-slots-used.false))) refl c.put-in-Last.ensures (none_after (answered _) _ _ (omega (arith, c.if-heads-eq0.true)))

pub link-requires : goal.link-requires
link-requires c =
    let some : 0 < length c.args.heads.now = omega (arith, c.if-heads-eq0.false) in (
      omega (arith, some),
      omega (arith, c.if-slots-used.false, c.requires.indexed.1 some),
      omega (arith, last_within _ (probed-last _ _ _ c.requires.probed c.in-Last.is some)),
    )

pub returns-then-replace : goal.returns-then-replace
returns-then-replace c =
    let e = probed-hit _ _ _ c.requires.probed c.in-Hit.is in
    stores-by (add-over _ _ e refl c.requires.used_bound c.if-replace.true) refl c.put.ensures (kept-over _ _ _ c.requires.indexed.0 _ _ e c.requires.used_bound)

pub returns-else-replace : goal.returns-else-replace
returns-else-replace c =
    stores-by (add_kept _ _ (probed-hit _ _ _ c.requires.probed c.in-Hit.is) refl c.requires.used_bound c.if-replace.false) refl refl c.requires.indexed.0

pub returns-else-heads-eq0 : goal.returns-else-heads-eq0
returns-else-heads-eq0 c =
    let l = c.in-Last.is in
    let some : 0 < length c.args.heads.now = omega (arith, c.if-heads-eq0.false) in
    stores-by (add-new _ _ (probed_none _ _ _ c.requires.probed l) refl (omega (arith, c.if-slots-used.false))) refl c.put-in-Last.ensures
    (index-more _ _ _ some c.requires.indexed.0 _ _ (probed-last _ _ _ c.requires.probed l some) (omega (arith, c.if-slots-used.false)) (c.requires.indexed.1 some) c.link.ensures.heads_after c.link.ensures.nexts_after)
