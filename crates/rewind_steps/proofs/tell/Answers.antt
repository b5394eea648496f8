-- By whether the text fits; where it does not, the index is built again for what was put back.
use Prim.Native.Nat.{ℕ}
use mathlib.Core.Path.{ap, ◌∙◌}
use mathlib.Core.List.{List}
use native.Mathlib.Omega.{arith}
use lib.ListN.{length}
use Rattle.entry_slots.specs.Slots.{put_at}
use Rattle.entry_slots.specs.Table.{table}
use Rattle.entry_slots.proofs.PutLaws.{length-put}
use Rattle.entry_slots.specs.Index.{heads_of, nexts_of}
use Rattle.rewind_steps.proofs.MakeLaws.{tell-asks, way-asks, tell-to, tell-full}
use Rattle.rewind_steps.proofs.tell.Goals as goal

pub climb-up-requires : goal.climb-up-requires
climb-up-requires c = record { stride_in_bounds = (tell-asks c.requires.step_asks, λ h. let g = c.requires.step_asks.wide h in omega (arith, c.requires.step_asks.fits)); indexed = c.requires.step_asks.index; levels_of_in_bounds = c.requires.step_asks.long }

pub put_behind-requires : goal.put_behind-requires
put_behind-requires c = record { way_asks = way-asks _ _ c.requires.step_asks c.climb-up.ensures; name_value = (c.requires.step_asks.own, c.requires.step_asks.room) }

pub put-requires : goal.put-requires
put-requires c = omega (arith, c.requires.slot_bound.0)

pub build-requires : goal.build-requires
build-requires c = (omega (arith, simp length-put at (ap length c.put.ensures), c.requires.slot_bound.1, c.requires.step_asks.fits), λ h. let g = c.requires.step_asks.wide h in omega (arith, c.requires.slot_bound.1, c.requires.step_asks.fits))

pub returns-in-Some : goal.returns-in-Some
returns-in-Some c = let s = c.args in tell-to s.journal.now s.image.now (table s.forward.now s.stand.used) s.entered.info.parent s.entered.info.name s.text.now s.stand.at c.climb-up.ensures (tell-asks c.requires.step_asks) (length s.heads.now) s.nexts.now (table (put_at s.forward.now s.entered.held.slot s.entered.held.key s.entered.held.info) s.entered.held.used) c.put_behind.ensures c.in-Some.is c.resolved.ensures c.requires.step_asks.index.0 c.requires.step_asks.index.1

pub returns-in-None : goal.returns-in-None
returns-in-None c = let s = c.args in
    tell-full s.journal.now s.image.now (table s.forward.now s.stand.used) s.entered.info.parent s.entered.info.name s.text.now s.stand.at c.climb-up.ensures (tell-asks c.requires.step_asks) (length s.heads.now) s.nexts.now (table (put_at s.forward.now s.entered.held.slot s.entered.held.key s.entered.held.info) s.entered.held.used) c.put_behind.ensures c.in-None.is c.put.ensures (c.build.ensures.heads_after ∙ ap (λ (w : List ℕ). heads_of (length s.heads.now) (table w s.entered.held.used)) c.put.ensures) (c.build.ensures.nexts_after ∙ ap (λ (w : List ℕ). nexts_of (length s.heads.now) (table w s.entered.held.used) s.nexts.now) c.put.ensures)
