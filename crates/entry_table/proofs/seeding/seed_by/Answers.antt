-- Each way out by its tests.
use mathlib.Core.Path.{refl, sym, ◌∙◌}
use native.Mathlib.Omega.{arith}
use borrow.Author.Tests.{leb-true, leb-false}
use Rattle.additions.proofs.StoringLaws.{adding-full, stored-bad-state, stored-outside, stored-inside}
use Rattle.additions.proofs.CountLaws.{adding-room}
use Rattle.entry_table.proofs.AddingLaws.{stores-by}
use Rattle.entry_table.proofs.SeedLaws.{heads-long, nexts-long, index-again, index-then}
use Rattle.entry_table.proofs.seeding.seed_by.Goals as goal

pub returns-then-slots-used : goal.returns-then-slots-used
returns-then-slots-used g c = stores-by (stored-bad-state _ _ _ c.if-slots-used.true) refl refl (refl, refl)

pub returns-then-not-names_inside : goal.returns-then-not-names_inside
returns-then-not-names_inside g c = stores-by (stored-outside _ _ _ c.if-slots-used.false (sym c.names_inside.ensures ∙ c.if-not-names_inside.true)) refl refl (refl, refl)

pub returns-then-not-has_room : goal.returns-then-not-has_room
returns-then-not-has_room g c =
    let full = leb-false _ _ (sym c.has_room.ensures ∙ c.if-not-has_room.true) in
    stores-by (stored-inside _ _ _ c.if-slots-used.false (sym c.names_inside.ensures ∙ c.if-not-names_inside.false) ∙ adding-full _ _ full) refl refl (refl, refl)

pub add_all-requires : goal.add_all-requires
add_all-requires g c = let heads = c.build.ensures.heads_after in
    let nexts = c.build.ensures.nexts_after in
    record { entries_bound = leb-true _ _ (sym c.has_room.ensures ∙ c.if-not-has_room.false); indexed = (index-again _ _ _ heads nexts, λ h. let g = c.requires (omega (arith, heads-long _ _ _ heads nexts)) in omega (arith, nexts-long _ _ _ heads nexts)) }

pub returns : goal.returns
returns g c =
    let heads = c.build.ensures.heads_after in
    let nexts = c.build.ensures.nexts_after in
    let a = c.add_all.ensures in
    let all = adding-room _ _ (leb-true _ _ (sym c.has_room.ensures ∙ c.if-not-has_room.false)) in
    stores-by (stored-inside _ _ _ c.if-slots-used.false (sym c.names_inside.ensures ∙ c.if-not-names_inside.false) ∙ all) (rw all at a.store.answer) (rw all at a.store.slots-are) (index-then _ _ _ heads nexts all a.heads-are a.nexts-are)
