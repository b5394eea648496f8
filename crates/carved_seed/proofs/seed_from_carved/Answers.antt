-- By the tests, and then by one insertion after the other; the entries by their numbers are those of the slice.
use mathlib.Core.Path.{refl, sym, ◌∙◌}
use lib.ListN.{length}
use Rattle.entry_slots.specs.Names.{lengths_of}
use Rattle.entry_slots.specs.Table.{table}
use Rattle.std.specs.Prelude.{Ok}
use Rattle.base.specs.declared.refusal.Refusal.TheVariants.{BadState, NameOutside, TableFull}
use Rattle.additions.proofs.AdditionLaws.{same-addition}
use Rattle.carved_seed.specs.Entries.{added_at}
use Rattle.carved_seed.proofs.EntryLaws.{whole-entries}
use Rattle.carved_seed.proofs.SeedLaws.{inserted, tests-bad-state, tests-outside, tests-full, tests-passed, tests-refused, tests-start, seed-refused, inserting-never, inserting-next, stands-over}
use Rattle.carved_seed.proofs.seed_from_carved.Goals as goal

pub returns-then-slots-used : goal.returns-then-slots-used
returns-then-slots-used c = rw (whole-entries c.args.entries.now) at (seed-refused (lengths_of c.args.journal.now c.args.image.now) (table c.args.slots.now c.args.used) (added_at c.args.entries.now) (length c.args.entries.now) {k = BadState} (tests-refused _ _ _ _ (tests-bad-state _ _ _ _ c.if-slots-used.true)))

pub returns-then-not-names_inside : goal.returns-then-not-names_inside
returns-then-not-names_inside c =
    rw (whole-entries c.args.entries.now) at (seed-refused (lengths_of c.args.journal.now c.args.image.now) (table c.args.slots.now c.args.used) (added_at c.args.entries.now) (length c.args.entries.now) {k = NameOutside} (tests-refused _ _ _ _ (tests-outside _ _ _ _ c.if-slots-used.false (sym c.names_inside.ensures ∙ c.if-not-names_inside.true))))

pub returns-then-not-has_room : goal.returns-then-not-has_room
returns-then-not-has_room c =
    rw (whole-entries c.args.entries.now) at (seed-refused (lengths_of c.args.journal.now c.args.image.now) (table c.args.slots.now c.args.used) (added_at c.args.entries.now) (length c.args.entries.now) {k = TableFull} (tests-refused _ _ _ _ (tests-full _ _ _ _ c.if-slots-used.false (sym c.names_inside.ensures ∙ c.if-not-names_inside.false) (sym c.has_room.ensures ∙ c.if-not-has_room.true))))

pub loop-i-init : goal.loop-i-init
loop-i-init c = tests-start (lengths_of c.args.journal.now c.args.image.now) (table c.args.slots.now c.args.used) (added_at c.args.entries.now) (length c.args.entries.now) (tests-passed _ _ _ _ c.if-slots-used.false (sym c.names_inside.ensures ∙ c.if-not-names_inside.false) (sym c.has_room.ensures ∙ c.if-not-has_room.false))

pub loop-i-preserved : goal.loop-i-preserved
loop-i-preserved c = inserting-next (lengths_of c.args.journal.now c.args.image.now) (table c.args.slots.now c.args.used) (added_at c.args.entries.now) (length c.args.entries.now) c.loop-i.invariant c.loop-i-test.true (same-addition c.key_of.ensures c.info_of.ensures refl) c.insert_if_absent.ensures c.in_ok-now_used.was

pub returns-in_err-now_used : goal.returns-in_err-now_used
returns-in_err-now_used c = absurd (inserting-never (lengths_of c.args.journal.now c.args.image.now) (table c.args.slots.now c.args.used) (added_at c.args.entries.now) (length c.args.entries.now) c.loop-i.invariant c.loop-i-test.true (same-addition c.key_of.ensures c.info_of.ensures refl) c.insert_if_absent.ensures c.in_err-now_used.was)

pub returns : goal.returns
returns c = rw (whole-entries c.args.entries.now) at (stands-over (lengths_of c.args.journal.now c.args.image.now) (table c.args.slots.now c.args.used) (added_at c.args.entries.now) (length c.args.entries.now) {r = Ok c.loop-i.now_used} (inserted _ refl c.loop-i.invariant) c.loop-i-test.false)
