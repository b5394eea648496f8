-- By the first test that refuses.
use native.Mathlib.Omega.{arith}
use Rattle.entry_slots.specs.Table.{table}
use Rattle.rewind_records.specs.Environment.{environment_with}
use Rattle.rewind_records.proofs.TurnLaws.{test-journal, test-image, test-state, test-records, test-names, test-none}
use Rattle.rewind_records.proofs.turn.check.Goals as goal

pub returns-then-journal-gt-DOMAIN : goal.returns-then-journal-gt-DOMAIN
returns-then-journal-gt-DOMAIN c = test-journal (environment_with c.args.journal.now c.args.image_length c.args.records.now) (table c.args.slots.now c.args.used) c.if-journal-gt-DOMAIN.true

pub returns-then-image_length-gt-DOMAIN : goal.returns-then-image_length-gt-DOMAIN
returns-then-image_length-gt-DOMAIN c = test-image (environment_with c.args.journal.now c.args.image_length c.args.records.now) (table c.args.slots.now c.args.used) c.if-journal-gt-DOMAIN.false c.if-image_length-gt-DOMAIN.true

pub returns-then-slots-used : goal.returns-then-slots-used
returns-then-slots-used c = test-state (environment_with c.args.journal.now c.args.image_length c.args.records.now) (table c.args.slots.now c.args.used) c.if-journal-gt-DOMAIN.false c.if-image_length-gt-DOMAIN.false c.if-slots-used.true

pub all_records-requires : goal.all_records-requires
all_records-requires c = tt

pub returns-then-not-all_records : goal.returns-then-not-all_records
returns-then-not-all_records c = test-records (environment_with c.args.journal.now c.args.image_length c.args.records.now) (table c.args.slots.now c.args.used) c.if-journal-gt-DOMAIN.false c.if-image_length-gt-DOMAIN.false c.if-slots-used.false c.all_records.ensures c.if-not-all_records.true

pub all_inside-requires : goal.all_inside-requires
all_inside-requires c = omega arith

pub returns-then-not-all_inside : goal.returns-then-not-all_inside
returns-then-not-all_inside c = test-names (environment_with c.args.journal.now c.args.image_length c.args.records.now) (table c.args.slots.now c.args.used) c.if-journal-gt-DOMAIN.false c.if-image_length-gt-DOMAIN.false c.if-slots-used.false c.all_records.ensures c.if-not-all_records.false c.all_inside.ensures c.if-not-all_inside.true

pub returns : goal.returns
returns c = test-none (environment_with c.args.journal.now c.args.image_length c.args.records.now) (table c.args.slots.now c.args.used) c.if-journal-gt-DOMAIN.false c.if-image_length-gt-DOMAIN.false c.if-slots-used.false c.all_records.ensures c.if-not-all_records.false c.all_inside.ensures c.if-not-all_inside.false
