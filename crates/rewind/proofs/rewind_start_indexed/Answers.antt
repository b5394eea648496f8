-- By whether the words are enough.
use mathlib.Core.Path.{sym, ◌∙◌}
use Rattle.base.specs.Outcome.{map_outcome}
use Rattle.entry_slots.specs.Slots.{slots_in}
use Rattle.entry_slots.specs.Table.{table}
use Rattle.entry_table.proofs.SeedLaws.{enough-room, left-built, left-plain}
use Rattle.rewind.specs.Starting.{Tables, started}
use Rattle.rewind.proofs.rewind_start_indexed.Goals as goal

pub begin-requires : goal.begin-requires
begin-requires c = λ h. enough-room _ _ _ (sym c.is_enough.ensures ∙ c.if-is_enough.true)

pub returns-then-is_enough : goal.returns-then-is_enough
returns-then-is_enough c =
    let s = c.args in
    let b = c.begin.ensures in
    let l = left-built (slots_in s.slots.now) (map_outcome (λ (ts : Tables). ts.first) (started s.journal.now s.image.now s.records.now (table s.slots.now s.used) s.forward.now)) s.heads.now s.nexts.now (sym c.is_enough.ensures ∙ c.if-is_enough.true) (b.heads-are, b.nexts-are) in
    record { start = b.start; heads-are = l.0; nexts-are = l.1 }

pub returns : goal.returns
returns c =
    let s = c.args in
    let b = c.begin-2.ensures in
    let l = left-plain (slots_in s.slots.now) (map_outcome (λ (ts : Tables). ts.first) (started s.journal.now s.image.now s.records.now (table s.slots.now s.used) s.forward.now)) s.heads.now s.nexts.now (sym c.is_enough.ensures ∙ c.if-is_enough.false) (b.heads-are, b.nexts-are) in
    record { start = b.start; heads-are = l.0; nexts-are = l.1 }
