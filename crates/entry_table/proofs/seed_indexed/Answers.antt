-- By whether the words are enough.
use mathlib.Core.Path.{sym, ◌∙◌}
use Rattle.entry_slots.specs.Names.{lengths_of}
use Rattle.entry_slots.specs.Slots.{slots_in}
use Rattle.entry_slots.specs.Table.{table}
use Rattle.additions.specs.Carved.{seeding}
use Rattle.entry_table.proofs.SeedLaws.{enough-room, left-plain}
use Rattle.entry_table.proofs.seed_indexed.Goals as goal

pub seed_by-requires : goal.seed_by-requires
seed_by-requires c = λ h. enough-room _ _ _ (sym c.is_enough.ensures ∙ c.if-is_enough.true)

pub returns : goal.returns
returns c =
    let s = c.args in
    let b = c.seed_by-2.ensures in
    let l = left-plain (slots_in s.slots.now) (seeding (lengths_of s.journal.now s.image.now) (table s.slots.now s.used) s.entries.now) s.heads.now s.nexts.now (sym c.is_enough.ensures ∙ c.if-is_enough.false) (b.heads-are, b.nexts-are) in
    record { store = b.store; heads-are = l.0; nexts-are = l.1 }
