-- No words are an index.
use mathlib.Core.List.{[]}
use native.Mathlib.Omega.{arith}
use Rattle.entry_slots.proofs.IndexLaws.{none-indexed}
use Rattle.entry_table.proofs.adding.add.Goals as goal

pub add_by-requires : goal.add_by-requires
add_by-requires c = record { used_bound = c.requires; indexed = ((none-indexed c.args.slots.now [] [] c.args.used (omega (arith, c.requires)) (omega arith)).1, λ h. absurd (omega arith)) }
