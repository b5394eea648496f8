-- The entries before number i are inserted, and the tests are passed.
use lib.ListN.{length}
use Rattle.entry_slots.specs.Names.{lengths_of}
use Rattle.entry_slots.specs.Table.{table}
use Rattle.carved_seed.specs.Entries.{added_at}
use Rattle.carved_seed.proofs.SeedLaws.{Inserting}
use Rattle.carved_seed.proofs.seed_from_carved.Given as goal

abbrev pub invariant-loop-i : goal.invariant-loop-i
invariant-loop-i l = Inserting (lengths_of l.journal l.image) (table l.initial.slots l.initial.now_used) (added_at l.entries) (length l.entries) l.i (table l.slots l.now_used)
