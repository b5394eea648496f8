-- The name that was found lies in the entry.
use Rattle.std.proofs.Common.{arith}
use Rattle.std.proofs.lemmas.Grind.{common_steps}
use Rattle.mft_sectors.proofs.SectorLaws.{length-restored}
use Rattle.mft_attributes.proofs.LieLaws.{found-lies}
use Rattle.mft_carver.specs.Entry.{judged}
use Rattle.mft_carver.proofs.EntryLaws.{name-from}
use Rattle.mft_carver.proofs.entry.try_carve_entry.Goals as goal

pub overflow_add-result : goal.overflow_add-result
overflow_add-result c = let h = rw length-restored at (found-lies _ _ _ c.best_filename.ensures c.in_ok-name.was).ends in omega (arith, h, c.requires)

pub returns : goal.returns
unfolding judged
returns c = let p = name-from _ _ _ c.args.offset c.best_filename.ensures c.in_ok-name.was in grind (arith, common_steps)
