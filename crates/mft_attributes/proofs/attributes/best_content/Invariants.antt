-- The invariant: what is kept, with the attributes left, is what is kept at the end.
use Rattle.mft_sectors.specs.Restored.{bytes_of, length_of}
use Rattle.mft_attributes.specs.Step.{kept_at, Inside}
use Rattle.mft_attributes.proofs.FilenameLaws.{Keeping}
use Rattle.mft_attributes.proofs.attributes.best_content.Given as goal

abbrev pub invariant-loop : goal.invariant-loop
invariant-loop l = record {
  keeping : Keeping (bytes_of l.entry) l.first l.walked (kept_at (bytes_of l.entry) l.best) l.a l.counter;
  inside : Inside (length_of l.entry) l.best;
}
