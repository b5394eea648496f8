-- The rows are stored one behind the other.
use mathlib.Core.Path.{refl, sym}
use Rattle.base.specs.Lists.{place_words}
use Rattle.base.proofs.ListLaws.{writing_start, writing-skip, writing-end}
use Rattle.usn_scan.proofs.ScanLaws.{from-start}
use Rattle.usn_scan.proofs.records.write_records.Goals as goal

pub loop-place-init : goal.loop-place-init
loop-place-init c = rw c.into_iter-place-iterator.ensures.into_iter_gives (writing-skip (writing_start place_words 2 _ _) (sym (from-start c.args.extract.bytes.now c.all_records-place-items.ensures)))

pub returns-clause-list_after : goal.returns-clause-list_after
returns-clause-list_after c = writing-end place_words 2 (λ _. refl) c.loop-place.invariant c.in-None.ensures.steps.0 c.requires
