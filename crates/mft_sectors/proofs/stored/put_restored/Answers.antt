-- The entry around the place lies in the image, and what is copied of it is what the place is decoded from.
use native.Mathlib.Omega.{arith}
use Rattle.mft_sectors.proofs.StoredLaws.{start-before, inside-says, ends-lent, copied, restored-put}
use Rattle.mft_sectors.proofs.stored.put_restored.Goals as goal

pub overflow_mul-start : goal.overflow_mul-start
overflow_mul-start c = omega (arith, start-before c.args.size c.args.place.offset)

pub overflow_add-end : goal.overflow_add-end
overflow_add-end c = omega (arith, (inside-says c.args.size c.args.image.now c.args.place c.requires.1).whole)

pub slice_bounds-of-end : goal.slice_bounds-of-end
slice_bounds-of-end c = omega (arith, (inside-says c.args.size c.args.image.now c.args.place c.requires.1).whole)

pub overflow_sub-from : goal.overflow_sub-from
overflow_sub-from c = omega (arith, start-before c.args.size c.args.place.offset)

pub returns : goal.returns
returns c =
    restored-put c.args.size c.args.image.now c.args.place c.requires.1 _ c.of-entry.ensures
    (copied _ _ _ _ _ (ends-lent c.args.size c.args.image.now c.args.place c.requires.1 c.of-entry.ensures) c.requires.2 c.loop-k.auto.byte-items c.loop-k-test.false c.loop-k.invariant)
