-- A hash is below the number of heads.
use native.Mathlib.Omega.{arith}
use lib.ListN.{length}
use Rattle.entry_slots.proofs.IndexLaws.{hash-below}
use Rattle.read_ahead.proofs.batch.link_of.Goals as goal

pub offset_bounds-heads-hash_of : goal.offset_bounds-heads-hash_of
offset_bounds-heads-hash_of c = let s = c in
    omega (arith, c.hash_of.ensures, hash-below (length s.args.heads.now) s.args.key s.requires, s.well_formed)

pub bounds-heads-hash_of : goal.bounds-heads-hash_of
bounds-heads-hash_of c = let s = c in
    omega (arith, c.hash_of.ensures, hash-below (length s.args.heads.now) s.args.key s.requires)
