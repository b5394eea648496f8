-- First where there is no link, and behind the last one else.
use native.Mathlib.Omega.{arith}
use lib.ListN.{length}
use Rattle.entry_slots.proofs.IndexLaws.{hash-below, linked-first, linked-behind}
use Rattle.entry_slots.proofs.links.link.Goals as goal

pub offset_bounds-heads-hash_of : goal.offset_bounds-heads-hash_of
offset_bounds-heads-hash_of c =
    omega (arith, c.hash_of.ensures, hash-below (length c.args.heads.now) c.args.key c.requires.0)

pub bounds-heads-hash_of : goal.bounds-heads-hash_of
bounds-heads-hash_of c =
    rw c.hash_of.ensures (hash-below (length c.args.heads.now) c.args.key c.requires.0)

pub returns-then-last-eq0 : goal.returns-then-last-eq0
returns-then-last-eq0 c = linked-first _ _ _ _ _ c.hash_of.ensures c.if-last-eq0.true

pub returns : goal.returns
returns c = linked-behind _ _ _ _ _ c.if-last-eq0.false
