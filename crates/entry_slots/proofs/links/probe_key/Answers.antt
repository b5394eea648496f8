use native.Mathlib.Omega.{arith}
use Rattle.entry_slots.proofs.FindLaws.{fields-same}
use Rattle.entry_slots.proofs.IndexLaws.{indexed-links}
use Rattle.entry_slots.proofs.ProbeLaws.{walking-below, walking_start, walking-less, walking-next, walking-hit, walking-last}
use Rattle.entry_slots.proofs.links.probe_key.Goals as goal

pub offset_bounds-heads-hash_of : goal.offset_bounds-heads-hash_of
offset_bounds-heads-hash_of c =
    let x = indexed-links _ _ _ c.requires.stride_in_bounds.1 c.requires.indexed in
    omega (arith, walking-below x _ c.hash_of.ensures)

pub bounds-heads-hash_of : goal.bounds-heads-hash_of
bounds-heads-hash_of c =
    let x = indexed-links _ _ _ c.requires.stride_in_bounds.1 c.requires.indexed in
    walking-below x _ c.hash_of.ensures

pub loop-link-init : goal.loop-link-init
loop-link-init c =
    let x = indexed-links _ _ _ c.requires.stride_in_bounds.1 c.requires.indexed in
    walking_start x _ c.hash_of.ensures

pub returns-then-eq : goal.returns-then-eq
returns-then-eq c =
    let x = indexed-links _ _ _ c.requires.stride_in_bounds.1 c.requires.indexed in
    walking-hit x _ c.requires.stride_in_bounds.2 c.loop-link-test.true c.loop-link.invariant c.key_at.ensures (fields-same _ _ c.eq.ensures) c.if-eq.true

pub loop-link-smaller : goal.loop-link-smaller
loop-link-smaller c =
    let x = indexed-links _ _ _ c.requires.stride_in_bounds.1 c.requires.indexed in
    walking-less x _ c.requires.stride_in_bounds.2 c.loop-link-test.true c.loop-link.invariant

pub loop-link-preserved : goal.loop-link-preserved
loop-link-preserved c =
    let x = indexed-links _ _ _ c.requires.stride_in_bounds.1 c.requires.indexed in
    walking-next x _ c.requires.stride_in_bounds.2 c.loop-link-test.true c.loop-link.invariant c.key_at.ensures (fields-same _ _ c.eq.ensures) c.if-eq.false

pub returns : goal.returns
returns c = walking-last c.loop-link.invariant c.loop-link-test.false
