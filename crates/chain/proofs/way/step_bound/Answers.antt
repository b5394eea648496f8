-- By whether the name is longer than any slice.
use native.Mathlib.Omega.{arith}
use Rattle.chain.proofs.WayLaws.{bound-short, bound-long}
use Rattle.chain.proofs.way.step_bound.Goals as goal

pub returns-then-units-lt4294967296 : goal.returns-then-units-lt4294967296
returns-then-units-lt4294967296 c = let e = bound-short c.args.name c.if-units-lt4294967296.true in (omega (arith, e), omega (arith, c.if-units-lt4294967296.true))

pub returns : goal.returns
returns c = let e = bound-long c.args.name c.if-units-lt4294967296.false in (omega (arith, e), omega arith)
