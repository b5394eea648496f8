-- A read past the end; else the bytes in turn.
use mathlib.Core.Path.{sym}
use native.Mathlib.Omega.{arith}
use native.Mathlib.Nat.{one-le-pow}
use Rattle.usn_record.proofs.ByteLaws.{read_past}
use Rattle.mft_sectors.proofs.SectorLaws.{length-restored}
use Rattle.mft_sectors.proofs.ReadLaws.{across-start, across-fits, across-next, across-end, across-bound}
use Rattle.mft_sectors.proofs.reads.Restored.across.Goals as goal

pub returns-then-end-width : goal.returns-then-end-width
returns-then-end-width c = record { value = sym (read_past _ _ _ (rw length-restored (omega arith))); bound = one-le-pow c.args.width 256 (omega arith) }

pub returns-then-end-width-2 : goal.returns-then-end-width-2
returns-then-end-width-2 c = record { value = sym (read_past _ _ _ (rw length-restored (omega arith))); bound = one-le-pow c.args.width 256 (omega arith) }

pub loop-k-init : goal.loop-k-init
loop-k-init c = across-start _ _ _

pub overflow_mul-number : goal.overflow_mul-number
overflow_mul-number c = let h = across-fits c.loop-k.invariant c.loop-k-test.true c.loop-k.auto.k 0 (omega arith) c.requires in omega (arith, h)

pub overflow_add-number : goal.overflow_add-number
overflow_add-number c =
    let h = across-fits c.loop-k.invariant c.loop-k-test.true c.loop-k.auto.k c.byte.result c.byte.type_inv c.requires in
    omega (arith, h)

pub loop-k-preserved : goal.loop-k-preserved
loop-k-preserved c = across-next c.loop-k.invariant c.loop-k-test.true c.loop-k.auto.k c.byte.type_inv c.byte.ensures (rw length-restored (omega arith))

pub returns : goal.returns
returns c =
    record {
      value = across-end c.loop-k.invariant c.loop-k-test.false (rw length-restored (omega arith));
      bound = across-bound c.loop-k.invariant c.loop-k-test.false;
    }
