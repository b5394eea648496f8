-- What a read gives comes behind what was read so far.
use Rattle.std.proofs.Common.{◌≤◌, length, arith, sym, subst}
use Rattle.std.specs.Io.KnownBytes.{Consumes}
use Rattle.std.proofs.KnownBytes.{Consumes-trans}
use Rattle.usnlist.proofs.ReadLaws.{read_fits, read_joins}
use Rattle.usnlist.proofs.read_input.Goals as goal

pub loop-n-preserved : goal.loop-n-preserved
loop-n-preserved g c =
    let at = c.loop-n in
    let more = c.read_some-more in
    let bound : more.result.bytes ≤ length more.new.buffer = omega arith in
    record {
      within = read_fits at.buffer more.new.buffer at.n more.result.bytes at.invariant.within bound;
      in_order =
          subst (Consumes (g.R.Read.remaining c.args.input.now) (g.R.Read.remaining more.new.input))
          (sym (read_joins at.buffer more.new.buffer at.n more.result.bytes at.invariant.within bound))
          (Consumes-trans _ _ _ _ _ at.invariant.in_order more.ensures.in_order);
    }
