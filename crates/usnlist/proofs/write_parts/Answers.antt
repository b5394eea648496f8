-- One part after the other.
use Rattle.std.proofs.Common.{arith}
use Rattle.usn_lines.proofs.PartLaws.{records-taken}
use Rattle.usnlist.proofs.PartsLaws.{going_start, going_next, going_end, written_start, written_next, written_end}
use Rattle.usnlist.proofs.write_parts.Goals as goal

pub loop-number-init : goal.loop-number-init
loop-number-init g c =
    record {
      going = going_start c.args.journal.now _ c.args.forward.now c.args.start c.args.count;
      written = written_start c.args.journal.now _ c.args.forward.now c.args.start c.args.count _;
    }

pub loop-number-preserved : goal.loop-number-preserved
loop-number-preserved g c =
    record {
      going = going_next c.args.journal.now _ c.args.forward.now c.args.start c.args.count c.loop-number.invariant.going (omega arith) c.put_part-put.ensures (omega arith);
      written =
          written_next c.args.journal.now _ c.args.forward.now c.args.start c.args.count c.loop-number.invariant.written (omega arith) (omega arith) c.put_part-put.ensures
          c.in_ok-write_all.ensures.bytes;
    }

pub returns : goal.returns
returns g c =
    record {
      goes_through =
          going_end c.args.journal.now _ c.args.forward.now c.args.start c.args.count c.loop-number.invariant.going (records-taken c.args.list.now c.args.count c.requires)
          (omega arith);
      written =
          written_end c.args.journal.now _ c.args.forward.now c.args.start c.args.count c.loop-number.invariant.written (records-taken c.args.list.now c.args.count c.requires)
          (omega arith);
    }
