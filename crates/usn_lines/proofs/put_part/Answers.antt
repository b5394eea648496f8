-- By the number of the part.
use native.Mathlib.Omega.{arith}
use lib.ListN.{length-take}
use Rattle.usn_lines.proofs.PartLaws.{head_puts, middle-puts, end-puts, records-taken}
use Rattle.usn_lines.specs.Listing.{header_line}
use Rattle.usn_lines.proofs.put_part.Goals as goal

pub returns-then-number-eq0 : goal.returns-then-number-eq0
unfolding header_line
returns-then-number-eq0 c = head_puts c.args.journal.now _ c.args.text.now c.args.forward.now c.args.rewind c.args.number c.if-number-eq0.true c.put_bytes-end.ensures

pub slice_bounds-put_line-end : goal.slice_bounds-put_line-end
slice_bounds-put_line-end c = simp length-take (omega (arith, c.requires.0))

pub put_line-requires : goal.put_line-requires
put_line-requires c = (simp length-take (omega (arith, c.requires.0, c.if-number-count.true, c.if-number-eq0.false)), omega (arith, c.requires.1))

pub returns-then-number-count : goal.returns-then-number-count
returns-then-number-count c = middle-puts c.args.journal.now _ c.args.text.now c.args.forward.now c.args.rewind c.args.number c.if-number-eq0.false (omega (arith, c.if-number-count.true, records-taken c.args.list.now c.args.count c.requires.0)) c.put_line.ensures

pub returns : goal.returns
returns c = end-puts c.args.journal.now _ c.args.text.now c.args.forward.now c.args.rewind c.args.number c.if-number-eq0.false (omega (arith, c.if-number-count.false, records-taken c.args.list.now c.args.count c.requires.0)) (rw (records-taken c.args.list.now c.args.count c.requires.0) c.put_last_line-end.ensures)
