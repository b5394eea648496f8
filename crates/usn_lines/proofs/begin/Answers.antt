-- The scan of so short a journal is never refused.
use native.Mathlib.Omega.{arith}
use lib.ListN.{length-take}
use Rattle.usn_lines.proofs.PassLaws.{scan-never, scan-most, scan_begins}
use Rattle.usn_lines.proofs.begin.Goals as goal

pub overflow_mul-end : goal.overflow_mul-end
overflow_mul-end c = record { fits = omega (arith, scan-most c.args.journal.now c.args.list.now c.requires c.parse_usn_journal.ensures c.in-Ok.is) }

pub slice_bounds-start-end : goal.slice_bounds-start-end
slice_bounds-start-end c = omega (arith, scan-most c.args.journal.now c.args.list.now c.requires c.parse_usn_journal.ensures c.in-Ok.is, c.requires.1)

pub slice_bounds-start-end-in-Ok : goal.slice_bounds-start-end-in-Ok
slice_bounds-start-end-in-Ok c = simp length-take (omega (arith, scan-most c.args.journal.now c.args.list.now c.requires c.parse_usn_journal.ensures c.in-Ok.is, c.requires.1))

pub returns-in-Err : goal.returns-in-Err
returns-in-Err c = absurd (scan-never c.args.journal.now c.args.list.now c.requires c.parse_usn_journal.ensures c.in-Err.is)

pub returns-in-Ok : goal.returns-in-Ok
returns-in-Ok c = scan_begins c.args.journal.now c.args.list.now c.requires c.parse_usn_journal.ensures c.in-Ok.is c.args.first.now c.args.forward.now (omega (arith)) c.start-rewind.ensures
