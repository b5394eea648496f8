-- Where the room is enough for any extract of this length, the bound on the number of records says so; else the count tells.
use mathlib.Core.Path.{ap, sym, ◌∙◌}
use mathlib.Core.Logic.{inl}
use native.Mathlib.Omega.{arith}
use lib.ListN.{length}
use lib.Dec.{leb}
use borrow.Author.Tests.{le-leb}
use Rattle.usn_scan.specs.Scan.{scanned}
use Rattle.usn_scan.proofs.ScanLaws.{scan-bound, from-start, drained}
use Rattle.usn_scan.proofs.records.has_room.Goals as goal

pub count-requires-clause-fits : goal.count-requires-clause-fits
count-requires-clause-fits c = let s = c.args.extract.bytes.now in inl (omega (arith, ap length (from-start s c.all_records.ensures), scan-bound s, c.args.extract.within))

pub returns-then-extract-room : goal.returns-then-extract-room
returns-then-extract-room c = let s = c.args.extract.bytes.now in le-leb _ _ c.if-extract-room.true ∙ sym (le-leb (length (scanned s)) c.args.room (omega (arith, scan-bound s)))

pub returns-else-extract-room : goal.returns-else-extract-room
returns-else-extract-room c =
    let n = c.count.ensures.ran in
    ap (λ k. leb k c.args.room) (n.2 ∙ ap length (drained _ _ n.0 n.1 ∙ from-start c.args.extract.bytes.now c.all_records.ensures))
