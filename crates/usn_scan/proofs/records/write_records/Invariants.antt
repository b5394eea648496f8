-- The invariant: the records written, with those that are still to come, are all of them.
use Rattle.base.specs.Lists.{place_words}
use Rattle.base.proofs.ListLaws.{Writing}
use Rattle.usn_scan.specs.Scan.{events_from, record_places, scanned}
use Rattle.usn_scan.proofs.records.write_records.Given as goal

abbrev pub invariant-loop-place : goal.invariant-loop-place
invariant-loop-place l = Writing place_words 2 l.fn.list l.list l.i (record_places (events_from l.place-iterator.extract.bytes.now l.place-iterator.offset)) (scanned l.extract.bytes.now)
