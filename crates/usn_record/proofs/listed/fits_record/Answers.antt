-- The two tests, one after the other.
use borrow.Author.Tests.{le-leb, lt-leb}
use Rattle.usn_record.specs.Record.{fits_record}
use Rattle.usn_record.proofs.listed.fits_record.Goals as goal

pub returns-then-fixed-length : goal.returns-then-fixed-length
unfolding fits_record
returns-then-fixed-length c = simp (le-leb _ _ c.if-fixed-length.true)

pub returns-else-fixed-length : goal.returns-else-fixed-length
unfolding fits_record
returns-else-fixed-length c = simp (lt-leb _ _ c.if-fixed-length.false)
