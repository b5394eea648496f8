-- Each way out rewrites with the tests that led there.
use borrow.Author.Tests.{lt-ltb, le-ltb}
use Rattle.usn_record.specs.Fields.{filename_of}
use Rattle.usn_record.proofs.fields.filename_place.Goals as goal
use Rattle.usn_record.proofs.fields.filename_place.Goals.{then-n-lt2-via-then-n-lt2, then-n-lt2-via-else-n-lt2+then-end-o}

pub returns-then-n-lt2 : goal.returns-then-n-lt2
unfolding filename_of
returns-then-n-lt2 c = elim c.then-n-lt2.branch [ then-n-lt2-via-then-n-lt2 w ↦ simp (lt-ltb _ _ w.if-n-lt2.true) | then-n-lt2-via-else-n-lt2+then-end-o w ↦ simp (le-ltb _ _ w.if-n-lt2.false, lt-ltb _ _ w.if-end-o.true) ]

pub returns : goal.returns
unfolding filename_of
returns c = simp (le-ltb _ _ c.if-n-lt2.false, le-ltb _ _ c.if-end-o.false)
