-- Each way out rewrites with the tests that led there.
use borrow.Author.Tests.{lt-ltb, le-ltb}
use Rattle.usn_record.specs.Fields.{timestamp_of}
use Rattle.usn_record.proofs.fields.filetime_to_timestamp.Goals as goal
use Rattle.usn_record.proofs.fields.filetime_to_timestamp.Goals.{then-bits-ge9223372036854775808-via-then-bits-ge9223372036854775808, then-bits-ge9223372036854775808-via-else-bits-ge9223372036854775808+then-bits-lt-EPOCH_DIFF}

pub returns-then-bits-ge9223372036854775808 : goal.returns-then-bits-ge9223372036854775808
unfolding timestamp_of
returns-then-bits-ge9223372036854775808 c =
    elim c.then-bits-ge9223372036854775808.branch [
      | then-bits-ge9223372036854775808-via-then-bits-ge9223372036854775808 w ↦ simp (le-ltb _ _ w.if-bits-ge9223372036854775808.true)
      | then-bits-ge9223372036854775808-via-else-bits-ge9223372036854775808+then-bits-lt-EPOCH_DIFF w ↦ simp (lt-ltb _ _ w.if-bits-ge9223372036854775808.false, lt-ltb _ _ w.if-bits-lt-EPOCH_DIFF.true)
    ]

pub returns : goal.returns
unfolding timestamp_of
returns c = simp (lt-ltb _ _ c.if-bits-ge9223372036854775808.false, le-ltb _ _ c.if-bits-lt-EPOCH_DIFF.false)
