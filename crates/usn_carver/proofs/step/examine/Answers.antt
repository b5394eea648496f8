-- Each way out by the tests that led to it.
use mathlib.Core.Path.{◌∙◌}
use Rattle.usn_carver.proofs.VisitLaws.{passed, rejected-structure, rejected-time, carved-record}
use Rattle.usn_carver.proofs.step.examine.Goals as goal

pub returns-then-not-is_candidate : goal.returns-then-not-is_candidate
returns-then-not-is_candidate g c = rw (g.V.Version.is_made, ← c.USN-tail.ensures) (passed _ _ _ _ c.requires.1 c.is_candidate.ensures c.if-not-is_candidate.true)

pub returns-then-bad_name : goal.returns-then-bad_name
returns-then-bad_name g c = rw (g.V.Version.is_made, ← c.USN-tail.ensures, ← c.MAJOR-version.ensures) (c.met.ensures ∙ rejected-structure _ _ _ _ c.requires.1 c.is_candidate.ensures c.if-not-is_candidate.false c.le_u16-name_offset.ensures c.le_u16-name_length.ensures c.bad_name.ensures c.if-bad_name.true)

pub returns-then-bad_time : goal.returns-then-bad_time
returns-then-bad_time g c = rw (g.V.Version.is_made, ← c.USN-tail.ensures, ← c.MAJOR-version.ensures) (c.met-then-bad_time.ensures ∙ rejected-time _ _ _ _ c.requires.1 c.is_candidate.ensures c.if-not-is_candidate.false c.le_u16-name_offset.ensures c.le_u16-name_length.ensures c.bad_name.ensures c.if-bad_name.false c.le_u64.ensures c.bad_time.ensures c.if-bad_time.true)

pub returns : goal.returns
returns g c = rw (g.V.Version.is_made, ← c.USN-tail.ensures, ← c.MAJOR-version.ensures) (c.met-2.ensures ∙ carved-record _ _ _ _ c.requires.1 c.is_candidate.ensures c.if-not-is_candidate.false c.le_u16-name_offset.ensures c.le_u16-name_length.ensures c.bad_name.ensures c.if-bad_name.false c.le_u64.ensures c.bad_time.ensures c.if-bad_time.false)
