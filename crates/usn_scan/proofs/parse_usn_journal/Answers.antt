-- Each way out by the tests that led to it; what is written is what the outcome says.
use mathlib.Core.Path.{sym, ◌∙◌}
use native.Mathlib.Omega.{arith}
use Rattle.usn_scan.proofs.OutcomeLaws.{refuses-above-domain, refuses-full, lists}
use Rattle.usn_scan.proofs.parse_usn_journal.Goals as goal

pub returns-then-extract-gt-DOMAIN : goal.returns-then-extract-gt-DOMAIN
returns-then-extract-gt-DOMAIN c = refuses-above-domain _ _ c.if-extract-gt-DOMAIN.true

pub returns-then-not-has_room : goal.returns-then-not-has_room
returns-then-not-has_room c = refuses-full _ _ (omega arith) (sym c.has_room.ensures ∙ c.if-not-has_room.true)

pub returns : goal.returns
returns c = lists _ _ (omega arith) (sym c.has_room.ensures ∙ c.if-not-has_room.false) c.write_records.ensures.value c.write_records.ensures.list_after
