-- Each way out by its tests.
use mathlib.Core.Path.{sym, ◌∙◌}
use borrow.Author.Tests.{leb-true, leb-false}
use Rattle.usn_carver.proofs.CallLaws.{refuses-above-domain, refuses-full, carves}
use Rattle.usn_carver.proofs.carve.Goals as goal

pub returns-then-extract-gt-DOMAIN : goal.returns-then-extract-gt-DOMAIN
returns-then-extract-gt-DOMAIN c = refuses-above-domain _ _ _ c.if-extract-gt-DOMAIN.true

pub returns-then-not-has_room : goal.returns-then-not-has_room
returns-then-not-has_room c = refuses-full _ _ _ c.if-extract-gt-DOMAIN.false (leb-false _ _ (sym c.has_room.ensures ∙ c.if-not-has_room.true))

pub returns : goal.returns
returns c = carves _ _ _ c.if-extract-gt-DOMAIN.false (leb-true _ _ (sym c.has_room.ensures ∙ c.if-not-has_room.false)) c.fill_list.ensures
