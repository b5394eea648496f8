-- Each byte in turn.
use Rattle.usn_fields.proofs.ShownLaws.{shown-none, shown-next, shown-all}
use Rattle.usn_fields.proofs.shown.show.Goals as goal

pub loop-byte-init : goal.loop-byte-init
loop-byte-init c = shown-none _

pub loop-byte-preserved : goal.loop-byte-preserved
loop-byte-preserved c = shown-next _ _ c.loop-byte-test.true c.loop-byte.invariant c.shown_byte.ensures

pub returns : goal.returns
returns c = shown-all _ _ c.loop-byte.invariant c.loop-byte-test.false
