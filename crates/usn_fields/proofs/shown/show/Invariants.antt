-- The bytes so far are shown.
use mathlib.Core.Path.{◌≡◌}
use Rattle.usn_fields.specs.Line.{shown_to}
use Rattle.usn_fields.proofs.shown.show.Given as goal

abbrev pub invariant-loop-byte : goal.invariant-loop-byte
invariant-loop-byte l = l.byte-items ≡ shown_to l.byte-index l.initial.byte-items
