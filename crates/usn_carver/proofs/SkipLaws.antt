-- Zero words change nothing of a walk: a word of 8 zero bytes begins with four, which move on 8. Assumes nothing.
use Prim.Native.Nat.{ℕ, ◌+◌}
use mathlib.Core.Path.{◌≡◌, refl, sym}
use mathlib.Core.List.{List, []}
use native.Mathlib.Omega.{arith}
use lib.ListN.{length}
use Rattle.base.specs.Walk.{go}
use Rattle.base.proofs.WalkLaws.{left}
use Rattle.usn_record.specs.Zeros.{PastZeros}
use Rattle.usn_record.proofs.ZeroLaws.{zeros-passed}
use Rattle.usn_carver.specs.Settings.{Settings}
use Rattle.usn_carver.specs.Carve.{carver_visit, events_from}
use Rattle.usn_carver.proofs.VisitLaws.{passed-zero}
use Rattle.usn_carver.proofs.RunLaws.{visit-forward}

pub skipped : (st : Settings) (s : List ℕ) {o p : ℕ} → PastZeros s o p → events_from st s p ≡ events_from st s o
skipped st s =
    zeros-passed s (events_from st s)
    (λ q h e. sym (left (carver_visit st s) (length s) (visit-forward st s) q (go [] (q + 8)) (passed-zero st s q (omega arith) (sym e) refl)).0)
