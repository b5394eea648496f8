-- A word of zeros moves the scan on 8, since its length field is 0, so what is met past zero words is all that is met from them on.
-- Assumes nothing.
use Prim.Native.Nat.{ℕ, ◌+◌, ◌≤◌}
use mathlib.Core.Path.{◌≡◌, refl, sym}
use mathlib.Core.List.{List, []}
use native.Mathlib.Omega.{arith}
use lib.ListN.{length}
use Rattle.base.specs.Walk.{go}
use Rattle.base.proofs.WalkLaws.{left}
use Rattle.usn_record.specs.Bytes.{le_at}
use Rattle.usn_record.specs.Zeros.{PastZeros}
use Rattle.usn_record.proofs.ZeroLaws.{zeros-passed}
use Rattle.usn_scan.specs.Scan.{scan_visit, events_from}
use Rattle.usn_scan.proofs.StepLaws.{visit-short}
use Rattle.usn_scan.proofs.ScanLaws.{visit-forward}

pub zero_word : (s : List ℕ) (o : ℕ) → o + 8 ≤ length s → le_at 4 s o ≡ 0 → go [] (o + 8) ≡ scan_visit s o
zero_word s o h e = visit-short s o h refl (omega arith)

pub skipped : (s : List ℕ) {o p : ℕ} → PastZeros s o p → events_from s p ≡ events_from s o
skipped s =
    zeros-passed s (events_from s)
    (λ q h e. sym (left (scan_visit s) (length s) (visit-forward s) q (go [] (q + 8)) (zero_word s q h e)).0)
