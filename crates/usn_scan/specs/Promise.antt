-- What the call promises. The record says it of lists: what the lent slices hold before, and, with ', after. The promise itself takes the call's parameters.
use Rattle.std.specs.Prelude.{ℕ, ◌≡◌, List, length, Result}
use Rattle.base.specs.Lent.{Lent, MutLent, before, before_mut, after}
use Rattle.base.specs.Outcome.{outcome}
use Rattle.base.specs.declared.refusal.Refusal.{Refusal}
use Rattle.usn_scan.specs.Outcome.{scan_answer, scan_list}

-- a scan: its answer, and the list of the records' places
pub record Scans (extract list : List ℕ) (r : Result ℕ Refusal) (list' : List ℕ) : Type 0 where
  pub answer : outcome r ≡ scan_answer extract (length list)
  pub places : list' ≡ scan_list extract list

abbrev pub ScanPromise : Lent → MutLent → Result ℕ Refusal → Type 0
ScanPromise extract list r = Scans (before extract) (before_mut list) r (after list)
