-- What the inner functions ask, and what their answers say.
use Rattle.std.specs.Prelude.{ℕ, ◌+◌, ◌≤◌, ◌≡◌, List, [], ◌∷◌, length}
use Rattle.base.specs.Walk.{Visit, stop, go}
use Rattle.usn_record.specs.Bytes.{le_at}
use Rattle.usn_record.specs.Record.{min_record, max_record}
use Rattle.usn_scan.specs.Scan.{Event, recorded, ranged}
use Rattle.usn_scan.specs.declared.step.ScanStep.{ScanStep}
use Rattle.usn_scan.specs.declared.step.ScanStep.TheVariants.{Stop, Move, Record, Range}

-- n bytes lie at o of an extract, as the length field there says, and a record may be so long
pub record Lying (s : List ℕ) (o n : ℕ) : Type 0 where
  pub size : n ≡ le_at 4 s o
  pub least : min_record ≤ n
  pub most : n ≤ max_record
  pub inside : o + n ≤ length s

-- a step of the code as a visit
abbrev pub scan_visit_of : ScanStep → Visit Event
scan_visit_of Stop = stop
scan_visit_of (Move p) = go [] p
scan_visit_of (Record p q) = go (recorded p ∷ []) q
scan_visit_of (Range p q) = go (ranged p ∷ []) q
