-- Each way out by the tests that led to it; the last is the version's.
use native.Mathlib.Omega.{arith}
use Rattle.usn_scan.proofs.StepLaws.{visit-no-header, visit-short, visit-long, visit-past-end, visit-inside}
use Rattle.usn_scan.proofs.step.scan_step.Goals as goal
use Rattle.usn_scan.proofs.step.scan_step.Goals.{then-size-lt8-via-then-size-lt8, then-size-lt8-via-else-size-lt8+then-size-o, then-n-lt-USN_V4_MIN_SIZE-via-then-n-lt-USN_V4_MIN_SIZE, then-n-lt-USN_V4_MIN_SIZE-via-else-n-lt-USN_V4_MIN_SIZE+then-n-gt-USN_MAX_RECORD_SIZE}

pub returns-then-size-lt8 : goal.returns-then-size-lt8
returns-then-size-lt8 c = visit-no-header _ _ (elim c.then-size-lt8.branch [ then-size-lt8-via-then-size-lt8 w ↦ omega arith | then-size-lt8-via-else-size-lt8+then-size-o w ↦ omega arith ])

pub returns-then-n-lt-USN_V4_MIN_SIZE : goal.returns-then-n-lt-USN_V4_MIN_SIZE
returns-then-n-lt-USN_V4_MIN_SIZE c =
    elim c.then-n-lt-USN_V4_MIN_SIZE.branch [
      | then-n-lt-USN_V4_MIN_SIZE-via-then-n-lt-USN_V4_MIN_SIZE w ↦ visit-short _ _ (omega arith) c.le_u32-n.ensures (omega arith)
      | then-n-lt-USN_V4_MIN_SIZE-via-else-n-lt-USN_V4_MIN_SIZE+then-n-gt-USN_MAX_RECORD_SIZE w ↦ visit-long _ _ (omega arith) c.le_u32-n.ensures (omega arith)
    ]

pub returns-then-size-o-2 : goal.returns-then-size-o-2
returns-then-size-o-2 c = visit-past-end _ _ (omega arith) c.le_u32-n.ensures (omega arith) (omega arith) (omega arith)

pub returns : goal.returns
returns c = visit-inside _ _ (omega arith) c.le_u32-n.ensures (omega arith) (omega arith) (omega arith) c.version_step.ensures
