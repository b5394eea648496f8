-- The scan of an extract as a C call.
use Rattle.std.specs.Prelude.{ℕ, List, length}
use Rattle.base.specs.Outcome.{Outcome}
use Rattle.base.specs.Words.{after_domain, count_words}
use Rattle.base.specs.declared.Place.{Place}
use Rattle.usn_scan.specs.Outcome.{scan}

-- the scan of s, with lent lists for the records' places and for their number
abbrev pub scan_call : List ℕ → List ℕ → List ℕ → Outcome (List Place)
scan_call s list out = after_domain 1 (length out) (scan s (length list))

-- the number of the records as a word
abbrev pub scan_words : List Place → List ℕ
scan_words ps = count_words (length ps)
