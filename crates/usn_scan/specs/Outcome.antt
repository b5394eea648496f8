-- The outcome of a scan: its answer, and what the lent list holds after it.
use Rattle.std.specs.Prelude.{ℕ, ◌/◌, List, cond, length, ltb, leb}
use Rattle.base.specs.Lists.{flatten, place_words, list_after}
use Rattle.base.specs.Outcome.{Outcome, refused, answered, map_outcome, listed_by}
use Rattle.base.specs.Refusals.{above_domain, list_full, domain}
use Rattle.base.specs.declared.Place.{Place}
use Rattle.usn_scan.specs.Scan.{scanned}

-- the scan of s with a list of so many words, two for each record: the refusals in their order, and the records
unfoldable pub scan : List ℕ → ℕ → Outcome (List Place)
scan s words =
    cond (ltb domain (length s)) (refused above_domain)
    (cond (leb (length (scanned s)) (words / 2)) (answered (scanned s))
    (refused list_full))

-- its answer is the number of records
abbrev pub scan_answer : List ℕ → ℕ → Outcome ℕ
scan_answer s words = map_outcome length (scan s words)

-- what a list that held l holds after it: the records' places in front, and l where it is refused
abbrev pub scan_list : List ℕ → List ℕ → List ℕ
scan_list s l = list_after (flatten place_words) (scan s (length l)) l

-- the records that a scan lists: none where it is refused
abbrev pub listing : Outcome (List Place) → List Place
listing = listed_by (λ ps. ps)
