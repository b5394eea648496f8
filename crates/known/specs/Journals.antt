-- Known cases of the three journal readers.
use Rattle.std.specs.Prelude.{ℕ, List, [], ◌∷◌, ◌++◌, length, replicate}
use Rattle.base.specs.Lists.{flatten, place_words}
use Rattle.base.specs.Outcome.{outcome_words}
use Rattle.base.specs.Walk.{Visit, stop, go}
use Rattle.usn_scan.specs.Scan.{scan_visit, scanned}
use Rattle.usn_scan.specs.Outcome.{scan_answer}
use Rattle.usn_carver.specs.Settings.{standard}
use Rattle.usn_carver.specs.Events.{stats_words}
use Rattle.usn_carver.specs.Carve.{carved_places, stats_in, carving}
use Rattle.usn_window.specs.Journal.{WindowStep, over, onto, step_at, window_list}
use Rattle.known.specs.Case.{Case}
use Rattle.known.specs.Bytes.{record_header, timed, record_e}

-- what the scan (1), the window (2) and the carver (3) list of an extract. A row is given that number and what its extract is made of.
abbrev pub scans : ℕ → List ℕ → List ℕ → List ℕ → Case
scans of given s known = record { of = of; given = 1 ∷ given; says = flatten place_words (scanned s); known = known }

abbrev pub windows : ℕ → List ℕ → List ℕ → List ℕ → Case
windows of given s known = record { of = of; given = 2 ∷ given; says = flatten place_words (window_list s); known = known }

abbrev pub carves : ℕ → List ℕ → List ℕ → List ℕ → Case
carves of given s known = record { of = of; given = 3 ∷ given; says = flatten place_words (carved_places standard s); known = known }

-- the counters of carving (4): bytes, candidates, carved, rejected for their time, rejected for their structure
abbrev pub counts : ℕ → List ℕ → List ℕ → List ℕ → Case
counts of given s known = record { of = of; given = 4 ∷ given; says = stats_words (stats_in standard s); known = known }

-- P1: an empty extract has no records, and all counts are 0, also as the calls answer (5, 6)
abbrev pub empties : List Case
empties =
    record { of = 1; given = 5 ∷ []; says = outcome_words (λ n. n ∷ []) (scan_answer [] 0); known = 0 ∷ 0 ∷ [] }
    ∷ record { of = 1; given = 6 ∷ []; says = outcome_words stats_words (carving standard [] 0); known = 0 ∷ 0 ∷ 0 ∷ 0 ∷ 0 ∷ 0 ∷ [] }
    ∷ scans 1 [] [] []
    ∷ carves 1 [] [] []
    ∷ windows 1 [] [] []
    ∷ []

-- where a visit of the scan, and a step of the window, goes on
abbrev pub visit_next : {A : Type 0} → Visit A → List ℕ
visit_next stop = []
visit_next (go es p) = p ∷ []

abbrev pub step_next : WindowStep → List ℕ
step_next over = []
step_next (onto ps p e) = p ∷ []

-- P4: a length of 48, with version 9: the scan (1) moves 8, the window (2) 48
abbrev pub rubbish : ℕ → ℕ → List ℕ
rubbish n version = record_header n version ++ replicate 40 0

abbrev pub scan_moves : ℕ → ℕ → ℕ → Case
scan_moves n version to = record { of = 4; given = 1 ∷ n ∷ version ∷ []; says = visit_next (scan_visit (rubbish n version) 0); known = to ∷ [] }

abbrev pub window_moves : ℕ → ℕ → ℕ → Case
window_moves n version to =
    record { of = 4; given = 2 ∷ n ∷ version ∷ []; says = step_next (step_at (rubbish n version) 0 (length (rubbish n version))); known = to ∷ [] }

abbrev pub moves : List Case
moves = scan_moves 48 9 8 ∷ window_moves 48 9 48 ∷ []

-- P5: a header whose length passes the end, and then E: the carver alone finds it
abbrev pub hidden : ℕ → ℕ → List ℕ
hidden n version = record_header n version ++ record_e

abbrev pub claimed : (ℕ → List ℕ → List ℕ → List ℕ → Case) → ℕ → ℕ → List ℕ → Case
claimed reader n version known = reader 5 (n ∷ version ∷ []) (hidden n version) known

abbrev pub claims : List Case
claims =
    claimed scans 96 2 []
    ∷ claimed windows 96 2 []
    ∷ claimed carves 96 2 (8 ∷ 64 ∷ [])
    ∷ claimed counts 96 2 (72 ∷ 1 ∷ 1 ∷ 0 ∷ 0 ∷ [])
    ∷ []

-- P6: E with another time and another name offset. Times at the ends of the range are carved, one outside is rejected; a bad name offset counts before a bad
-- time.
abbrev pub judges : ℕ → ℕ → List ℕ → Case
judges time name_offset known = counts 6 (time ∷ name_offset ∷ []) (timed time name_offset) known

abbrev pub rejections : List Case
rejections =
    judges 125911583999999999 60 (64 ∷ 1 ∷ 0 ∷ 1 ∷ 0 ∷ [])
    ∷ judges 125911584000000000 60 (64 ∷ 1 ∷ 1 ∷ 0 ∷ 0 ∷ [])
    ∷ judges 135379776000000000 60 (64 ∷ 1 ∷ 1 ∷ 0 ∷ 0 ∷ [])
    ∷ judges 135379776000000001 60 (64 ∷ 1 ∷ 0 ∷ 1 ∷ 0 ∷ [])
    ∷ judges 125911583999999999 58 (64 ∷ 1 ∷ 0 ∷ 0 ∷ 1 ∷ [])
    ∷ []
