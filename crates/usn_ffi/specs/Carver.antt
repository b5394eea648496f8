-- The carving of records as a C call.
use Rattle.std.specs.Prelude.{ℕ, List, length}
use Rattle.base.specs.Lists.{flatten, place_words}
use Rattle.base.specs.Outcome.{Outcome}
use Rattle.base.specs.Words.{after_domain}
use Rattle.usn_carver.specs.Settings.{standard}
use Rattle.usn_carver.specs.Carve.{carving, carved_places}
use Rattle.usn_carver.specs.declared.CarvingStats.{CarvingStats}

-- carving s, with lent lists for the records' places and for the counters
abbrev pub carve_call : List ℕ → List ℕ → List ℕ → Outcome CarvingStats
carve_call s list out = after_domain 5 (length out) (carving standard s (length list))

-- the words of the places of the records that are carved from s
abbrev pub carved_words : List ℕ → CarvingStats → List ℕ
carved_words s _ = flatten place_words (carved_places standard s)
