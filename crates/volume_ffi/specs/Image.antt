-- Image carving as a C call.
use Rattle.std.specs.Prelude.{ℕ, List, length}
use Rattle.base.specs.Lists.{flatten}
use Rattle.base.specs.Outcome.{Outcome}
use Rattle.base.specs.Words.{after_domain}
use Rattle.mft_carver.specs.Settings.{standard}
use Rattle.mft_carver.specs.Carve.{carving, entries_in, entry_words}
use Rattle.mft_carver.specs.declared.MftCarvingStats.{MftCarvingStats}

-- carving s, with lent lists for the entries and for the counters
abbrev pub carve_call : List ℕ → List ℕ → List ℕ → Outcome MftCarvingStats
carve_call s list out = after_domain 4 (length out) (carving standard s (length list))

-- the words of the entries that are carved from s
abbrev pub carved_words : List ℕ → MftCarvingStats → List ℕ
carved_words s _ = flatten entry_words (entries_in standard s)
