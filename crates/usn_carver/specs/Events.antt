-- What becomes of the candidates that carving meets, and what is counted and listed of it.
use Rattle.std.specs.Prelude.{ℕ, suc, List, [], ◌∷◌, Bool, true, false, length}
use Rattle.base.specs.declared.Place.{Place}
use Rattle.usn_carver.specs.declared.CarvingStats.{CarvingStats}

-- why a candidate is rejected
pub data Reason : Type 0 where
  structure : Reason
  time : Reason

-- a candidate, by its offset and version: rejected, or carved with its length
pub data Event : Type 0 where
  rejected : Reason → ℕ → ℕ → Event
  carved : ℕ → ℕ → ℕ → Event

-- the places of the carved records, in order
abbrev pub records : List Event → List Place
records [] = []
records (rejected why o v ∷ es) = records es
records (carved o v n ∷ es) = record { offset = o; length = n } ∷ records es

-- whether one is carved
abbrev pub is_carved : Event → Bool
is_carved (rejected why o v) = false
is_carved (carved o v n) = true

-- how many are rejected for their structure
abbrev pub structures : List Event → ℕ
structures [] = 0
structures (rejected structure o v ∷ es) = suc (structures es)
structures (rejected time o v ∷ es) = structures es
structures (carved o v n ∷ es) = structures es

-- how many are rejected for their time
abbrev pub times : List Event → ℕ
times [] = 0
times (rejected structure o v ∷ es) = times es
times (rejected time o v ∷ es) = suc (times es)
times (carved o v n ∷ es) = times es

-- the counters of a run over so many bytes: every event is a candidate that was met
abbrev pub stats_of : ℕ → List Event → CarvingStats
stats_of size es =
    record {
      bytes_scanned = size;
      candidates_examined = length es;
      records_carved = length (records es);
      rejected_timestamp = times es;
      rejected_structure = structures es;
    }

-- the counters as words
abbrev pub stats_words : CarvingStats → List ℕ
stats_words c = c.bytes_scanned ∷ c.candidates_examined ∷ c.records_carved ∷ c.rejected_timestamp ∷ c.rejected_structure ∷ []
