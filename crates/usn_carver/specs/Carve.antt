-- The carving of USN records from raw bytes: the rule for one offset, the events of a whole extract, and the outcome of the call.
use Rattle.std.specs.Prelude.{ℕ, ◌+◌, ◌/◌, ◌%◌, List, [], ◌∷◌, Bool, cond, not, ◌&&◌, ◌||◌, ℤ, length, ltb, leb, eqb}
use Rattle.std.specs.Int.Signed.{lt_z}
use Rattle.std.specs.Int.{w64}
use Rattle.std.proofs.Common.{to_z}
use Rattle.base.specs.Outcome.{Outcome, refused, answered}
use Rattle.base.specs.Lists.{flatten, place_words, list_after}
use Rattle.base.specs.Places.{round8}
use Rattle.base.specs.Refusals.{above_domain, list_full, domain}
use Rattle.base.specs.Walk.{Visit, stop, go, from}
use Rattle.base.specs.declared.Place.{Place}
use Rattle.usn_record.specs.Bytes.{le_at}
use Rattle.usn_record.specs.Layout.{Layout, v2, v3}
use Rattle.usn_record.specs.Record.{max_record, major_at}
use Rattle.usn_carver.specs.Settings.{Settings}
use Rattle.usn_carver.specs.Events.{Event, structure, time, rejected, carved, records, stats_of}
use Rattle.usn_carver.specs.declared.CarvingStats.{CarvingStats}

-- the numbers that decide on a candidate, beside its version
pub record CandidateHeader : Type 0 where
  pub size : ℕ
  pub name_offset : ℕ
  pub name_length : ℕ
  -- as stored, signed
  pub filetime : ℤ

-- a candidate of n bytes at o, in an extract with this end: its length is from the fixed part to the largest, and it ends inside
abbrev pub fits_inside : ℕ → ℕ → ℕ → ℕ → Bool
fits_inside fixed end o n = leb fixed n && leb n max_record && leb (o + n) end

abbrev pub is_candidate : Layout → ℕ → ℕ → ℕ → Bool
is_candidate l end o n = fits_inside l.fixed end o n

-- the name does not begin after the fixed part, or passes the record, or its length is 0 or odd
abbrev pub bad_name : ℕ → ℕ → ℕ → ℕ → Bool
bad_name fixed size offset bytes = not (eqb offset fixed) || ltb size (offset + bytes) || eqb bytes 0 || not (eqb (bytes % 2) 0)

-- the time lies outside the limits
abbrev pub bad_time : ℤ → ℤ → ℤ → Bool
bad_time lower upper z = lt_z z lower || lt_z upper z

-- what becomes of a candidate at o: only a carved record is passed whole, rounded up to 8 bytes
unfoldable pub judged : Settings → Layout → ℕ → CandidateHeader → Visit Event
judged st l o h =
    cond (bad_name l.fixed h.size h.name_offset h.name_length) (go (rejected structure o l.major ∷ []) (o + 8))
    (cond (bad_time st.lower st.upper h.filetime) (go (rejected time o l.major ∷ []) (o + 8))
    (go (carved o l.major h.size ∷ []) (o + round8 h.size)))

-- the numbers of a record of layout l at o of s
abbrev pub candidate_header_at : Layout → List ℕ → ℕ → CandidateHeader
candidate_header_at l s o =
    record {
      size = le_at 4 s o;
      name_offset = le_at 2 s (o + l.name_offset);
      name_length = le_at 2 s (o + l.name_length);
      filetime = to_z w64 (le_at 8 s (o + l.time));
    }

-- a visit of o, where the version has layout l
unfoldable pub carver_visit_as : Settings → Layout → List ℕ → ℕ → Visit Event
carver_visit_as st l s o = cond (is_candidate l (length s) o (le_at 4 s o)) (judged st l o (candidate_header_at l s o)) (go [] (o + 8))

-- a visit of o, while 8 bytes fit: four zero bytes move on 8, and so does a version other than 2 and 3
unfoldable pub carver_visit : Settings → List ℕ → ℕ → Visit Event
carver_visit st s o =
    let version = major_at s o in
    cond (ltb (length s) (o + 8)) stop
    (cond (eqb (le_at 4 s o) 0) (go [] (o + 8))
    (cond (eqb version 2) (carver_visit_as st v2 s o)
    (cond (eqb version 3) (carver_visit_as st v3 s o)
    (go [] (o + 8)))))

-- the events from o on, and those of the whole extract
abbrev pub events_from : Settings → List ℕ → ℕ → List Event
events_from st s = from (carver_visit st s) (length s)

abbrev pub events : Settings → List ℕ → List Event
events st s = events_from st s 0

-- its records, in order, and its counters
abbrev pub carved_places : Settings → List ℕ → List Place
carved_places st s = records (events st s)

abbrev pub stats_in : Settings → List ℕ → CarvingStats
stats_in st s = stats_of (length s) (events st s)

-- the outcome of a call whose list has so many words, two for a record
unfoldable pub carving : Settings → List ℕ → ℕ → Outcome CarvingStats
carving st s words =
    cond (ltb domain (length s)) (refused above_domain)
    (cond (ltb (words / 2) (length (carved_places st s))) (refused list_full)
    (answered (stats_in st s)))

-- what the lent list l holds after that call
abbrev pub carving_list : Settings → List ℕ → List ℕ → List ℕ
carving_list st s l = list_after (λ _. flatten place_words (carved_places st s)) (carving st s (length l)) l
