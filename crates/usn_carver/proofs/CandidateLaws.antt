-- Every candidate that a run meets, and each carved record as what it is listed for: its parser accepts it, so no call of it can refuse.
-- Assumes nothing.
use Prim.Native.Nat.{ℕ, ◌+◌, ◌-◌, ◌≤◌}
use mathlib.Core.Path.{◌≡◌}
use mathlib.Core.List.{List, [], ◌∷◌}
use lib.ListN.{length}
use Rattle.base.specs.Lists.{All}
use Rattle.base.specs.Outcome.{answered}
use Rattle.base.specs.Places.{part}
use Rattle.base.specs.Walk.{Visit, from}
use Rattle.base.specs.declared.Place.{Place}
use Rattle.base.proofs.WalkLaws.{Finds, walk-all}
use Rattle.usn_record.specs.Bytes.{le_at}
use Rattle.usn_record.specs.Layout.{layout_of}
use Rattle.usn_record.specs.Record.{parsed, record_of, listed}
use Rattle.usn_record.proofs.ListedLaws.{WholeRecord, whole-parsed, whole-listed}
use Rattle.usn_carver.specs.Settings.{Settings}
use Rattle.usn_carver.specs.Events.{Event, rejected, carved, records}
use Rattle.usn_carver.specs.Carve.{carver_visit, events, carved_places}
use Rattle.usn_carver.proofs.VisitLaws.{Candidate, CandidateShape, stops, passes, rejects, carves, visit-shape}

-- an event is about a candidate
abbrev pub Met : Settings → List ℕ → Event → Type 0
Met st s (rejected why o v) = Candidate st s o v (le_at 4 s o)
Met st s (carved o v n) = Candidate st s o v n

module _ (st : Settings) (s : List ℕ) where
  shape-met : {o : ℕ} {v : Visit Event} → CandidateShape st s o v → Finds (Met st s) v
  shape-met (stops h) = tt
  shape-met (passes h) = tt
  shape-met (rejects why v n h k) = (rw k.size at k, tt)
  shape-met (carves v n h k) = (k, tt)

  pub events-met : All (Met st s) (events st s)
  unfolding from
  events-met = walk-all (Met st s) (carver_visit st s) (λ o. shape-met (visit-shape st s o)) (length s - 0) 0

-- a place of the list: its length is the length field, it ends inside, and the record there is the one that its parser makes of it
pub record IsRecord (s : List ℕ) (p : Place) : Type 0 where
  pub size : p.length ≡ le_at 4 s p.offset
  pub inside : p.offset + p.length ≤ length s
  pub accepted : listed s p.offset ≡ answered (record_of (layout_of (le_at 2 s (p.offset + 4))) (part s p.offset p.length))

module _ (st : Settings) (s : List ℕ) where
  -- a candidate is a whole record of its version
  candidate-whole : {o v n : ℕ} → Candidate st s o v n → WholeRecord s o n
  candidate-whole k =
      record {
        size = k.size;
        inside = k.inside;
        fixed = rw (← k.version) k.whole;
        most = k.most;
        version = rw (← k.version) k.known;
      }

  -- so its parser accepts it, and it is listed
  pub candidate-parsed : {o v n : ℕ} → Candidate st s o v n → parsed (layout_of v) (part s o n) ≡ answered (record_of (layout_of v) (part s o n))
  candidate-parsed k = rw k.version (whole-parsed (candidate-whole k))

  pub candidate-listed : {o v n : ℕ} → Candidate st s o v n → listed s o ≡ answered (record_of (layout_of v) (part s o n))
  candidate-listed k = rw k.version (whole-listed (candidate-whole k))

  records-of : (es : List Event) → All (Met st s) es → All (IsRecord s) (records es)
  records-of [] h = tt
  records-of (rejected why o v ∷ es) h = records-of es h.1
  records-of (carved o v n ∷ es) h =
      let k = h.0 in
      (record { size = k.size; inside = k.inside; accepted = rw (← k.version) (candidate-listed k) }, records-of es h.1)

  pub records-listed : All (IsRecord s) (carved_places st s)
  records-listed = records-of (events st s) (events-met st s)
