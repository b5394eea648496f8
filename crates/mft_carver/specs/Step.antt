-- What the answers of the inner functions say.
use Rattle.std.specs.Prelude.{ℕ, [], ◌∷◌, Bool, true, false, Option, Some, None}
use Rattle.base.specs.Walk.{Visit, stop, go}
use Rattle.mft_carver.specs.Entry.{Event, rejected, carved}
use Rattle.mft_carver.specs.declared.CarvedMftEntry.{CarvedMftEntry}
use Rattle.mft_carver.specs.declared.step.Candidate.{Candidate}
use Rattle.mft_carver.specs.declared.step.Candidate.TheVariants.{Rejected, Carved}
use Rattle.mft_carver.specs.declared.step.CarveStep.{CarveStep}
use Rattle.mft_carver.specs.declared.step.CarveStep.TheVariants.{Stop, Move, Met}

-- what became of the candidate at o
abbrev pub event_of : ℕ → Option CarvedMftEntry → Event
event_of o None = rejected o
event_of o (Some x) = carved x

-- a candidate as an event
abbrev pub event_by : Candidate → Event
event_by (Rejected o) = rejected o
event_by (Carved x) = carved x

-- whether an event is of a carved entry
abbrev pub is_carved : Event → Bool
is_carved (rejected o) = false
is_carved (carved x) = true

-- a step as a visit
abbrev pub image_visit_of : CarveStep → Visit Event
image_visit_of Stop = stop
image_visit_of (Move p) = go [] p
image_visit_of (Met c p) = go (event_by c ∷ []) p
