-- What the answers of the inner functions say.
use Rattle.std.specs.Prelude.{ℕ, [], ◌∷◌}
use Rattle.base.specs.Walk.{Visit, stop, go}
use Rattle.usn_carver.specs.Settings.{Settings, settings_of}
use Rattle.usn_carver.specs.Events.{Event, structure, time, rejected, carved}
use Rattle.usn_carver.specs.declared.limits.Limits.{Limits}
use Rattle.usn_carver.specs.declared.step.Candidate.{Candidate}
use Rattle.usn_carver.specs.declared.step.Fate.{Fate}
use Rattle.usn_carver.specs.declared.step.Fate.TheVariants.{BadStructure, BadTime, Carved}
use Rattle.usn_carver.specs.declared.step.CarveStep.{CarveStep}
use Rattle.usn_carver.specs.declared.step.CarveStep.TheVariants.{Stop, Zero, Move, Met}

-- the limits of the code
abbrev pub settings_by : Limits → Settings
settings_by l = settings_of l.first l.last

-- a candidate as an event
abbrev pub event_by : ℕ → ℕ → Fate → Event
event_by o v BadStructure = rejected structure o v
event_by o v BadTime = rejected time o v
event_by o v (Carved n) = carved o v n

abbrev pub event_of : Candidate → Event
event_of c = event_by c.offset c.version c.fate

-- a step as a visit
abbrev pub carver_visit_of : CarveStep → Visit Event
carver_visit_of Stop = stop
carver_visit_of (Zero p) = go [] p
carver_visit_of (Move p) = go [] p
carver_visit_of (Met c p) = go (event_of c ∷ []) p
