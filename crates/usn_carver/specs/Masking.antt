-- What the second of two carving runs may replace, and where the claim that nothing changes has its exception.
use Rattle.std.specs.Prelude.{ℕ, ◌+◌}
use mathlib.Core.List.{List, [], Memᴰ}
use Rattle.base.specs.Outcome.{Outcome, refused, answered, listed_by}
use Rattle.base.specs.Masked.{places_of}
use Rattle.base.specs.declared.Place.{Place}
use Rattle.usn_record.specs.Names.{name_at}
use Rattle.usn_carver.specs.Settings.{Settings}
use Rattle.usn_carver.specs.Events.{Reason, Event, rejected, carved}
use Rattle.usn_carver.specs.Carve.{carved_places, carving}

-- the name of a carved record
abbrev pub name_of : List ℕ → Event → List Place
name_of s (rejected why o v) = []
name_of s (carved o v n) = name_at s o

-- no carved version 2 record begins 8 bytes after a rejected version 3 candidate, which has read 76 bytes from its offset on, while the
-- record's name begins 68 bytes after it
abbrev pub NoOverlap : List Event → Type 0
NoOverlap es = (why : Reason) (o n : ℕ) → Memᴰ (rejected why o 3) es → Memᴰ (carved (o + 8) 2 n) es → ⊥

-- what is only asked of a call that answers
abbrev pub IfAnswered : {A : Type 0} → Outcome A → Type 0 → Type 0
IfAnswered (refused n) P = Unit {0}
IfAnswered (answered a) P = P

-- the records that a call with a list of so many words lists, and their names
abbrev pub carved_records : Settings → List ℕ → ℕ → List Place
carved_records st s words = listed_by (λ _. carved_places st s) (carving st s words)

abbrev pub carved_names : Settings → List ℕ → ℕ → List Place
carved_names st s words = places_of (λ p. name_at s p.offset) (carved_records st s words)
