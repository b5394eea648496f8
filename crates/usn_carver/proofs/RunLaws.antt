-- A whole run: it goes forward by multiples of 8, a carved record takes 64 bytes of it, of which the last may lack 4, and each candidate is
-- counted once. Assumes nothing.
use Prim.Native.Nat.{ℕ, zero, suc, ◌+◌, ◌-◌, ◌*◌, ◌/◌, ◌%◌, ◌≤◌}
use mathlib.Core.Path.{◌≡◌, refl, ap, sym, ◌∙◌}
use mathlib.Core.List.{List, [], ◌∷◌}
use native.Mathlib.Omega.{arith}
use Rattle.std.specs.Prelude.{count_by, cond}
use Rattle.std.proofs.lemmas.List.Recursion.{is_count_by}
use lib.ListN.{length}
use Rattle.base.specs.Lists.{All}
use Rattle.base.specs.Places.{round8}
use Rattle.base.specs.Walk.{Visit, going_on, walk, from}
use Rattle.base.proofs.WalkLaws.{Forward, Costs, walk-bound, Left, left}
use Rattle.usn_record.proofs.NameLaws.{fixed-low}
use Rattle.usn_carver.specs.Settings.{Settings}
use Rattle.usn_carver.specs.Events.{structure, time, Event, rejected, carved, records, is_carved, structures, times}
use Rattle.usn_carver.specs.Carve.{carver_visit, events_from, events, carved_places}
use Rattle.usn_carver.specs.Step.{carver_visit_of}
use Rattle.usn_carver.specs.declared.step.CarveStep.{CarveStep}
use Rattle.usn_carver.proofs.VisitLaws.{CandidateShape, stops, passes, rejects, carves, visit-shape}

-- every candidate that is met is carved, or rejected for its structure or its time
pub candidates-add-up : (es : List Event) → length es ≡ length (records es) + structures es + times es
candidates-add-up [] = refl
candidates-add-up (rejected structure o v ∷ es) = omega (arith, candidates-add-up es)
candidates-add-up (rejected time o v ∷ es) = omega (arith, candidates-add-up es)
candidates-add-up (carved o v n ∷ es) = omega (arith, candidates-add-up es)

-- so many are carved as there are records
carved-one : (e : Event) (es : List Event) → length (records (e ∷ es)) ≡ cond (is_carved e) (1 + length (records es)) (length (records es))
carved-one (rejected why o v) es = refl
carved-one (carved o v n) es = omega arith

pub carved-counted : (es : List Event) → count_by is_carved es ≡ length (records es)
carved-counted es = sym (is_count_by (λ (xs : List Event). length (records xs)) is_carved refl carved-one es)

-- an event at a multiple of 8
abbrev pub Aligned : Event → Type 0
Aligned (rejected why o v) = o % 8 ≡ 0
Aligned (carved o v n) = o % 8 ≡ 0

module _ (st : Settings) (s : List ℕ) where
  shape-forward : {o : ℕ} {v : Visit Event} → CandidateShape st s o v → Forward (length s) o v
  shape-forward (stops h) = tt
  shape-forward (passes h) = omega arith
  shape-forward (rejects why v n h k) = omega arith
  shape-forward {o} (carves v n h k) = omega (arith, k.whole, fixed-low v)

  pub visit-forward : (o : ℕ) → Forward (length s) o (carver_visit st s o)
  visit-forward o = shape-forward (visit-shape st s o)

  -- what is left of the run at o, by what the step there says
  pub rest : (o : ℕ) {r x : CarveStep} → r ≡ x → carver_visit_of r ≡ carver_visit st s o → Left (carver_visit st s) (length s) o (carver_visit_of x)
  rest o {x = x} e f = left (carver_visit st s) (length s) visit-forward o (carver_visit_of x) (ap carver_visit_of (sym e) ∙ f)

  -- how many records there can be from o on
  abbrev Few : ℕ → List Event → Type 0
  Few o es = 64 * length (records es) ≤ length s + 4 - o

  after-few : {o : ℕ} {v : Visit Event} → CandidateShape st s o v → (f : ℕ → List Event) → ((p : ℕ) → Few p (f p)) → Few o (going_on v f)
  after-few (stops h) f i = omega arith
  after-few {o} (passes h) f i = omega (arith, i (o + 8))
  after-few {o} (rejects why v n h k) f i = omega (arith, i (o + 8))
  after-few {o} (carves v n h k) f i = omega (arith, i (o + round8 n), k.whole, k.inside, fixed-low v)

  walk-few : (k o : ℕ) → Few o (walk (carver_visit st s) k o)
  unfolding walk
  walk-few zero o = omega arith
  walk-few (suc k) o = after-few (visit-shape st s o) (walk (carver_visit st s) k) (walk-few k)

  pub records-few : 64 * length (carved_places st s) ≤ length s + 4
  unfolding from
  records-few = omega (arith, walk-few (length s - 0) 0)

  -- so room for so many is enough
  pub room-enough : {room : ℕ} → (length s + 4) / 64 ≤ room → length (carved_places st s) ≤ room
  room-enough h = omega (arith, records-few)

  -- and the candidates take 8 bytes each of a run that ends within 8 bytes of the end
  shape-costs : {o : ℕ} {v : Visit Event} → CandidateShape st s o v → Costs 8 (length s + 8) o v
  shape-costs (stops h) = tt
  shape-costs (passes h) = omega arith
  shape-costs (rejects why v n h k) = omega arith
  shape-costs {o} (carves v n h k) = omega (arith, k.whole, k.inside, fixed-low v)

  pub events-few : length (events st s) ≤ length s + 8
  unfolding from
  events-few = omega (arith, walk-bound (carver_visit st s) 8 (length s + 8) (λ o. shape-costs (visit-shape st s o)) (length s - 0) 0 (omega arith))

  -- what is left at the start is all
  pub from-start : {st' : Settings} {t : List ℕ} {o : ℕ} → st' ≡ st → t ≡ s → o ≡ 0 → events_from st' t o ≡ events st s
  from-start e f g = rw (e, f, g)

  -- the visits that find something are at multiples of 8
  after-aligned : {o : ℕ} {v : Visit Event} → CandidateShape st s o v → (f : ℕ → List Event) → o % 8 ≡ 0 → ((p : ℕ) → p % 8 ≡ 0 → All Aligned (f p)) → All Aligned (going_on v f)
  after-aligned (stops h) f a i = tt
  after-aligned {o} (passes h) f a i = i (o + 8) (omega arith)
  after-aligned {o} (rejects why v n h k) f a i = (a, i (o + 8) (omega arith))
  after-aligned {o} (carves v n h k) f a i = (a, i (o + round8 n) (omega arith))

  walk-aligned : (k o : ℕ) → o % 8 ≡ 0 → All Aligned (walk (carver_visit st s) k o)
  unfolding walk
  walk-aligned zero o a = tt
  walk-aligned (suc k) o a = after-aligned (visit-shape st s o) (walk (carver_visit st s) k) a (walk-aligned k)

  pub events-aligned : All Aligned (events st s)
  unfolding from
  events-aligned = walk-aligned (length s - 0) 0 refl
