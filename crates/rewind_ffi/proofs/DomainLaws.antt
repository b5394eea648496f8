-- A start, a step and a run of a rewind are refused for the domain where journal or image is above it. Assumes nothing.
use Prim.Native.Nat.{ℕ, ◌+◌}
use mathlib.Core.Path.{refl}
use mathlib.Core.List.{List, [], ◌∷◌}
use mathlib.Core.Bool.{Bool, true, false, cond, not, ◌||◌}
use lib.Dec.{ltb, eqb}
use Rattle.base.specs.Outcome.{Outcome, refused, answered, map_outcome, and_then}
use Rattle.base.specs.Refusals.{above_domain, bad_state, not_a_record, name_outside, domain}
use Rattle.base.proofs.ChoiceLaws.{cond_cases}
use Rattle.base.proofs.WordLaws.{Domain, domain-answered, domain-refused, domain-choice}
use Rattle.entry_slots.specs.Names.{all_inside}
use Rattle.entry_slots.specs.Slots.{slots_in, names_in}
use Rattle.entry_slots.specs.Table.{Table, table, Addition, known}
use Rattle.additions.specs.Entries.{forward}
use Rattle.additions.specs.Storing.{new_keys, keys_of, adding}
use Rattle.additions.specs.declared.entries.RecordEntry.{RecordEntry}
use Rattle.chain.specs.Settings.{depth}
use Rattle.rewind_records.specs.Environment.{Environment, environment_of, all_answered, rewind_refusal, tested}
use Rattle.rewind_records.specs.Turning.{Next, ended, next, turning}
use Rattle.rewind_steps.specs.Taking.{Step, step_of, taken}
use Rattle.rewind_steps.specs.StepText.{next_text}
use Rattle.rewind.specs.Starting.{used_backward, starting, started}
use Rattle.rewind.specs.Stepping.{stepped, forward_table}
use Rattle.rewind.specs.Written.{stepped_with_text}
use Rattle.rewind.specs.declared.Rewind.{Rewind}
use Rattle.rewind_run.specs.Running.{tested_run}
use Rattle.volume_answers.specs.Domain.{either_above}
use Rattle.volume_answers.proofs.DomainLaws.{text-domain}
use Rattle.rewind_ffi.specs.Rewind.{rewind_of}

-- the numbers that a rewind may be refused with: 1 where journal or image is above the domain
module _ (env : Environment) (t : Table) (P : Bool → ℕ → Type 0) where
  first : (above : Bool) {n : ℕ} → P true above_domain → P false n → P above (cond above above_domain n)
  first true a h = a
  first false a h = h

  refusals : P true above_domain → P false bad_state → P false not_a_record → P false name_outside → P false 0
      → P (ltb domain env.lengths.journal || ltb domain env.lengths.image) (rewind_refusal env t)
  unfolding rewind_refusal
  refusals a b c d e =
      first (ltb domain env.lengths.journal || ltb domain env.lengths.image) a
      (cond_cases (P false) (ltb (slots_in t.words) t.used) {x = bad_state} (λ _. b)
      (λ _. cond_cases (P false) (not (all_answered env.records)) {x = not_a_record} (λ _. c)
      (λ _. cond_cases (P false) (not (all_inside env.lengths (names_in t.words t.used))) {x = name_outside} {y = 0} (λ _. d) (λ _. e))))

-- where x comes after them
tested-domain : {A : Type 0} (env : Environment) (t : Table) {x : Outcome A} → Domain false x
    → Domain (ltb domain env.lengths.journal || ltb domain env.lengths.image) (tested env t x)
tested-domain {A} env t {x} h =
    refusals env t (λ above n. Domain {A = A} above (cond (eqb n 0) x (refused n))) (record { test = refl }) (domain-refused 9 refl) (domain-refused 12 refl) (domain-refused 7 refl) h

-- a record that is added
added-domain : (t : Table) (xs : List Addition) → Domain false (adding t xs)
unfolding adding
added-domain t xs = domain-choice (ltb (slots_in t.words) (t.used + new_keys (known t) (keys_of xs))) (domain-refused 6 refl) (domain-answered _)

mapped-domain : {A B : Type 0} (f : A → B) (x : Outcome A) → Domain false x → Domain false (map_outcome f x)
mapped-domain f (refused n) d = record { test = d.test }
mapped-domain f (answered a) d = domain-answered _

taken-domain : (t : Table) (x : Next RecordEntry) → Domain false (taken t depth x)
taken-domain t ended = domain-answered _
taken-domain t (next e) = mapped-domain (λ u. next (step_of depth e u)) (adding t (forward e ∷ [])) (added-domain t (forward e ∷ []))

then-domain : {A B : Type 0} {above : Bool} (x : Outcome A) (f : A → Outcome B) → Domain above x → ((a : A) → Domain false (f a)) → Domain above (and_then x f)
then-domain (refused n) f d h = record { test = d.test }
then-domain (answered a) f d h = rw d.test at (h a)

-- the calls
module _ (journal image records : List ℕ) where
  pub start-domain : (slots : List ℕ) (used : ℕ) (forward : List ℕ) → Domain (either_above journal image) (started journal image records (table slots used) forward)
  unfolding starting
  start-domain slots used forward =
      let env = environment_of journal image records in
      let t = table slots used in
      tested-domain env t
      (domain-choice (ltb (slots_in slots) (used_backward env t) || ltb (slots_in forward) (used_backward env t)) (domain-refused 6 refl) (domain-answered _))

  module _ (forward : List ℕ) (used position : ℕ) where
    pub step-domain : Domain (either_above journal image) (stepped journal image records forward (rewind_of used position))
    unfolding turning
    step-domain =
        let env = environment_of journal image records in
        let t = table forward used in
        then-domain (turning env t position) (taken t depth) (tested-domain env t (domain-answered _)) (taken-domain t)

    pub step-text-domain : (room : ℕ) → Domain (either_above journal image) (stepped_with_text journal image records forward (rewind_of used position) room)
    step-text-domain room = text-domain (next_text journal image) room (stepped journal image records forward (rewind_of used position)) step-domain

  pub run-domain : (words : List ℕ) (rewind : Rewind) (room asked : ℕ) → Domain (either_above journal image) (tested_run journal image records words rewind room asked)
  unfolding tested_run
  run-domain words rewind room asked = tested-domain (environment_of journal image records) (forward_table words rewind) (domain-answered _)
