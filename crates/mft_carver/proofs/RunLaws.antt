-- A whole run: the ways out of a visit, and that it goes forward an entry at a time and counts each candidate once. Assumes nothing.
use Prim.Native.Nat.{ℕ, ◌+◌, ◌-◌, ◌*◌, ◌/◌, ◌≤◌}
use mathlib.Core.Path.{◌≡◌, refl, ap, sym, ◌∙◌}
use mathlib.Core.List.{List, [], ◌∷◌}
use native.Mathlib.Omega.{arith}
use native.Mathlib.Nat.{le-div_iff_mul-le, div-le_self, mul_comm, mul-zero, mul-one, zero-add}
use Rattle.std.specs.Prelude.{count_by, cond}
use Rattle.std.proofs.lemmas.List.Recursion.{is_count_by}
use lib.ListN.{length}
use lib.Dec.{ltb}
use borrow.Author.Tests.{ltb-false}
use Rattle.base.specs.Walk.{from}
use Rattle.base.proofs.ChoiceLaws.{cond_cases}
use Rattle.base.proofs.WalkLaws.{Forward, Costs, walk-bound, Left, left}
use Rattle.mft_carver.specs.declared.Settings.{Settings}
use Rattle.mft_sectors.specs.Signature.{has_signature}
use Rattle.mft_carver.specs.Entry.{Event, rejected, carved}
use Rattle.mft_carver.specs.Carve.{entry_bytes, image_visit, events_from, events, entries, rejections, entries_in}
use Rattle.mft_carver.specs.Step.{is_carved, image_visit_of}
use Rattle.mft_carver.specs.declared.step.CarveStep.{CarveStep}

-- every candidate that is met is carved or rejected
pub candidates-add-up : (es : List Event) → length es ≡ length (entries es) + rejections es
candidates-add-up [] = refl
candidates-add-up (rejected o ∷ es) = omega (arith, candidates-add-up es)
candidates-add-up (carved x ∷ es) = omega (arith, candidates-add-up es)

-- so many are carved as there are entries
carved-one : (e : Event) (es : List Event) → length (entries (e ∷ es)) ≡ cond (is_carved e) (1 + length (entries es)) (length (entries es))
carved-one (rejected o) es = refl
carved-one (carved x) es = omega arith

pub carved-counted : (es : List Event) → count_by is_carved es ≡ length (entries es)
carved-counted es = sym (is_count_by (λ (xs : List Event). length (entries xs)) is_carved refl carved-one es)

module _ (st : Settings) (s : List ℕ) (some : 1 ≤ st.size) where
  pub visit-forward : (o : ℕ) → Forward (length s) o (image_visit st s o)
  unfolding image_visit
  visit-forward o =
      cond_cases (Forward (length s) o) (ltb (length s) (o + st.size)) (λ _. tt) λ e. let h = ltb-false (length s) (o + st.size) e in omega (arith, some)

  -- what is left of the run at o, by what the step there says
  pub rest : (o : ℕ) {r x : CarveStep} → r ≡ x → image_visit_of r ≡ image_visit st s o → Left (image_visit st s) (length s) o (image_visit_of x)
  rest o {x = x} e f = left (image_visit st s) (length s) visit-forward o (image_visit_of x) (ap image_visit_of (sym e) ∙ f)

  -- a visit finds one event at most, and takes an entry's bytes
  visit-costs : (o : ℕ) → Costs st.size (length s) o (image_visit st s o)
  unfolding image_visit
  visit-costs o =
      cond_cases (Costs st.size (length s) o) (ltb (length s) (o + st.size)) (λ _. tt) λ e.
      let h = ltb-false (length s) (o + st.size) e in
      cond_cases (λ (es : List Event). (o + st.size * length es ≤ o + st.size) × (o + st.size ≤ length s)) (has_signature (entry_bytes st s o))
      (λ _. (rw mul-one (omega arith), h)) (λ _. (rw mul-zero (omega arith), h))

  -- so there are no more events than entries fit
  pub events-few : length (events st s) ≤ length s / st.size
  unfolding from
  events-few =
      let few : 0 + st.size * length (events st s) ≤ length s = walk-bound (image_visit st s) st.size (length s) visit-costs (length s - 0) 0 (omega arith) in
      let k : length (events st s) * st.size ≤ length s = rw (mul_comm (length (events st s)) st.size) (rw zero-add at few) in
      (le-div_iff_mul-le some).1 k

  -- and room for as many is enough
  pub room-enough : {room : ℕ} → length s / st.size ≤ room → length (entries_in st s) ≤ room
  room-enough h = omega (arith, events-few, candidates-add-up (events st s))

  pub events-below : length (events st s) ≤ length s
  events-below = omega (arith, events-few, div-le_self (length s) st.size)

  -- what is left at the start is all
  pub from-start : {st' : Settings} {t : List ℕ} {o : ℕ} → t ≡ s → st' ≡ st → o ≡ 0 → events_from st' t o ≡ events st s
  from-start e f g = rw (e, f, g)
