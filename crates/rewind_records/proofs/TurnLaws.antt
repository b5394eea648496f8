-- The tests before a rewind call's work by their ways out, what has passed them, and the record that is next. Assumes nothing.
use Prim.Native.Nat.{ℕ, ◌≤◌, ◌<◌}
use mathlib.Core.Path.{◌≡◌, refl, ap, sym, ◌∙◌}
use mathlib.Core.List.{List}
use mathlib.Core.Bool.{Bool, true, false, not, ◌||◌}
use native.Mathlib.Omega.{arith}
use borrow.Author.Tests.{lt-ltb, le-ltb, ltb-false, ne_eqb, not-false}
use lib.ListN.{drop}
use lib.Dec.{ltb}
use Rattle.std.specs.Prelude.{Result, Ok, Err, Option}
use Rattle.base.specs.Outcome.{Outcome, refused, answered, outcome}
use Rattle.base.specs.Words.{number}
use Rattle.base.specs.declared.refusal.Refusal.{Refusal}
use Rattle.base.proofs.RefusalLaws.{some_number}
use Rattle.base.specs.Refusals.{above_domain, bad_state, not_a_record, name_outside, domain, number_of}
use Rattle.base.proofs.ChoiceLaws.{cond_cases, or_left, or_right}
use Rattle.entry_slots.specs.Names.{all_inside}
use Rattle.entry_slots.specs.Slots.{slots_in, names_in}
use Rattle.entry_slots.specs.Table.{Table}
use Rattle.rewind_records.specs.Environment.{Environment, environment_with, all_answered, entries_of, rewind_refusal, tested}
use Rattle.additions.specs.Walking.{records_in, entry_in}
use Rattle.rewind_records.specs.Turning.{Next, ended, next, first_of, turning, next_outcome}
use Rattle.additions.specs.declared.entries.RecordEntry.{RecordEntry}
use Rattle.rewind_records.proofs.RecordLaws.{next-is, none_left}

module _ (env : Environment) (t : Table) where
  pub test-journal : domain < env.lengths.journal → above_domain ≡ rewind_refusal env t
  unfolding rewind_refusal
  test-journal h = sym (simp (lt-ltb domain env.lengths.journal h))

  module _ (a : env.lengths.journal ≤ domain) where
    pub test-image : domain < env.lengths.image → above_domain ≡ rewind_refusal env t
    unfolding rewind_refusal
    test-image h = sym (simp (le-ltb domain env.lengths.journal a, lt-ltb domain env.lengths.image h))

    module _ (b : env.lengths.image ≤ domain) where
      pub test-state : slots_in t.words < t.used → bad_state ≡ rewind_refusal env t
      unfolding rewind_refusal
      test-state h =
          sym (simp (le-ltb domain env.lengths.journal a, le-ltb domain env.lengths.image b, lt-ltb (slots_in t.words) t.used h))

      module _ (u : t.used ≤ slots_in t.words) {x : Bool} (e : x ≡ all_answered env.records) where
        pub test-records : x ≡ false → not_a_record ≡ rewind_refusal env t
        unfolding rewind_refusal
        test-records n =
            let f : all_answered env.records ≡ false = sym e ∙ n in
            sym (simp (le-ltb domain env.lengths.journal a, le-ltb domain env.lengths.image b, le-ltb (slots_in t.words) t.used u, f))

        module _ (y : x ≡ true) {z : Bool} (g : z ≡ all_inside env.lengths (names_in t.words t.used)) where
          records : all_answered env.records ≡ true
          records = sym e ∙ y

          pub test-names : z ≡ false → name_outside ≡ rewind_refusal env t
          unfolding rewind_refusal
          test-names n =
              let f : all_inside env.lengths (names_in t.words t.used) ≡ false = sym g ∙ n in
              sym (simp (le-ltb domain env.lengths.journal a, le-ltb domain env.lengths.image b, le-ltb (slots_in t.words) t.used u, records, f))

          pub test-none : z ≡ true → 0 ≡ rewind_refusal env t
          unfolding rewind_refusal
          test-none n =
              let f : all_inside env.lengths (names_in t.words t.used) ≡ true = sym g ∙ n in
              sym (simp (le-ltb domain env.lengths.journal a, le-ltb domain env.lengths.image b, le-ltb (slots_in t.words) t.used u, records, f))

-- what holds where no test refuses
pub record Passed (env : Environment) (t : Table) : Type 0 where
  pub journal : env.lengths.journal ≤ domain
  pub image : env.lengths.image ≤ domain
  pub fits : t.used ≤ slots_in t.words
  pub records : all_answered env.records ≡ true
  pub places : all_inside env.lengths (names_in t.words t.used) ≡ true

never : {A : Type 0} {n : ℕ} → 0 < n → n ≡ 0 → A
never h e = absurd (omega arith)

pub passed : (env : Environment) (t : Table) → rewind_refusal env t ≡ 0 → Passed env t
unfolding rewind_refusal
passed env t =
    let P : ℕ → Type 0 = λ n. n ≡ 0 → Passed env t in
    cond_cases P (ltb domain env.lengths.journal || ltb domain env.lengths.image) (λ _ e. never (omega arith) e) λ d.
    cond_cases P (ltb (slots_in t.words) t.used) (λ _ e. never (omega arith) e) λ u.
    cond_cases P (not (all_answered env.records)) (λ _ e. never (omega arith) e) λ r.
    cond_cases P (not (all_inside env.lengths (names_in t.words t.used))) (λ _ e. never (omega arith) e) λ n _.
    record {
      journal = ltb-false _ _ (or_left _ _ d);
      image = ltb-false _ _ (or_right (ltb domain env.lengths.journal) _ d);
      fits = ltb-false _ _ u;
      records = not-false _ r;
      places = not-false _ n;
    }

-- the outcome after the tests
module _ {A : Type 0} (env : Environment) (t : Table) (o : Outcome A) where
  pub tested-refused : {n : ℕ} → n ≡ rewind_refusal env t → (n ≡ 0 → ⊥) → tested env t o ≡ refused n
  tested-refused e h = rw (← e, ne_eqb _ _ h)

  pub tested-passed : {n : ℕ} → n ≡ rewind_refusal env t → n ≡ 0 → tested env t o ≡ o
  tested-passed e h = let f : rewind_refusal env t ≡ 0 = sym e ∙ h in rw f

-- by what the tests answer
module _ (env : Environment) (t : Table) {x : Result Unit Refusal} (e : number (outcome x) ≡ rewind_refusal env t) where
  pub checks : {a : Unit} → x ≡ Ok a → rewind_refusal env t ≡ 0
  checks h = sym (rw h at e)

  pub check-refused : {A : Type 0} (o : Outcome A) {r : Refusal} → x ≡ Err r → tested env t o ≡ refused (number_of r)
  check-refused o {r} h = tested-refused env t o (rw h at e) (some_number r)

  pub check-passed : {A : Type 0} (o : Outcome A) {a : Unit} → x ≡ Ok a → tested env t o ≡ o
  check-passed o h = tested-passed env t o {n = 0} (rw h at e) refl

-- the record that is next
module _ (journal l : List ℕ) (m p : ℕ) (t : Table) where
  abbrev env : Environment
  env = environment_with journal m l

  pub turning-refused : {n : ℕ} → n ≡ rewind_refusal env t → (n ≡ 0 → ⊥) → refused n ≡ turning env t p
  unfolding turning
  turning-refused e h = sym (tested-refused env t (answered (first_of (drop p (entries_of env.records)))) e h)

  pub turn-refused : {x : Result Unit Refusal} → number (outcome x) ≡ rewind_refusal env t → {r : Refusal} → x ≡ Err r → {o : Result (Option RecordEntry) Refusal} → o ≡ Err r → next_outcome o ≡ turning env t p
  turn-refused e {r} h g = rw g (turning-refused (rw h at e) (some_number r))

  module _ (pass : rewind_refusal env t ≡ 0) where
    all : all_answered env.records ≡ true
    all = (passed env t pass).records

    goes : {x : Next RecordEntry} → first_of (drop p (entries_of env.records)) ≡ x → answered x ≡ turning env t p
    unfolding turning
    goes f = sym (tested-passed env t (answered (first_of (drop p (entries_of env.records)))) (sym pass) refl ∙ ap answered f)

    pub turn_end : records_in l ≤ p → answered ended ≡ turning env t p
    turn_end k = goes (none_left journal l all k)

    pub turn-next : {r : RecordEntry} → p < records_in l → r ≡ entry_in journal l p → answered (next r) ≡ turning env t p
    turn-next k f = goes (next-is journal l all k ∙ ap next (sym f))
