-- Why a run is over: its tests have passed, and pass after each step, so that the step that stops it is refused by 6 or 8. Assumes nothing.
use Prim.Native.Nat.{ℕ, zero, suc, ◌+◌, ◌-◌, ◌≤◌, ◌<◌}
use mathlib.Core.Path.{◌≡◌, refl, ap, sym, ◌∙◌}
use mathlib.Core.Logic.{◌⊎◌, inl, inr, ⊎_elim}
use mathlib.Core.List.{List, [], ◌∷◌}
use mathlib.Core.Bool.{Bool, true, false, cond, not, ◌||◌}
use native.Mathlib.Omega.{arith}
use borrow.Author.Tests.{ltb-true, ltb-false, eqb-true}
use lib.ListN.{length, length-append}
use lib.Dec.{ltb, eqb}
use Rattle.base.specs.Outcome.{Outcome, refused, answered, map_outcome}
use Rattle.base.specs.Refusals.{table_full, text_full, domain}
use Rattle.base.proofs.ChoiceLaws.{cond_cases}
use Rattle.entry_slots.specs.Names.{all_inside}
use Rattle.entry_slots.specs.Slots.{slots_in, names_in}
use Rattle.entry_slots.specs.Table.{Table, table, known, Addition}
use Rattle.additions.specs.Entries.{forward}
use Rattle.additions.specs.Storing.{adding}
use Rattle.additions.specs.Walking.{records_in, entry_in}
use Rattle.additions.specs.declared.entries.RecordEntry.{RecordEntry}
use Rattle.additions.proofs.StoringLaws.{adding-one}
use Rattle.chain.specs.Settings.{depth}
use Rattle.path_text.specs.Decoding.{with_text}
use Rattle.rewind_records.specs.Environment.{Environment, environment_of, all_answered, rewind_refusal}
use Rattle.rewind_records.specs.Turning.{Next, ended, next, turning}
use Rattle.rewind_records.proofs.TurnLaws.{turn-next}
use Rattle.rewind_steps.specs.Taking.{Step, step_of, taken}
use Rattle.rewind_steps.specs.StepText.{record_text, next_text}
use Rattle.rewind.specs.Stepping.{stepped, state_of, forward_table}
use Rattle.rewind.specs.Written.{stepped_with_text}
use Rattle.rewind.specs.declared.Rewind.{Rewind}
use Rattle.run_steps.specs.Running.{Run, run_from, run_and_step, onward, running, ran, run_table}
use Rattle.run_steps.proofs.StepLaws.{tests, with-text-end, with-text-next, made-step}
use Rattle.rewind_run.specs.Running.{tested_run}
use Rattle.rewind_run.specs.Stopping.{stops, Over}

-- what the tests refuse stops no run
pub tests-stop-none : (env : Environment) (t : Table) → stops (rewind_refusal env t) ≡ false
unfolding rewind_refusal
tests-stop-none env t =
    let P : ℕ → Type 0 = λ n. stops n ≡ false in
    cond_cases P (ltb domain env.lengths.journal || ltb domain env.lengths.image) (λ _. refl) λ _.
    cond_cases P (ltb (slots_in t.words) t.used) (λ _. refl) λ _.
    cond_cases P (not (all_answered env.records)) (λ _. refl) λ _.
    cond_cases P (not (all_inside env.lengths (names_in t.words t.used))) (λ _. refl) λ _. refl

-- an addition that is refused: its key is new, and no slot is left
pub record Full (t : Table) (a : Addition) (n : ℕ) : Type 0 where
  pub number : n ≡ table_full
  pub fresh : known t a.key ≡ false
  pub full : t.used ≡ slots_in t.words

adding-refused : (t : Table) (a : Addition) {n : ℕ} → t.used ≤ slots_in t.words → adding t (a ∷ []) ≡ refused n → Full t a n
adding-refused t a {n} h e =
    cond_cases (λ (p : Outcome Table). p ≡ refused n → Full t a n) (ltb (slots_in t.words) (t.used + cond (known t a.key) 0 1))
    (λ f q. let k : n ≡ table_full = cc in by-known (known t a.key) refl k (ltb-true _ _ f))
    (λ _ q. let z : ◌≡◌ {A = ℕ} 0 1 = cc in absurd (omega arith))
    (sym (adding-one t a) ∙ e)
  where
    by-known : (b : Bool) → known t a.key ≡ b → n ≡ table_full → slots_in t.words < t.used + cond (known t a.key) 0 1 → Full t a n
    by-known true f k g = let q = rw f at g in absurd (omega arith)
    by-known false f k g = let q = rw f at g in record { number = k; fresh = f; full = omega arith }

-- where the tests have passed, by what a step that is refused is refused for
module _ (journal image l words : List ℕ) (used position : ℕ) (pass : rewind_refusal (environment_of journal image l) (table words used) ≡ 0) where
  abbrev t : Table
  t = table words used

  abbrev entry : RecordEntry
  entry = entry_in journal l position

  -- no slot, or no room for its text
  pub record Slotless (n : ℕ) : Type 0 where
    pub near : position < records_in l
    pub why : Full t (forward entry) n

  pub record Roomless (room n : ℕ) : Type 0 where
    pub number : n ≡ text_full
    pub step : Step
    pub takes : stepped journal image l words (state_of used position) ≡ answered (next step)
    pub long : room < length (record_text journal image step)

  stepped-next : position < records_in l → stepped journal image l words (state_of used position) ≡ taken t depth (next entry)
  stepped-next near =
      let f : turning (environment_of journal image l) t position ≡ answered (next entry) = sym (turn-next journal l (length image) position t pass near refl) in
      rw f

  module _ (room : ℕ) where
    of-adding : {n : ℕ} → position < records_in l → (a : Outcome Table) → adding t (forward entry ∷ []) ≡ a
        → with_text (next_text journal image) room (map_outcome (λ u. next (step_of depth entry u)) a) ≡ refused n → Slotless n ⊎ Roomless room n
    of-adding {n} near (refused m) g e = let same : m ≡ n = cc in inl (record { near = near; why = adding-refused t (forward entry) (tests journal image l words used position pass).fits (g ∙ ap refused same) })
    of-adding {n} near (answered u) g e =
        let x : Step = step_of depth entry u in
        cond_cases (λ (p : Outcome (Next Step)). p ≡ refused n → Slotless n ⊎ Roomless room n) (ltb room (length (record_text journal image x)))
        (λ f q. inr (record { number = cc; step = x; takes = stepped-next near ∙ ap (map_outcome (λ v. next (step_of depth entry v))) g; long = ltb-true _ _ f }))
        (λ _ q. let z : ◌≡◌ {A = ℕ} 0 1 = cc in absurd (omega arith))
        e

    pub step-refused : {n : ℕ} → stepped_with_text journal image l words (state_of used position) room ≡ refused n → Slotless n ⊎ Roomless room n
    step-refused {n} q = go (ltb position (records_in l)) refl
      where
        go : (b : Bool) → ltb position (records_in l) ≡ b → Slotless n ⊎ Roomless room n
        go true h =
            let near : position < records_in l = ltb-true position (records_in l) h in
            of-adding near (adding t (forward entry ∷ [])) refl (sym (with-text-next journal image l words used position pass near refl room) ∙ q)
        go false h =
            let e = sym (with-text-end journal image l words used position pass room (ltb-false position (records_in l) h)) ∙ q in
            let z : ◌≡◌ {A = ℕ} 0 1 = cc in
            absurd (omega arith)

    pub refused-stops : {n : ℕ} → stepped_with_text journal image l words (state_of used position) room ≡ refused n → stops n ≡ true
    refused-stops q = ⊎_elim (λ w. rw w.why.number) (λ w. rw w.number) (step-refused q)

    -- one that finds no record
    pub step-ended : stepped_with_text journal image l words (state_of used position) room ≡ answered ended → records_in l ≤ position
    step-ended q = go (ltb position (records_in l)) refl
      where
        go : (b : Bool) → ltb position (records_in l) ≡ b → records_in l ≤ position
        go true h =
            let near : position < records_in l = ltb-true position (records_in l) h in
            none near (adding t (forward entry ∷ [])) (sym (with-text-next journal image l words used position pass near refl room) ∙ q)
          where
            none : position < records_in l → (a : Outcome Table) → with_text (next_text journal image) room (map_outcome (λ u. next (step_of depth entry u)) a) ≡ answered ended → records_in l ≤ position
            none near (refused m) e = let z : ◌≡◌ {A = ℕ} 0 1 = cc in absurd (omega arith)
            none near (answered u) e =
                cond_cases (λ (p : Outcome (Next Step)). p ≡ answered ended → records_in l ≤ position) (ltb room (length (record_text journal image (step_of depth entry u))))
                (λ _ p. let z : ◌≡◌ {A = ℕ} 0 1 = cc in absurd (omega arith)) (λ _ p. let z : ◌≡◌ {A = ℕ} 0 1 = cc in absurd (omega arith)) e
        go false h = ltb-false position (records_in l) h

-- From a state whose tests pass, a run is over for one of these reasons.
module _ (journal image records : List ℕ) (room asked : ℕ) where
  abbrev passes : Run → Type 0
  passes r = rewind_refusal (environment_of journal image records) (run_table r) ≡ 0

  abbrev run : ℕ → Run → Run
  run = running journal image records room

  abbrev text_from : Run → Outcome (Next Step)
  text_from r = stepped_with_text journal image records r.words r.rewind (room - length r.text)

  pub over : (n : ℕ) (r : Run) → r.stopped ≡ 0 → passes r → length r.ends + n ≡ asked → Over journal image records room asked (run n r)
  unfolding running
  over zero r s p e = inl (record { says = s; steps = omega (arith, e) })
  over (suc n) r s p e = go (text_from r) refl (over n)
    where
      go : (o : Outcome (Next Step)) → text_from r ≡ o → ((q : Run) → q.stopped ≡ 0 → passes q → length q.ends + n ≡ asked → Over journal image records room asked (run n q))
          → Over journal image records room asked (onward (run n) journal image r o)
      go (refused k) g more =
          ⊎_elim
          (λ w. inr (inr (inl (record { says = w.why.number; steps = omega (arith, e); ahead = w.near; fresh = w.why.fresh; full = w.why.full }))))
          (λ w. inr (inr (inr (record { says = w.number; steps = omega (arith, e); step = w.step; takes = w.takes; long = w.long }))))
          (step-refused journal image records r.words r.rewind.used r.rewind.position p (room - length r.text) g)
      go (answered ended) g more = inr (inl (record { says = s; steps = omega (arith, e); none_left = step-ended journal image records r.words r.rewind.used r.rewind.position p (room - length r.text) g }))
      go (answered (next x)) g more =
          let made = made-step journal image records r.words r.rewind.used r.rewind.position p (room - length r.text) g in
          let f : length (run_and_step journal image r x).ends ≡ length r.ends + 1 = length-append r.ends _ in
          more (run_and_step journal image r x) refl made.passes (omega (arith, e, f))

-- A call that is answered: its tests have passed, its run is over for one of these reasons, and what it says of that is 0, 6 or 8.
module _ (journal image records words : List ℕ) (r : Rewind) (room asked : ℕ) where
  abbrev env : Environment
  env = environment_of journal image records

  pub answered-passed : {x : Run} → tested_run journal image records words r room asked ≡ answered x
      → (rewind_refusal env (forward_table words r) ≡ 0) × (x ≡ ran journal image records words r room asked)
  unfolding tested_run
  answered-passed {x} =
      cond_cases (λ (o : Outcome Run). o ≡ answered x → (rewind_refusal env (forward_table words r) ≡ 0) × (x ≡ ran journal image records words r room asked))
      (eqb (rewind_refusal env (forward_table words r)) 0)
      (λ f e. (eqb-true _ _ f, cc))
      (λ _ e. let z : ◌≡◌ {A = ℕ} 0 1 = cc in absurd (omega arith))

  pub run-over : {x : Run} → tested_run journal image records words r room asked ≡ answered x → Over journal image records room asked x
  run-over e =
      let p = answered-passed e in
      rw p.1 (over journal image records room asked asked (run_from words r) refl p.0 (omega arith))

  pub run-stopped : {x : Run} → tested_run journal image records words r room asked ≡ answered x
      → (x.stopped ≡ 0) ⊎ ((x.stopped ≡ table_full) ⊎ (x.stopped ≡ text_full))
  run-stopped e =
      ⊎_elim (λ w. inl w.says) (⊎_elim (λ w. inl w.says) (⊎_elim (λ w. inr (inl w.says)) (λ w. inr (inr w.says)))) (run-over e)
