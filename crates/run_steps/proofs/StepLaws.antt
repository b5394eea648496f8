-- A step of a run whose tests have passed: it is by the record at its position, and where it is made the tests pass for the table after it, so that
-- they are made once. Assumes nothing.
use Prim.Native.Nat.{ℕ, ◌-◌, ◌≤◌, ◌<◌}
use mathlib.Core.Path.{◌≡◌, refl, ap, sym, ◌∙◌}
use mathlib.Core.List.{List, [], ◌∷◌}
use mathlib.Core.Bool.{Bool, true, false}
use native.Mathlib.Omega.{arith}
use borrow.Author.Tests.{ltb-true, ltb-false}
use lib.ListN.{length}
use lib.Dec.{ltb}
use Rattle.base.specs.Outcome.{Outcome, refused, answered, outcome, map_outcome}
use Rattle.entry_slots.specs.Names.{lengths_of, inside}
use Rattle.entry_slots.specs.Table.{Table, table}
use Rattle.additions.specs.Storing.{adding}
use Rattle.additions.proofs.OneLaws.{Added, adding-added, added-fits, names-added}
use Rattle.additions.proofs.KeptLaws.{add-keeps}
use Rattle.entry_slots.specs.Index.{Indexed}
use Rattle.chain.specs.Settings.{depth}
use Rattle.path_text.specs.Decoding.{with_text}
use Rattle.path_text.proofs.CallLaws.{text-fits}
use Rattle.additions.specs.Entries.{forward}
use Rattle.rewind_records.specs.Environment.{Environment, environment_of, rewind_refusal}
use Rattle.additions.specs.Walking.{records_in, offset_in, entry_in}
use Rattle.rewind_records.specs.Turning.{Next, ended, next, next_outcome, turning}
use Rattle.rewind_steps.specs.declared.Told.{Told}
use Rattle.std.specs.Prelude.{Result, Option, Ok, Err, Some}
use Rattle.base.specs.declared.refusal.Refusal.{Refusal}
use Rattle.rewind_steps.specs.Taking.{Step, step_of}
use Rattle.rewind.specs.Stepping.{stepped, state_of}
use Rattle.rewind_steps.specs.StepText.{record_text, next_text}
use Rattle.rewind.specs.Written.{stepped_with_text}
use Rattle.additions.specs.declared.entries.RecordEntry.{RecordEntry}
use Rattle.additions.proofs.EntryLaws.{entry-inside}
use Rattle.rewind_records.proofs.RecordLaws.{number-answered}
use Rattle.rewind_records.proofs.TurnLaws.{Passed, passed, test-none, turn_end, turn-next}
use Rattle.rewind_steps.specs.Making.{making}
use Rattle.rewind_steps.specs.Promise.{StepLeaves}

module _ (journal image l words : List ℕ) (used position : ℕ) (pass : rewind_refusal (environment_of journal image l) (table words used) ≡ 0) where
  abbrev env : Environment
  env = environment_of journal image l

  abbrev t : Table
  t = table words used

  pub tests : Passed env t
  tests = passed env t pass

  -- no record is left
  pub with-text-end : (room : ℕ) → records_in l ≤ position → stepped_with_text journal image l words (state_of used position) room ≡ answered ended
  with-text-end room k =
      let e : turning env t position ≡ answered ended = sym (turn_end journal l (length image) position t pass k) in
      let o : stepped journal image l words (state_of used position) ≡ answered ended = rw e in
      text-fits (next_text journal image) room o (omega arith)

  pub step_end : (at : ℕ) (heads nexts text : List ℕ) {way : List ℕ} → Indexed t heads nexts → records_in l ≤ position
      → StepLeaves journal image at (length heads) nexts text (stepped_with_text journal image l words (state_of used position) (length text - at)) t (answered ended) words heads nexts way text
  step_end at heads nexts text index k = rw (with-text-end (length text - at) k) (record { answer = refl; forward = refl; heads-are = index.0; nexts-are = index.1; way-is = tt; text-is = refl })

  module _ {e : RecordEntry} (near : position < records_in l) (is : e ≡ entry_in journal l position) where
    -- the next record is the one at the position, and its name is inside
    pub with-text-next : (room : ℕ) → stepped_with_text journal image l words (state_of used position) room ≡ making journal image t e room
    with-text-next room =
        let f : turning env t position ≡ answered (next e) = sym (turn-next journal l (length image) position t pass near is) in
        rw f

    pub own-inside : inside (lengths_of journal image) e.info.name ≡ true
    own-inside = rw is (entry-inside journal (length image) (offset_in l position) (number-answered journal l tests.records near))

    pub step-next : (at : ℕ) (heads nexts text : List ℕ) {r : Outcome (Next Told)} {f h n way x : List ℕ}
        → StepLeaves journal image at (length heads) nexts text (making journal image t e (length text - at)) t r f h n way x
        → StepLeaves journal image at (length heads) nexts text (stepped_with_text journal image l words (state_of used position) (length text - at)) t r f h n way x
    step-next at heads nexts text c = rw (with-text-next (length text - at)) c

    -- what making it answers is what the step answers
    module _ (at : ℕ) (heads nexts text : List ℕ) where
      abbrev Leaves : Outcome (Next Told) → List ℕ → List ℕ → List ℕ → List ℕ → List ℕ → Type 0
      Leaves a = StepLeaves journal image at (length heads) nexts text (stepped_with_text journal image l words (state_of used position) (length text - at)) t a

      abbrev Makes : Result Told Refusal → List ℕ → List ℕ → List ℕ → List ℕ → List ℕ → Type 0
      Makes r = StepLeaves journal image at (length heads) nexts text (making journal image t e (length text - at)) t (map_outcome next (outcome r))

      pub step-told : {r : Result Told Refusal} {f h n way x : List ℕ} → Makes r f h n way x → {told : Told} → r ≡ Ok told → Leaves (answered (next told)) f h n way x
      step-told c y = rw y at (step-next at heads nexts text c)

      pub step-refused : {r : Result Told Refusal} {f h n way x : List ℕ} → Makes r f h n way x → {k : Refusal} → r ≡ Err k → {a : Result (Option Told) Refusal} → a ≡ Err k → Leaves (next_outcome a) f h n way x
      step-refused c y z = rw z (rw y at (step-next at heads nexts text c))

  -- what holds of a step that is made
  pub record MadeStep (room : ℕ) (x : Step) : Type 0 where
    pub near : position < records_in l
    pub passes : rewind_refusal env x.table ≡ 0
    pub long : length x.table.words ≡ length words
    pub fits : length (record_text journal image x) ≤ room

  -- by the table with the record in it
  module _ (room : ℕ) (near : position < records_in l) where
    abbrev entry : RecordEntry
    entry = entry_in journal l position

    of-table : (u : Table) → adding t (forward entry ∷ []) ≡ answered u → length (record_text journal image (step_of depth entry u)) ≤ room → MadeStep room (step_of depth entry u)
    of-table u g k =
        let w : Added t (forward entry) u = adding-added t (forward entry) g in
        record {
          near = near;
          passes = sym (test-none env u tests.journal tests.image (rw (← w.leaves) at (added-fits t (forward entry) w.room)) (sym tests.records) refl (sym (rw (← w.leaves) at (names-added t (forward entry) w.room (lengths_of journal image) tests.places (own-inside near refl)))) refl);
          long = ap (λ (v : Table). length v.words) w.leaves ∙ (add-keeps t (forward entry)).long;
          fits = k;
        }

    of-adding : {x : Step} (a : Outcome Table) → adding t (forward entry ∷ []) ≡ a → with_text (next_text journal image) room (map_outcome (λ u. next (step_of depth entry u)) a) ≡ answered (next x)
        → MadeStep room x
    of-adding (refused n) g y = let z : ◌≡◌ {A = ℕ} 0 1 = cc in absurd (omega arith)
    of-adding {x} (answered u) g y = go (ltb room (length (record_text journal image (step_of depth entry u)))) refl y
      where
        go : (b : Bool) → ltb room (length (record_text journal image (step_of depth entry u))) ≡ b
            → with_text (next_text journal image) room (answered (next (step_of depth entry u))) ≡ answered (next x) → MadeStep room x
        go true h q = let q' = rw h at q in let z : ◌≡◌ {A = ℕ} 0 1 = cc in absurd (omega arith)
        go false h q =
            let q' : answered (next (step_of depth entry u)) ≡ answered (next x) = rw h at q in
            let same : step_of depth entry u ≡ x = cc in
            rw (← same) (of-table u g (ltb-false room _ h))

  pub made-step : (room : ℕ) {x : Step} → stepped_with_text journal image l words (state_of used position) room ≡ answered (next x) → MadeStep room x
  made-step room {x} q = go (ltb position (records_in l)) refl
    where
      go : (b : Bool) → ltb position (records_in l) ≡ b → MadeStep room x
      go true h =
          let near : position < records_in l = ltb-true position (records_in l) h in
          of-adding room near (adding t (forward (entry_in journal l position) ∷ [])) refl (sym (with-text-next near refl room) ∙ q)
      go false h =
          let e = sym (with-text-end room (ltb-false position (records_in l) h)) ∙ q in
          let z : ◌≡◌ {A = ℕ} 0 1 = cc in
          absurd (omega arith)
