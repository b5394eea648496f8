-- A step of a rewind by its ways out: the answer, the state, and what the lent words, list and text then hold. Assumes nothing.
use Prim.Native.Nat.{ℕ, ◌+◌, ◌-◌, ◌*◌, ◌≤◌, ◌<◌}
use mathlib.Core.Path.{◌≡◌, refl, ap, sym, ◌∙◌}
use mathlib.Core.List.{List, [], ◌∷◌}
use mathlib.Core.Bool.{Bool, true, false, cond}
use native.Mathlib.Omega.{arith}
use native.Mathlib.Nat.{zero-add}
use borrow.Author.Tests.{eqb-true, ltb-true, ltb-false}
use lib.ListN.{length, drop}
use lib.Dec.{ltb, eqb}
use Rattle.base.specs.Outcome.{Outcome, refused, answered, outcome, map_outcome, and_then}
use Rattle.base.specs.Refusals.{text_full}
use Rattle.base.proofs.ChoiceLaws.{cond_cases}
use Rattle.base.proofs.ListLaws.{sets-front}
use Rattle.entry_slots.specs.Names.{lengths_of, inside}
use Rattle.entry_slots.specs.Slots.{stride, slots_in}
use Rattle.entry_slots.specs.Table.{Table, table, Addition}
use Rattle.additions.specs.Storing.{adding, used_after, words_after}
use Rattle.additions.proofs.OneLaws.{Added, adding-added, added-fits, added_none, added-table}
use Rattle.entry_slots.proofs.IndexLaws.{none-indexed}
use Rattle.chain.specs.Settings.{depth, levels}
use Rattle.chain.specs.declared.ResolvedPath.{ResolvedPath}
use Rattle.chain.specs.Chain.{chain_of, resolved}
use Rattle.chain.specs.Way.{Slots, way_places}
use Rattle.chain.specs.Tracing.{with_places}
use Rattle.path_text.specs.Decoding.{with_text}
use Rattle.path_text.proofs.CallLaws.{text-fits}
use Rattle.additions.specs.Entries.{forward}
use Rattle.rewind_records.specs.Environment.{Environment, environment_of, entries_of, rewind_refusal}
use Rattle.additions.specs.Walking.{records_in, offset_in, entry_in}
use Rattle.rewind_records.specs.Turning.{Next, ended, next, first_of, turning, next_outcome}
use Rattle.rewind_steps.specs.Taking.{Step, step_of, taken}
use Rattle.rewind.specs.Stepping.{forward_table, stepped}
use Rattle.rewind_steps.specs.StepText.{record_text, next_text}
use Rattle.rewind.specs.Written.{stepped_with_text}
use Rattle.rewind_steps.specs.Making.{making, made_of, told_of, table_after, text_after, WayAfter}
use Rattle.rewind.specs.Promise.{ChainSteps, PathSteps}
use Rattle.rewind_steps.specs.Promise.{StepAsks, StepLeaves}
use Rattle.rewind.specs.declared.Rewind.{Rewind}
use Rattle.rewind.specs.declared.Step.{Step as Answer}
use Rattle.path.specs.declared.WrittenPath.{WrittenPath}
use Rattle.additions.specs.declared.entries.RecordEntry.{RecordEntry}
use Rattle.rewind_steps.specs.declared.Told.{Told}
use Rattle.std.specs.Prelude.{Result, Ok, Err, Option, None, Some}
use Rattle.base.specs.Refusals.{number_of}
use Rattle.base.specs.declared.refusal.Refusal.{Refusal}
use Rattle.additions.proofs.EntryLaws.{entry-inside}
use Rattle.rewind_records.proofs.RecordLaws.{number-answered, next-is, none_left}
use Rattle.rewind_records.proofs.TurnLaws.{Passed, passed}

-- the work of a step with text that comes to o, from a table t: what is told of it, the words of the forward table, the way, and the text
pub record Tells (journal image text : List ℕ) (o : Outcome (Next Step)) (t : Table) (r : Outcome (Next Told)) (words' way' text' : List ℕ) : Type 0 where
  pub answer : r ≡ made_of journal image 0 o
  pub forward : words' ≡ (table_after o t).words
  pub way-is : WayAfter o way'
  pub text-is : text' ≡ text_after journal image 0 o text

-- what is answered with its text has room for it
text-room : {A : Type 0} (text : A → List ℕ) (room : ℕ) (o : Outcome A) {a : A} → with_text text room o ≡ answered a → length (text a) ≤ room
text-room text room (refused n) e = let z : ◌≡◌ {A = ℕ} 0 1 = cc in absurd (omega arith)
text-room text room (answered b) {a} e = go (ltb room (length (text b))) refl
  where
    go : (c : Bool) → ltb room (length (text b)) ≡ c → length (text a) ≤ room
    go true h = let f : refused text_full ≡ answered a = sym (rw h) ∙ e in let z : ◌≡◌ {A = ℕ} 0 1 = cc in absurd (omega arith)
    go false h = let f : answered b ≡ answered a = sym (rw h) ∙ e in let same : b ≡ a = cc in rw (← same) (ltb-false room (length (text b)) h)

-- what holds where a record is next
pub record Turned (journal image l : List ℕ) (t : Table) (p : ℕ) (e : RecordEntry) : Type 0 where
  pub tests : Passed (environment_of journal image l) t
  pub near : p < records_in l
  pub own : inside (lengths_of journal image) e.info.name ≡ true

module _ (journal image l : List ℕ) (t : Table) (p : ℕ) where
  abbrev env₀ : Environment
  env₀ = environment_of journal image l

  from_next : {e : RecordEntry} → Passed env₀ t → first_of (drop p (entries_of env₀.records)) ≡ next e → Turned journal image l t p e
  from_next {e} w f = go (ltb p (records_in l)) refl
    where
      go : (b : Bool) → ltb p (records_in l) ≡ b → Turned journal image l t p e
      go true h =
          let k : p < records_in l = ltb-true p (records_in l) h in
          let same : next (entry_in journal l p) ≡ next e = sym (next-is journal l w.records k) ∙ f in
          let is : entry_in journal l p ≡ e = cc in
          record {
            tests = w;
            near = k;
            own = rw (← is) (entry-inside journal (length image) (offset_in l p) (number-answered journal l w.records k));
          }
      go false h =
          let k : records_in l ≤ p = ltb-false p (records_in l) h in
          let same : ◌≡◌ {A = Next RecordEntry} ended (next e) = sym (none_left journal l w.records k) ∙ f in
          let z : ◌≡◌ {A = ℕ} 0 1 = cc in
          absurd (omega arith)

  pub turned : {e : RecordEntry} → turning env₀ t p ≡ answered (next e) → Turned journal image l t p e
  unfolding turning
  turned {e} =
      cond_cases (λ (o : Outcome (Next RecordEntry)). o ≡ answered (next e) → Turned journal image l t p e) (eqb (rewind_refusal env₀ t) 0)
      (λ h q. from_next (passed env₀ t (eqb-true (rewind_refusal env₀ t) 0 h)) cc)
      (λ h q. let z : ◌≡◌ {A = ℕ} 0 1 = cc in absurd (omega arith))

module _ (journal image l words : List ℕ) (r : Rewind) where
  abbrev env : Environment
  env = environment_of journal image l

  abbrev t : Table
  t = forward_table words r

  abbrev ComesChain : List ℕ → Answer ResolvedPath → List ℕ → List ℕ → Type 0
  ComesChain x = ChainSteps journal image l words r x

  -- with text, where the step comes to w
  abbrev ComesTo : Outcome (Next Step) → List ℕ → List ℕ → Answer WrittenPath → List ℕ → List ℕ → List ℕ → Type 0
  ComesTo w x y = PathSteps journal image w r words x y

  abbrev ComesText : List ℕ → List ℕ → Answer WrittenPath → List ℕ → List ℕ → List ℕ → Type 0
  ComesText x y = ComesTo (stepped_with_text journal image l words r (length y)) x y

  -- the work of a step with text at the front of one
  abbrev TellsText : List ℕ → Outcome (Next Told) → List ℕ → List ℕ → List ℕ → Type 0
  TellsText text = Tells journal image text (stepped_with_text journal image l words r (length text)) t

  -- what making a step at the front of a text leaves, where it comes to o
  abbrev Out : List ℕ → ℕ → List ℕ → Outcome (Next Told) → List ℕ → List ℕ → List ℕ → List ℕ → List ℕ → Outcome (Next Step) → Type 0
  Out text m nexts v f h n way x o = StepLeaves journal image 0 m nexts text o t v f h n way x

  refuses : (x : List ℕ) {k : Refusal} → stepped journal image l words r ≡ refused (number_of k) → ComesChain x (record { next = Err k; rewind = r }) words x
  refuses x e = record { answer = rw e; state = rw e; forward = rw e; places = rw e }

  module _ {u : Result (Option RecordEntry) Refusal} (e : next_outcome u ≡ turning env t r.position) where
    module _ {k : Refusal} (g : u ≡ Err k) where
      none : stepped journal image l words r ≡ refused (number_of k)
      none = let f : turning env t r.position ≡ refused (number_of k) = sym e ∙ ap next_outcome g in rw f

      pub chain-refused : (x : List ℕ) → ComesChain x (record { next = Err k; rewind = r }) words x
      chain-refused x = refuses x none

      pub text-refused : (y : List ℕ) {way : List ℕ} {v : Result (Option Told) Refusal} → v ≡ Err k → TellsText y (next_outcome v) words way y
      text-refused y z =
          let o : stepped_with_text journal image l words r (length y) ≡ refused (number_of k) = ap (with_text (next_text journal image) (length y)) none in
          rw (z, o) (record { answer = refl; forward = refl; way-is = tt; text-is = refl })

    module _ (g : u ≡ Ok None) where
      over : stepped journal image l words r ≡ answered ended
      over = let f : turning env t r.position ≡ answered ended = sym e ∙ ap next_outcome g in rw f

      pub chain-ended : (x : List ℕ) → ComesChain x (record { next = Ok None; rewind = r }) words x
      chain-ended x = record { answer = rw over; state = rw over; forward = rw over; places = rw over }

      pub text-ended : (y : List ℕ) {way : List ℕ} → TellsText y (answered ended) words way y
      text-ended y =
          let o : stepped_with_text journal image l words r (length y) ≡ answered ended = text-fits (next_text journal image) (length y) over (omega arith) in
          rw o (record { answer = refl; forward = refl; way-is = tt; text-is = refl })

    module _ {d : RecordEntry} (g : u ≡ Ok (Some d)) where
      is : turning env t r.position ≡ answered (next d)
      is = sym e ∙ ap next_outcome g

      pub record-next : Turned journal image l t r.position d
      record-next = turned journal image l t r.position is

      by-adding : stepped journal image l words r ≡ map_outcome (λ u. next (step_of depth d u)) (adding t (forward d ∷ []))
      by-adding = rw is

      -- a step with text is what is made of that record: a refusal, or the table with the record in it, where its text has room
      text-making : (room : ℕ) → stepped_with_text journal image l words r room ≡ making journal image t d room
      text-making room = ap (with_text (next_text journal image) room) by-adding

      -- what making it asks, with no index
      pub made_asks : (way text : List ℕ) → levels < length way → StepAsks journal image t [] [] d.info.name way 0 text
      made_asks way text long =
          let w = record-next in
          record {
            fits = w.tests.fits;
            index = (none-indexed words [] [] r.used (omega (arith, w.tests.fits)) (omega arith)).1;
            wide = λ p. absurd (omega arith);
            names = w.tests.places;
            near-journal = w.tests.journal;
            near-image = w.tests.image;
            own = w.own;
            long = long;
            room = omega arith;
          }

      -- and what it leaves
      tells-made : (text : List ℕ) {m : ℕ} {nexts h n : List ℕ} {v : Outcome (Next Told)} {f way x : List ℕ} → Out text m nexts v f h n way x (making journal image t d (length text - 0))
          → TellsText text v f way x
      tells-made text {m} {nexts} {h} {n} {v} {f} {way} {x} c =
          let k : length text - 0 ≡ length text = omega arith in
          let w : Out text m nexts v f h n way x (making journal image t d (length text)) = rw k at c in
          rw (text-making (length text)) (record { answer = w.answer; forward = w.forward; way-is = w.way-is; text-is = w.text-is })

      module _ (text : List ℕ) {m : ℕ} {nexts h n : List ℕ} {v : Result Told Refusal} {f way x : List ℕ}
          (c : Out text m nexts (map_outcome next (outcome v)) f h n way x (making journal image t d (length text - 0))) where
        pub made-refused : {k : Refusal} → v ≡ Err k → {u : Result (Option Told) Refusal} → u ≡ Err k → TellsText text (next_outcome u) f way x
        made-refused y z = rw z (rw y at (tells-made text c))

        pub made-told : {told : Told} → v ≡ Ok told → TellsText text (answered (next told)) f way x
        made-told y = rw y at (tells-made text c)

      module _ {a : Addition} {o : Outcome ℕ} {s : List ℕ} (q : a ≡ forward d) (x : o ≡ used_after (adding t (a ∷ [])))
          (z : s ≡ words_after (adding t (a ∷ [])) words) where
        module _ {n : ℕ} (y : o ≡ refused n) where
          full : adding t (forward d ∷ []) ≡ refused n
          full = rw (← q) (added_none t a x z y).0

          pub full-words : s ≡ words
          full-words = (added_none t a x z y).1

        pub chain-full : {k : Refusal} → o ≡ refused (number_of k) → (list : List ℕ) → ComesChain list (record { next = Err k; rewind = r }) s list
        chain-full y list = rw (full-words y) (refuses list (by-adding ∙ rw (full y)))

        module _ {n : ℕ} (y : o ≡ answered n) where
          goes : adding t (forward d ∷ []) ≡ answered (table s n)
          goes = rw (← q) (added-table t a x z y)

          w : Added t (forward d) (table s n)
          w = adding-added t (forward d) goes

          step_is : stepped journal image l words r ≡ answered (next (step_of depth d (table s n)))
          step_is = by-adding ∙ rw goes

          -- what the parts of the step ask
          pub after-fits : n * stride ≤ length s
          after-fits =
              let f : n ≤ slots_in s = rw (← w.leaves) at (added-fits t (forward d) w.room) in
              omega arith

          pub chain-taken : (list : List ℕ) {p : ResolvedPath} {m : List ℕ} → p ≡ resolved (chain_of (table s n) depth d.info.parent)
              → m ≡ with_places list (chain_of (table s n) depth d.info.parent).places
              → ComesChain list (record { next = Ok (Some p); rewind = record { used = n; position = r.position + 1 } }) s m
          chain-taken list f k = record { answer = rw (step_is, f); state = rw step_is; forward = rw step_is; places = rw step_is k }

-- a step by its work: what it answers, the state after it, and the list of places
module _ (journal image words : List ℕ) (r : Rewind) (list text : List ℕ) where
  abbrev Steps : Outcome (Next Step) → Answer WrittenPath → List ℕ → List ℕ → List ℕ → Type 0
  Steps o = PathSteps journal image o r words list text

  abbrev Works : Outcome (Next Step) → Outcome (Next Told) → List ℕ → List ℕ → List ℕ → Type 0
  Works o = Tells journal image text o (forward_table words r)

  pub step-refused : (o : Outcome (Next Step)) {v : Result (Option Told) Refusal} {k : Refusal} {f way x : List ℕ} → Works o (next_outcome v) f way x → v ≡ Err k → Steps o (record { next = Err k; rewind = r }) f list x
  step-refused o w e = go o (rw e at w)
    where
      go : (o : Outcome (Next Step)) {k : Refusal} {f way x : List ℕ} → Works o (refused (number_of k)) f way x → Steps o (record { next = Err k; rewind = r }) f list x
      go (refused n) {k} w = let a = w.answer in let same : number_of k ≡ n = cc in record { answer = ap refused same; state = refl; forward = w.forward; places = refl; written = w.text-is }
      go (answered ended) w = let a = w.answer in let z : ◌≡◌ {A = ℕ} 0 1 = cc in absurd (omega arith)
      go (answered (next y)) w = let a = w.answer in let z : ◌≡◌ {A = ℕ} 0 1 = cc in absurd (omega arith)

  pub step-ended : (o : Outcome (Next Step)) {v : Result (Option Told) Refusal} {f way x : List ℕ} → Works o (next_outcome v) f way x → v ≡ Ok None → Steps o (record { next = Ok None; rewind = r }) f list x
  step-ended o w e = go o (rw e at w)
    where
      go : (o : Outcome (Next Step)) {f way x : List ℕ} → Works o (answered ended) f way x → Steps o (record { next = Ok None; rewind = r }) f list x
      go (refused n) w = let a = w.answer in let z : ◌≡◌ {A = ℕ} 0 1 = cc in absurd (omega arith)
      go (answered ended) w = record { answer = refl; state = refl; forward = w.forward; places = refl; written = w.text-is }
      go (answered (next y)) w = let a = w.answer in let z : ◌≡◌ {A = ℕ} 0 1 = cc in absurd (omega arith)

  -- where it is made, and its text has room
  module _ {told : Told} where
    told-slots : (o : Outcome (Next Step)) {f way x : List ℕ} → Works o (answered (next told)) f way x → Slots f way told.path.names
    told-slots (refused n) w = let a = w.answer in let z : ◌≡◌ {A = ℕ} 0 1 = cc in absurd (omega arith)
    told-slots (answered ended) w = let a = w.answer in let z : ◌≡◌ {A = ℕ} 0 1 = cc in absurd (omega arith)
    told-slots (answered (next y)) {f} {way} w =
        let a = w.answer in
        let is : told ≡ told_of journal image 0 y = cc in
        rw (is, w.forward) w.way-is.0

    told-steps : (o : Outcome (Next Step)) → ((y : Step) → o ≡ answered (next y) → length (record_text journal image y) ≤ length text) → {f way x q : List ℕ}
        → Works o (answered (next told)) f way x → q ≡ with_places list (way_places f way told.path.names)
        → Steps o (record { next = Ok (Some (record { path = told.path; text = told.at })); rewind = record { used = told.used; position = r.position + 1 } }) f q x
    told-steps (refused n) fits w h = let a = w.answer in let z : ◌≡◌ {A = ℕ} 0 1 = cc in absurd (omega arith)
    told-steps (answered ended) fits w h = let a = w.answer in let z : ◌≡◌ {A = ℕ} 0 1 = cc in absurd (omega arith)
    told-steps (answered (next y)) fits {f} {way} {x} {q} w h =
        let a = w.answer in
        let is : told ≡ told_of journal image 0 y = cc in
        let long : told.at ≡ length (record_text journal image y) = ap (λ (z : Told). z.at) is ∙ zero-add _ in
        let path-is : told.path ≡ resolved y.chain = ap (λ (z : Told). z.path) is in
        record {
          answer = λ i. answered (next (record { path = path-is i; text = long i }));
          state = λ i. record { used = (ap (λ (z : Told). z.used) is) i; position = r.position + 1 };
          forward = w.forward;
          places = h ∙ ap (with_places list) (rw (path-is, w.forward) w.way-is.1);
          written = w.text-is ∙ sets-front text (record_text journal image y) (fits y refl);
        }

    pub step-near : (l : List ℕ) {v : Result (Option Told) Refusal} {f way x : List ℕ}
        → Works (stepped_with_text journal image l words r (length text)) (next_outcome v) f way x → v ≡ Ok (Some told) → r.position < records_in l
    step-near l w e = go (stepped journal image l words r) refl (rw e at w)
      where
        next-left : (o : Outcome (Next RecordEntry)) → turning (environment_of journal image l) (forward_table words r) r.position ≡ o → {y : Step} → and_then o (taken (forward_table words r) depth) ≡ answered (next y) → r.position < records_in l
        next-left (refused n) q s = let z : ◌≡◌ {A = ℕ} 0 1 = cc in absurd (omega arith)
        next-left (answered ended) q s = let z : ◌≡◌ {A = ℕ} 0 1 = cc in absurd (omega arith)
        next-left (answered (next d)) q s = (turned journal image l (forward_table words r) r.position q).near

        go : (o : Outcome (Next Step)) → stepped journal image l words r ≡ o → {f way x : List ℕ} → Works (with_text (next_text journal image) (length text) o) (answered (next told)) f way x → r.position < records_in l
        go (refused n) q w = let a = w.answer in let z : ◌≡◌ {A = ℕ} 0 1 = cc in absurd (omega arith)
        go (answered ended) q w = absurd (ended-told (ltb (length text) 0) w.answer)
          where
            ended-told : (b : Bool) → answered (next told) ≡ made_of journal image 0 (cond b (refused text_full) (answered ended)) → ⊥
            ended-told true a = let z : ◌≡◌ {A = ℕ} 0 1 = cc in omega arith
            ended-told false a = let z : ◌≡◌ {A = ℕ} 0 1 = cc in omega arith
        go (answered (next y)) q w = next-left (turning (environment_of journal image l) (forward_table words r) r.position) refl q

    pub step-slots : (o : Outcome (Next Step)) {v : Result (Option Told) Refusal} {f way x : List ℕ} → Works o (next_outcome v) f way x → v ≡ Ok (Some told) → Slots f way told.path.names
    step-slots o w e = told-slots o (rw e at w)

    pub step-told : (l : List ℕ) {v : Result (Option Told) Refusal} {f way x q : List ℕ}
        → Works (stepped_with_text journal image l words r (length text)) (next_outcome v) f way x → v ≡ Ok (Some told) → q ≡ with_places list (way_places f way told.path.names)
        → Steps (stepped_with_text journal image l words r (length text)) (record { next = Ok (Some (record { path = told.path; text = told.at })); rewind = record { used = told.used; position = r.position + 1 } }) f q x
    step-told l w e h =
        told-steps (stepped_with_text journal image l words r (length text))
        (λ y s. text-room (next_text journal image) (length text) (stepped journal image l words r) s) (rw e at w) h
