-- The next record's path by a run of one step: what the step comes to, and what it leaves. Assumes nothing.
use Prim.Native.Nat.{ℕ, ◌+◌, ◌≤◌}
use mathlib.Core.Path.{◌≡◌, refl, ap, sym, ◌∙◌}
use mathlib.Core.List.{List, [], ◌∷◌, ◌++◌, map}
use mathlib.Core.Bool.{Bool, true, false}
use native.Mathlib.Nat.{sub-zero}
use native.Mathlib.Omega.{arith}
use borrow.Author.Tests.{ltb-false, eqb-true, eqb-false}
use lib.Dec.{ltb, eqb}
use lib.ListN.{length, get_or, take, drop, take-append-drop}
use lib.Seq.{sets, length-take-le}
use Rattle.base.specs.Lists.{overwrite}
use Rattle.base.specs.Outcome.{Outcome, refused, answered}
use Rattle.base.proofs.ChoiceLaws.{cond_cases}
use Rattle.path_text.specs.Decoding.{with_text}
use Rattle.rewind_records.specs.Environment.{environment_of, rewind_refusal}
use Rattle.rewind_records.specs.Turning.{Next, ended, next}
use Rattle.rewind_steps.specs.Taking.{Step}
use Rattle.rewind_steps.specs.StepText.{record_text, next_text}
use Rattle.rewind.specs.Stepping.{stepped, forward_table, rewind_after, words_after}
use Rattle.rewind.specs.Written.{stepped_with_text}
use Rattle.rewind.specs.declared.Rewind.{Rewind}
use Rattle.run_steps.specs.Running.{Run, RunNumbers, run_numbers, run_from, onward as run_on, running, ran}
use Rattle.run_steps.specs.declared.RewindRun.{RewindRun}
use Rattle.rewind_run.specs.Running.{run_outcome}
use Rattle.rewind_run.specs.Promise.{RunsIndexed}
use Rattle.std.specs.Prelude.{Result, Err, Option, None, Some}
use Rattle.base.specs.declared.refusal.Refusal.{Refusal}
use Rattle.rewind_run.proofs.AsSteps.{answered-run, refused-run, step-refused}
use Rattle.usn_fields.specs.Line.{question_mark, shown_byte, shown_to}
use Rattle.usn_lines.specs.Listing.{Standing, standing, shown_path, onward, path_of}
use Rattle.usn_lines.specs.Promise.{Puts, Passes, StepsWithText, run_or, put_of_step, text_of_step}
use Rattle.usn_lines.specs.declared.Put.{Put}
use Rattle.utf16.proofs.PutLaws.{Put as Written}
use Rattle.usn_fields.proofs.ShownLaws.{shown-front, length-shown}

-- an answer with text is an answer without, whose text has room
text-step : (journal : List ℕ) (room : ℕ) (o : Outcome (Next Step)) (x : Step) → with_text (next_text journal []) room o ≡ answered (next x)
    → (o ≡ answered (next x)) × (length (record_text journal [] x) ≤ room)
text-step journal room (refused n) x = λ e. let z : ◌≡◌ {A = ℕ} 0 1 = cc in absurd (omega arith)
text-step journal room (answered a) x =
    cond_cases (λ (w : Outcome (Next Step)). w ≡ answered (next x) → (answered a ≡ answered (next x)) × (length (record_text journal [] x) ≤ room))
    (ltb room (length (next_text journal [] a)))
    (λ _ e. let z : ◌≡◌ {A = ℕ} 0 1 = cc in absurd (omega arith))
    (λ f e. let same : a ≡ next x = cc in (e, rw same at (ltb-false room (length (next_text journal [] a)) f)))

-- a call that is refused has made no step
pub none-ran : (r : Rewind) {y : Result RewindRun Refusal} {k : Refusal} → y ≡ Err k → record { steps = 0; stopped = 0; rewind = r } ≡ run_or r (run_outcome y)
none-ran r e = rw e

module _ (journal records words : List ℕ) (r : Rewind) where
  -- a run of one step, by what that comes to
  abbrev one : Outcome (Next Step) → Run
  one o = run_on (λ q. q) journal [] (run_from words r) o

  ran-one : (room : ℕ) → ran journal [] records words r room 1 ≡ one (stepped_with_text journal [] records words r room)
  unfolding running
  ran-one room = rw (sub-zero room) (by (stepped_with_text journal [] records words r room))
    where
      by : (o : Outcome (Next Step)) → run_on (running journal [] records room 0) journal [] (run_from words r) o ≡ one o
      by (refused n) = refl
      by (answered ended) = refl
      by (answered (next x)) = refl

  abbrev s : Standing
  s = standing words r

  -- what a call leaves that is asked for one step, by what that comes to: where the call is refused, the step is
  record One (room : ℕ) (part : List ℕ) (a : RewindRun) (words' ends' part' : List ℕ) : Type 0 where
    steps-are : a.steps ≡ length (one (stepped_with_text journal [] records words r room)).ends
    state-is : a.rewind ≡ (one (stepped_with_text journal [] records words r room)).rewind
    words_are : words' ≡ (one (stepped_with_text journal [] records words r room)).words
    ends-are : ends' ≡ overwrite (0 ∷ []) (one (stepped_with_text journal [] records words r room)).ends
    part-is : part' ≡ overwrite part (one (stepped_with_text journal [] records words r room)).text

  abbrev tests : ℕ
  tests = rewind_refusal (environment_of journal [] records) (forward_table words r)

  one-ran : (part heads nexts : List ℕ) {y : Result RewindRun Refusal} {a : RewindRun} {words' heads' nexts' ends' part' : List ℕ}
      → RunsIndexed journal [] records words r heads nexts (0 ∷ []) part y words' heads' nexts' ends' part' → run_numbers a ≡ run_or r (run_outcome y)
      → One (length part) part a words' ends' part'
  one-ran part heads nexts {y} {a} {words'} {heads'} {nexts'} {ends'} {part'} p m = go (eqb tests 0) refl
    where
      go : (b : Bool) → eqb tests 0 ≡ b → One (length part) part a words' ends' part'
      go true e =
          let q = answered-run journal [] records words r (length part) 1 (eqb-true _ _ e) ∙ ap answered (ran-one (length part)) in
          let f = m ∙ ap (run_or r) (rw q at p.answer) in
          record {
            steps-are = ap (λ (x : RunNumbers). x.steps) f;
            state-is = ap (λ (x : RunNumbers). x.rewind) f;
            words_are = rw q at p.forward;
            ends-are = rw q at p.ends-are;
            part-is = rw q at p.text-is;
          }
      go false e =
          let k = eqb-false _ _ e in
          let q = refused-run journal [] records words r (length part) 1 k in
          let f = m ∙ ap (run_or r) (rw q at p.answer) in
          let o = step-refused journal [] records words r (length part) 1 k (length part) in
          record {
            steps-are = rw o (ap (λ (x : RunNumbers). x.steps) f);
            state-is = rw o (ap (λ (x : RunNumbers). x.rewind) f);
            words_are = rw o (rw q at p.forward);
            ends-are = rw o (rw q at p.ends-are);
            part-is = rw o (rw q at p.text-is);
          }

  -- what the function that makes it says of it
  module _ (part : List ℕ) {heads nexts : List ℕ} {y : Result RewindRun Refusal} (a : RewindRun) {words' heads' nexts' ends' part' : List ℕ}
      (c : RunsIndexed journal [] records words r heads nexts (0 ∷ []) part y words' heads' nexts' ends' part') (m : run_numbers a ≡ run_or r (run_outcome y)) where
    ran-is : One (length part) part a words' ends' part'
    ran-is = one-ran part heads nexts c m

    pub tells-none : a.steps ≡ 0 → StepsWithText journal words r part (stepped_with_text journal [] records words r (length part)) None words' part'
    tells-none z = by (stepped_with_text journal [] records words r (length part)) ran-is.steps-are ran-is.words_are ran-is.part-is
      where
        by : (o : Outcome (Next Step)) → a.steps ≡ length (one o).ends → words' ≡ (one o).words → part' ≡ overwrite part (one o).text → StepsWithText journal words r part o None words' part'
        by (refused n) e g k = record { answer = refl; forward = g; written = k }
        by (answered ended) e g k = record { answer = refl; forward = g; written = k }
        by (answered (next x)) e g k = absurd (omega (arith, e, z))

    pub tells-some : (a.steps ≡ 0 → ⊥) → StepsWithText journal words r part (stepped_with_text journal [] records words r (length part)) (Some (record { end = get_or ends' 0 0; rewind = a.rewind })) words' part'
    tells-some z = by (stepped_with_text journal [] records words r (length part)) ran-is.steps-are ran-is.state-is ran-is.words_are ran-is.ends-are ran-is.part-is
      where
        by : (o : Outcome (Next Step)) → a.steps ≡ length (one o).ends → a.rewind ≡ (one o).rewind → words' ≡ (one o).words → ends' ≡ overwrite (0 ∷ []) (one o).ends
            → part' ≡ overwrite part (one o).text → StepsWithText journal words r part o (Some (record { end = get_or ends' 0 0; rewind = a.rewind })) words' part'
        by (refused n) e f g h k = absurd (z e)
        by (answered ended) e f g h k = absurd (z e)
        by (answered (next x)) e f g h k =
            let ends-at : get_or ends' 0 0 ≡ length (record_text journal [] x) = ap (λ (l : List ℕ). get_or l 0 0) h in
            record { answer = λ i. Some (record { end = ends-at i; rewind = f i }); forward = g; written = k }

  -- no step is made: nothing is told, and nothing written
  none_made : (o : Outcome (Next Step)) → None ≡ put_of_step journal r o → (words_after o words ≡ words) × ((text_of_step journal o ≡ []) × (shown_path journal o ≡ question_mark ∷ []))
  none_made (refused n) z = (refl, (refl, refl))
  none_made (answered ended) z = (refl, (refl, refl))
  none_made (answered (next x)) z = let z : ◌≡◌ {A = ℕ} 0 1 = cc in absurd (omega arith)

  -- one is made
  one-made : (o : Outcome (Next Step)) {q : Put} → Some q ≡ put_of_step journal r o → (C : Type 0)
      → ((x : Step) → o ≡ answered (next x) → q ≡ record { end = length (record_text journal [] x); rewind = rewind_after (answered (next x)) r } → C) → C
  one-made (refused n) h C f = let z : ◌≡◌ {A = ℕ} 0 1 = cc in absurd (omega arith)
  one-made (answered ended) h C f = let z : ◌≡◌ {A = ℕ} 0 1 = cc in absurd (omega arith)
  one-made (answered (next x)) h C f = f x refl cc

  module _ (text : List ℕ) (most : ℕ) (h : (1 ≤ most) × (most ≤ length text)) where
    abbrev out : Outcome (Next Step)
    out = stepped_with_text journal [] records words r most

    abbrev Steps : Option Put → List ℕ → List ℕ → Type 0
    Steps a words' part' = StepsWithText journal words r (take most text) (stepped_with_text journal [] records words r (length (take most text))) a words' part'

    at-most : {a : Option Put} {words' part' : List ℕ} → Steps a words' part' → StepsWithText journal words r (take most text) out a words' part'
    at-most c = rw (length-take-le most text h.1) at c

    module _ {words' part' : List ℕ} (c : Steps None words' part') where
      none : (words_after out words ≡ words) × ((text_of_step journal out ≡ []) × (shown_path journal out ≡ question_mark ∷ []))
      none = none_made out (at-most c).answer

      none-part : part' ≡ take most text
      none-part = (at-most c).written ∙ ap (overwrite (take most text)) none.1.0

      none-text : part' ++ drop most text ≡ text
      none-text = ap (λ (l : List ℕ). l ++ drop most text) none-part ∙ take-append-drop most text

      none-words : words' ≡ words
      none-words = (at-most c).forward ∙ none.0

      -- a question mark, and the record is passed
      pub path-none : {e : ℕ} {v : List ℕ} {q : Rewind} {w : List ℕ} → Written (part' ++ drop most text) v 0 e (question_mark ∷ [])
          → Passes (onward journal records (standing words' r)) q w
          → Puts text (shown_path journal out) most (onward journal records s) (record { end = e; rewind = q }) w v
      path-none {e} {v} {q} {w} b g =
          let d : Passes (onward journal records s) q w = rw none-words at g in
          let shown = none.1.1 in
          record {
            end_is = b.value ∙ ap length (sym shown);
            written = b.text_after ∙ ap (λ (l : List ℕ). sets l 0 (question_mark ∷ [])) none-text ∙ ap (sets text 0) (sym shown);
            fits = omega (arith, b.value, h.0);
            state = d.state;
            forward = d.forward;
          }

    module _ {a : Put} {words' part' : List ℕ} (c : Steps (Some a) words' part') where
      -- what the run leaves, by the step that it made
      module _ (x : Step) (f : out ≡ answered (next x)) (is : a ≡ record { end = length (record_text journal [] x); rewind = rewind_after (answered (next x)) r }) where
        abbrev its-text : List ℕ
        its-text = record_text journal [] x

        step : (stepped journal [] records words r ≡ answered (next x)) × (length its-text ≤ most)
        step = text-step journal most (stepped journal [] records words r) x f

        end_is : a.end ≡ length its-text
        end_is = ap (λ (p : Put). p.end) is

        part-is : part' ≡ overwrite (take most text) its-text
        part-is = (at-most c).written ∙ ap (λ (o : Outcome (Next Step)). overwrite (take most text) (text_of_step journal o)) f

        onward-is : onward journal records s ≡ standing x.table.words (record { used = x.table.used; position = r.position + 1 })
        unfolding onward
        onward-is = rw step.0

        whole : {v : List ℕ} → v ≡ shown_to a.end (part' ++ drop most text)
            → Puts text (shown_path journal out) most (onward journal records s) a words' v
        whole {v} e =
            let shown : shown_path journal out ≡ map shown_byte its-text = rw f in
            let sized : length (map shown_byte its-text) ≡ length its-text = length-shown its-text in
            record {
              end_is = end_is ∙ sym sized ∙ ap length (sym shown);
              written = e ∙ rw (end_is, part-is) (shown-front most text its-text step.1 h.1) ∙ ap (sets text 0) (sym shown);
              fits = omega (arith, end_is, step.1);
              state = ap (λ (p : Put). p.rewind) is ∙ ap (λ (q : Standing). q.rewind) (sym onward-is);
              forward = (at-most c).forward ∙ ap (λ (o : Outcome (Next Step)). words_after o words) f ∙ ap (λ (q : Standing). q.words) (sym onward-is);
            }

      some : (C : Type 0) → ((x : Step) → out ≡ answered (next x) → a ≡ record { end = length (record_text journal [] x); rewind = rewind_after (answered (next x)) r } → C) → C
      some = one-made out (at-most c).answer

      pub path-end : a.end ≤ most
      path-end = some (a.end ≤ most) (λ x f is. omega (arith, end_is x f is, (step x f is).1))

      pub path-some : {v : List ℕ} → v ≡ shown_to a.end (part' ++ drop most text)
          → Puts text (shown_path journal out) most (onward journal records s) a words' v
      path-some {v} e = some _ (λ x f is. whole x f is e)

  -- in as many bytes as a path may take
  pub path-put : {text words' text' : List ℕ} {q : Put} → Puts text (shown_path journal (stepped_with_text journal [] records words r 65536)) 65536 (onward journal records s) q words' text'
      → Puts text (path_of journal records s) 65536 (onward journal records s) q words' text'
  unfolding path_of
  path-put c = c
