-- A call of many steps by its ways out: where a test refuses nothing is written, and otherwise the run is made with an index, or with none. Assumes
-- nothing.
use Prim.Native.Nat.{ℕ, ◌*◌, ◌≤◌, ◌<◌}
use mathlib.Core.Path.{◌≡◌, refl, ap, sym, ◌∙◌}
use mathlib.Core.List.{List, [], ◌++◌}
use mathlib.Core.Bool.{Bool, true, false}
use native.Mathlib.Omega.{arith}
use lib.ListN.{length}
use Rattle.base.specs.Outcome.{Outcome, refused, answered, map_outcome, outcome}
use Rattle.base.proofs.ChoiceLaws.{cond_same}
use Rattle.entry_slots.specs.Slots.{stride, slots_in}
use Rattle.entry_slots.specs.Table.{Table}
use Rattle.entry_slots.specs.Index.{heads_of, nexts_of, enough, heads_left, nexts_left}
use Rattle.entry_slots.proofs.IndexLaws.{no-heads, no-nexts}
use Rattle.entry_table.proofs.SeedLaws.{nexts-long, index-again, index-then, enough-room, left-built, left-plain}
use Rattle.rewind_records.specs.Environment.{Environment, environment_of, rewind_refusal}
use Rattle.rewind.specs.Stepping.{forward_table}
use Rattle.rewind.specs.declared.Rewind.{Rewind}
use Rattle.rewind_records.proofs.TurnLaws.{passed, checks, check-refused, check-passed}
use Rattle.run_steps.specs.Running.{Run, run_table}
use Rattle.run_steps.specs.Promise.{RunAsks, RunLeaves, run_made}
use Rattle.run_steps.specs.declared.RewindRun.{RewindRun}
use Rattle.rewind_run.specs.Running.{tested_run}
use Rattle.rewind_run.specs.Promise.{run_out, RunsIndexed}
use Rattle.std.specs.Prelude.{Result, Ok, Err}
use Rattle.base.specs.Words.{number}
use Rattle.base.specs.Refusals.{number_of}
use Rattle.base.specs.declared.refusal.Refusal.{Refusal}

-- what a call that is refused leaves in the words for an index, with enough of them or not
pub left-refused : (slots : ℕ) (o : Outcome Table) (heads nexts : List ℕ) {n : ℕ} → o ≡ refused n → (heads ≡ heads_left slots o heads nexts) × (nexts ≡ nexts_left slots o heads nexts)
left-refused slots o heads nexts e = (rw e (cond_same (enough slots heads nexts) heads), rw e (cond_same (enough slots heads nexts) nexts))

module _ (journal image records words : List ℕ) (r : Rewind) (heads nexts ends text : List ℕ) where
  abbrev t : Table
  t = forward_table words r

  abbrev env : Environment
  env = environment_of journal image records

  abbrev all : Run
  all = run_made journal image records words r heads nexts ends text

  abbrev out : Outcome Run
  out = run_out journal image records words r heads nexts ends text

  abbrev is_enough : Bool
  is_enough = enough (slots_in words) heads nexts

  abbrev Answers : Result RewindRun Refusal → List ℕ → List ℕ → List ℕ → List ℕ → List ℕ → Type 0
  Answers = RunsIndexed journal image records words r heads nexts ends text

  abbrev Runs : List ℕ → List ℕ → RewindRun → List ℕ → List ℕ → List ℕ → List ℕ → List ℕ → Type 0
  Runs h n = RunLeaves journal image records words r h n ends text

  module _ {checked : Result Unit Refusal} (e : number (outcome checked) ≡ rewind_refusal env t) where
    refused_all : {k : Refusal} → checked ≡ Err k → out ≡ refused (number_of k)
    unfolding tested_run
    refused_all h = check-refused env t e (answered all) h

    -- also where no step is asked for
    pub run-refused : {k : Refusal} → checked ≡ Err k → Answers (Err k) words heads nexts ends text
    run-refused h =
        let o = refused_all h in
        let left = left-refused (slots_in words) (map_outcome run_table out) heads nexts (ap (map_outcome run_table) o) in
        record { answer = rw o; forward = rw o; heads-are = left.0; nexts-are = left.1; ends-are = rw o; text-is = rw o }

    module _ {u : Unit} (h : checked ≡ Ok u) where
      run-tests : rewind_refusal env t ≡ 0
      run-tests = checks env t e h

      answered-all : out ≡ answered all
      unfolding tested_run
      answered-all = check-passed env t e (answered all) h

      module _ {b : Bool} (f : b ≡ is_enough) (g : b ≡ true) where
        wide : slots_in words ≤ length nexts
        wide = enough-room (slots_in words) heads nexts (sym f ∙ g)

        pub build-asks : (r.used * stride ≤ length words) × (0 < length heads → r.used ≤ length nexts)
        build-asks = let fits : r.used ≤ slots_in words = (passed env t run-tests).fits in (omega arith, λ _. omega (arith, wide))

        module _ {h₁ n₁ : List ℕ} (eh : h₁ ≡ heads_of (length heads) t) (en : n₁ ≡ nexts_of (length heads) t nexts) where
          pub run-asks : RunAsks journal image records words r h₁ n₁
          run-asks = record { passes = run-tests; index = index-again (length heads) t nexts eh en; wide = λ _. omega (arith, wide, nexts-long (length heads) t nexts eh en) }

          pub run-built : {a : RewindRun} {w h' n' e' x : List ℕ} → Runs h₁ n₁ a w h' n' e' x → Answers (Ok a) w h' n' e' x
          run-built c =
              let both = index-then (length heads) t nexts eh en {u = run_table all} {o = answered (run_table all)} refl c.heads-are c.nexts-are in
              let left = left-built (slots_in words) (answered (run_table all)) heads nexts (sym f ∙ g) both in
              let q = answered-all in
              record {
                answer = rw (q, c.answer);
                forward = rw q c.forward;
                heads-are = rw q left.0;
                nexts-are = rw q left.1;
                ends-are = rw q c.ends-are;
                text-is = rw q c.text-is;
              }

      module _ {b : Bool} (f : b ≡ is_enough) (g : b ≡ false) where
        pub plain-asks : RunAsks journal image records words r [] nexts
        plain-asks = record { passes = run-tests; index = (no-heads 0 t [] (omega arith) refl, no-nexts 0 t nexts (omega arith)); wide = λ p. absurd (omega arith) }

        pub run-plain : {a : RewindRun} {w h' n' e' x : List ℕ} → Runs [] nexts a w h' n' e' x → Answers (Ok a) w (h' ++ heads) n' e' x
        run-plain c =
            let left = left-plain (slots_in words) (answered (run_table all)) heads nexts (sym f ∙ g) (c.heads-are, c.nexts-are) in
            let q = answered-all in
            record {
              answer = rw (q, c.answer);
              forward = rw q c.forward;
              heads-are = rw q left.0;
              nexts-are = rw q left.1;
              ends-are = rw q c.ends-are;
              text-is = rw q c.text-is;
            }
