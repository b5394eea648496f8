-- What the answers of a start by way of an index and of a run go out as. Assumes nothing.
use Prim.Native.Nat.{ℕ, ◌≤◌, ◌<◌}
use mathlib.Core.Path.{◌≡◌, refl, ap, ◌∙◌}
use mathlib.Core.List.{List}
use mathlib.Core.Bool.{Bool}
use lib.ListN.{length}
use Rattle.base.specs.Outcome.{Outcome, refused, answered, outcome, map_outcome}
use Rattle.base.specs.Words.{short_by, after_domain, Answers}
use Rattle.base.proofs.WordLaws.{Domain, domain-short, domain-enough, out-same, out-mapped}
use Rattle.entry_slots.specs.Slots.{slots_in}
use Rattle.entry_slots.specs.Index.{heads_left, nexts_left}
use Rattle.rewind.specs.Starting.{Tables, first_after, forward_after}
use Rattle.rewind.specs.declared.Rewind.{Rewind}
use Rattle.run_steps.specs.Running.{Run, run_table, run_numbers}
use Rattle.rewind_run.specs.Running.{tested_run, run_outcome}
use Rattle.std.specs.Prelude.{Result}
use Rattle.base.specs.declared.refusal.Refusal.{Refusal}
use Rattle.run_steps.specs.declared.RewindRun.{RewindRun}
use Rattle.rewind_run.specs.Promise.{RunsIndexed}
use Rattle.rewind_run.proofs.CallLaws.{left-refused}
use Rattle.volume_answers.specs.Domain.{either_above}
use Rattle.rewind_ffi.specs.Rewind.{start_words}
use Rattle.run_steps.specs.Words.{row_of, run_words}
use Rattle.rewind_ffi.specs.Promise.{first_of, StartCalls, RunCalls}
use Rattle.rewind_ffi.proofs.DomainLaws.{run-domain}

-- a start, where x is the outcome of the call that is made when the list takes the words
module _ (x : Outcome Tables) (s f h n l : List ℕ) where
  pub starts-indexed-answered : 2 ≤ length l → {t g h' n' m : List ℕ} {r : ℕ} → t ≡ first_after x s → g ≡ forward_after x f → h' ≡ heads_left (slots_in s) (first_of x) h n
      → n' ≡ nexts_left (slots_in s) (first_of x) h n → Answers start_words x l r m → StartCalls (after_domain 2 (length l) x) s f h n l r t g h' n' m
  starts-indexed-answered q a b c d o =
      rw (domain-enough x q) (record { start = record { answer = o.answer; first = a; second = b; row = o.row }; heads-are = c; nexts-are = d })

  pub starts-indexed-short : {above : Bool} → Domain above x → length l < 2 → {r : ℕ} → r ≡ short_by above → StartCalls (after_domain 2 (length l) x) s f h n l r s f h n l
  starts-indexed-short d q {r} g =
      let e = domain-short x d q g in
      let left = left-refused (slots_in s) (refused r) h n refl in
      rw e (record { start = record { answer = refl; first = refl; second = refl; row = refl }; heads-are = left.0; nexts-are = left.1 })

-- a run goes out as its numbers do
out-numbers : (x : Outcome RewindRun) {l m : List ℕ} {r : ℕ} → Answers run_words x l r m → Answers row_of (map_outcome run_numbers x) l r m
out-numbers (refused n) o = record { answer = o.answer; row = o.row }
out-numbers (answered a) o = record { answer = o.answer; row = o.row }

-- a run: too few words for its answer, or what the run itself promises
module _ (journal image records words : List ℕ) (rewind : Rewind) (heads nexts ends text out : List ℕ) where
  abbrev plainly : Outcome Run
  plainly = tested_run journal image records words rewind (length text) (length ends)

  abbrev Calls : ℕ → List ℕ → List ℕ → List ℕ → List ℕ → List ℕ → List ℕ → Type 0
  Calls = RunCalls journal image records words rewind heads nexts ends text out

  pub runs-short : length out < 4 → {n : ℕ} → n ≡ short_by (either_above journal image) → Calls n words heads nexts ends text out
  runs-short q {n} e =
      let w = domain-short plainly (run-domain journal image records words rewind (length text) (length ends)) q e in
      let left = left-refused (slots_in words) (map_outcome run_table (after_domain 4 (length out) plainly)) heads nexts (ap (map_outcome run_table) w) in
      record { answer = rw w; forward = rw w; heads-are = left.0; nexts-are = left.1; ends-are = rw w; text-is = rw w; row = rw w }

  pub runs-answered : 4 ≤ length out → {y : Result RewindRun Refusal} {n : ℕ} {words' heads' nexts' ends' text' out' : List ℕ}
      → RunsIndexed journal image records words rewind heads nexts ends text y words' heads' nexts' ends' text' → Answers run_words (outcome y) out n out'
      → Calls n words' heads' nexts' ends' text' out'
  runs-answered q {y} c o =
      let w = domain-enough plainly q in
      let a = out-mapped plainly (out-same (out-numbers (outcome y) o) c.answer) in
      record {
        answer = rw w a.answer;
        forward = rw w c.forward;
        heads-are = rw w c.heads-are;
        nexts-are = rw w c.nexts-are;
        ends-are = rw w c.ends-are;
        text-is = rw w c.text-is;
        row = rw w a.row;
      }
