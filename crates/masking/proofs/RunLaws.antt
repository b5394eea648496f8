-- A run of many steps in one call is a list of nexts with text, one for each step, with the room that the texts before it leave: from where the run stands, it
-- goes with them. So what is stated of every list of calls is stated of those with runs in them. Assumes nothing.
use Prim.Native.Nat.{ℕ, zero, suc, ◌+◌, ◌-◌, ◌<◌}
use mathlib.Core.Path.{◌≡◌, refl, sym, ap, ◌∙◌}
use mathlib.Core.List.{List, [], ◌∷◌, ◌++◌, map}
use mathlib.Core.Bool.{Bool, true, false}
use native.Mathlib.Omega.{arith}
use native.Mathlib.Nat.{zero-add}
use lib.ListN.{length, set, length-append}
use lib.Dec.{leb, eqb}
use borrow.Author.Tests.{leb-true, eqb-true, eqb-false}
use lib.Seq.{set-set, get_or-set_same}
use Rattle.base.specs.Outcome.{Outcome, refused, answered}
use Rattle.base.proofs.ChoiceLaws.{cond_cases}
use Rattle.rewind_records.specs.Environment.{environment_of, rewind_refusal}
use Rattle.rewind_records.specs.Turning.{Next, ended, next}
use Rattle.rewind_steps.specs.Taking.{Step}
use Rattle.rewind_steps.specs.StepText.{record_text}
use Rattle.rewind.specs.Stepping.{forward_table}
use Rattle.rewind.specs.Written.{stepped_with_text}
use Rattle.chain.specs.Tracing.{with_places}
use Rattle.chain.specs.Chain.{chain_words}
use Rattle.entry_slots.specs.declared.NamePlace.{NamePlace}
use Rattle.run_steps.specs.Running.{Run, run_from, run_and_step, onward, running}
use Rattle.rewind_run.specs.Promise.{RunsIndexed}
use Rattle.std.specs.Prelude.{Result as Returned}
use Rattle.base.specs.declared.refusal.Refusal.{Refusal}
use Rattle.run_steps.specs.declared.RewindRun.{RewindRun}
use Rattle.rewind_run.specs.Calls.{rooms_on, rooms, call_rooms}
use Rattle.rewind_run.proofs.AsSteps.{answered-run, refused-run, step-refused}
use Rattle.masking.specs.Calls.{Sources, Kept, kept, State, kept_at, rewind_of, Result, result_of, next_result, results, reached, Call, next_text}
use Rattle.masking.specs.Promised.{records_by, records_in, refusal_or, refusal_in, RunAs, RunIs}
use Rattle.masking.proofs.CallLaws.{next-stays}
use Rattle.masking.proofs.ContractLaws.{same_kept}

-- a chain list of no words stays so
none-listed : (ps : List NamePlace) → with_places [] ps ≡ []
unfolding with_places
none-listed [] = refl
none-listed (p ∷ ps) =
    cond_cases (λ (l : List ℕ). l ≡ []) (leb (length (chain_words (p ∷ ps))) 0)
    (λ e. let h = leb-true (length (chain_words (p ∷ ps))) 0 e in absurd (omega arith)) (λ _. refl)

-- a next that is refused leaves all as it was
refused-next : (i : ℕ) (st : State) (n : ℕ) → next_result i st (refused n) ≡ record { outcome = refused n; after = st }
unfolding next_result
refused-next i st n = ap (λ (u : State). record { outcome = refused n; after = u }) (next-stays i st (refused n) refl)

-- a run on table i of a state, and the nexts that stand for it
module _ (s : Sources) (tables : List Kept) (i : ℕ) (inside : i < length tables) (room : ℕ) where
  -- the state where the run stands
  abbrev stand : Run → State
  stand q = record { tables = set tables i (kept q.words q.rewind.used q.rewind.position); chain = [] }

  stands : (q : Run) → kept_at i (stand q) ≡ kept q.words q.rewind.used q.rewind.position
  stands q = get_or-set_same tables i (kept q.words q.rewind.used q.rewind.position) (kept [] 0 0) inside

  abbrev text_from : Run → Outcome (Next Step)
  text_from q = stepped_with_text s.journal s.image s.records q.words q.rewind (room - length q.text)

  abbrev run : ℕ → Run → Run
  run = running s.journal s.image s.records room

  abbrev nexts : List ℕ → List Call
  nexts = map (next_text i)

  -- a run goes on from q to q' by a next that comes to x, and then by these
  record Goes (q q' : Run) (cs : List Call) (x : Result) : Type 0 where
    gives : length q'.ends ≡ length q.ends + (records_by x.outcome + records_in (results s cs x.after))
    refuses : q'.stopped ≡ refusal_or (refusal_in (results s cs x.after)) x.outcome
    leaves : reached s cs x.after ≡ stand q'

  -- and by these
  record Going (q q' : Run) (cs : List Call) : Type 0 where
    gives : length q'.ends ≡ length q.ends + records_in (results s cs (stand q))
    refuses : q'.stopped ≡ refusal_in (results s cs (stand q))
    leaves : reached s cs (stand q) ≡ stand q'

  moved : (q : Run) (x : Step) → (next_result i (stand q) (answered (next x))).after ≡ stand (run_and_step s.journal s.image q x)
  unfolding next_result
  moved q x = rw (stands q, none-listed x.chain.places, set-set tables i (kept q.words q.rewind.used q.rewind.position) (kept x.table.words x.table.used (q.rewind.position + 1))) refl

  by_one : (n : ℕ) (q : Run) (o : Outcome (Next Step)) → q.stopped ≡ 0
      → ((r : Run) → r.stopped ≡ 0 → Going r (run n r) (nexts (rooms s.journal s.image s.records room n r)))
      → Goes q (onward (run n) s.journal s.image q o) (nexts (rooms_on (rooms s.journal s.image s.records room n) s.journal s.image q o)) (next_result i (stand q) o)
  unfolding next_result
  by_one n q (refused k) e more = record { gives = omega arith; refuses = refl; leaves = next-stays i (stand q) (refused k) refl }
  by_one n q (answered ended) e more = record { gives = omega arith; refuses = e; leaves = ap (λ (ks : List Kept). record { tables = ks; chain = [] }) (same_kept (stand q) i) }
  by_one n q (answered (next x)) e more =
      let g = more (run_and_step s.journal s.image q x) refl in
      let f = length-append q.ends (length (q.text ++ record_text s.journal s.image x) ∷ []) in
      rw (moved q x) (record { gives = g.gives ∙ one_more (length q.ends) _ _ f; refuses = g.refuses; leaves = g.leaves })
    where
      one_more : (a b c : ℕ) → b ≡ a + 1 → b + c ≡ a + (1 + c)
      one_more a b c f = omega arith

  goes : (n : ℕ) (q : Run) → q.stopped ≡ 0 → Going q (run n q) (nexts (rooms s.journal s.image s.records room n q))
  unfolding running rooms
  goes zero q e = record { gives = omega arith; refuses = e; leaves = refl }
  goes (suc n) q e =
      let m = room - length q.text in
      let f : result_of s (next_text i m) (stand q) ≡ next_result i (stand q) (text_from q) =
      ap (λ (k : Kept). next_result i (stand q) (stepped_with_text s.journal s.image s.records k.words (rewind_of k) m)) (stands q) in
      let cs = nexts (rooms_on (rooms s.journal s.image s.records room n) s.journal s.image q (text_from q)) in
      let g : Goes q (run (suc n) q) cs (result_of s (next_text i m) (stand q)) = rw f (by_one n q (text_from q) e (goes n)) in
      record { gives = g.gives; refuses = g.refuses; leaves = g.leaves }

-- The nexts give what the run does, and leave what it leaves; a refused run is one next that is refused by the same number.
module _ (s : Sources) (st : State) (i : ℕ) (inside : i < length st.tables) (none : st.chain ≡ []) where
  abbrev k : Kept
  k = kept_at i st

  abbrev tests : ℕ
  tests = rewind_refusal (environment_of s.journal s.image s.records) (forward_table k.words (rewind_of k))

  module _ {heads links ends text : List ℕ} {r : Returned RewindRun Refusal} {words' heads' nexts' ends' text' : List ℕ}
      (h : RunsIndexed s.journal s.image s.records k.words (rewind_of k) heads links ends text r words' heads' nexts' ends' text') where
    abbrev Is : List ℕ → Type 0
    Is sizes = RunAs s st i r words' (map (next_text i) sizes)

    ran-is : tests ≡ 0 → Is (rooms s.journal s.image s.records (length text) (length ends) (run_from k.words (rewind_of k)))
    ran-is p =
        let q = run_from k.words (rewind_of k) in
        let o = answered-run s.journal s.image s.records k.words (rewind_of k) (length text) (length ends) p in
        let cs = map (next_text i) (rooms s.journal s.image s.records (length text) (length ends) q) in
        let here = same_kept st i in
        let same : stand s st.tables i inside (length text) q ≡ st = rw (here, none) refl in
        let g = goes s st.tables i inside (length text) (length ends) q refl in
        let a = rw o at h.answer in
        let w = rw o at h.forward in
        record {
          gives = rw a (g.gives ∙ zero-add _ ∙ ap (λ (u : State). records_in (results s cs u)) same);
          refuses = rw a (g.refuses ∙ ap (λ (u : State). refusal_in (results s cs u)) same);
          leaves = ap (reached s cs) (sym same) ∙ rw (a, w) g.leaves;
        }

    refused-is : (tests ≡ 0 → ⊥) → Is (length text ∷ [])
    refused-is p =
        let o = refused-run s.journal s.image s.records k.words (rewind_of k) (length text) (length ends) p in
        let e = step-refused s.journal s.image s.records k.words (rewind_of k) (length text) (length ends) p (length text) in
        let a = rw o at h.answer in
        let w = rw o at h.forward in
        let here = same_kept st i in
        let f : result_of s (next_text i (length text)) st ≡ record { outcome = refused tests; after = st } = ap (next_result i st) e ∙ refused-next i st tests in
        record { gives = rw (a, f); refuses = rw (a, f); leaves = ap (λ (x : Result). x.after) f ∙ rw (a, w) (rw (here, none) refl) }

    by_tests : (b : Bool) → eqb tests 0 ≡ b → Is (call_rooms s.journal s.image s.records k.words (rewind_of k) (length text) (length ends))
    by_tests true e =
        let o = answered-run s.journal s.image s.records k.words (rewind_of k) (length text) (length ends) (eqb-true _ _ e) in
        rw o (ran-is (eqb-true _ _ e))
    by_tests false e =
        let o = refused-run s.journal s.image s.records k.words (rewind_of k) (length text) (length ends) (eqb-false _ _ e) in
        rw o (refused-is (eqb-false _ _ e))

pub run_is : (s : Sources) (st : State) (i : ℕ) → RunIs s st i
run_is s st i heads links ends text r words' heads' nexts' ends' text' inside none h =
    by_tests s st i inside none h (eqb (tests s st i inside none) 0) refl
