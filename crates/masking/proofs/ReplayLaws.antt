-- The calls that are left once those that 8 refused are struck out come out as the same calls without text, one after the other; and those
-- know nothing of the sources but what rewinds know. So two runs share their results. Assumes nothing.
use Prim.Native.Nat.{ℕ}
use mathlib.Core.Path.{◌≡◌, refl, sym, ap, ◌∙◌}
use mathlib.Core.List.{List, [], ◌∷◌}
use mathlib.Core.Bool.{true, false}
use mathlib.Core.Logic.{⊎_elim}
use lib.Dec.{eqb}
use Rattle.base.specs.Outcome.{Outcome, refused, answered}
use Rattle.base.specs.Refusals.{text_full}
use Rattle.base.proofs.ChoiceLaws.{cond_cases}
use Rattle.additions.specs.Storing.{inserting}
use Rattle.additions.specs.Carved.{seeding}
use Rattle.chain.specs.Settings.{depth}
use Rattle.path.specs.Alike.{Beside}
use Rattle.path.proofs.TwoRuns.{with-text}
use Rattle.rewind_records.specs.Environment.{Environment, environment_of}
use Rattle.rewind.specs.Starting.{starting}
use Rattle.rewind_records.specs.Turning.{Next}
use Rattle.rewind_steps.specs.Taking.{Step}
use Rattle.rewind.specs.Stepping.{forward_table, stepping, stepped}
use Rattle.rewind_steps.specs.StepText.{next_text as text_of}
use Rattle.masking.specs.Calls.{Sources, State, kept_at, table_of, rewind_of, Plain, insert, insert_if_absent, seed, start, next, hand, lend, Call, plain, next_text, Result, stored, start_result, next_result, handed, lent, plain_result, Done, results, struck, plains_of, results_of}
use Rattle.masking.proofs.CallLaws.{next-stays}

-- calls without text, one after the other
abbrev pub replay : Sources → List Plain → State → List Result
replay s [] st = []
replay s (p ∷ ps) st = plain_result s p st ∷ replay s ps (plain_result s p st).after

-- what is left of a list of calls is such a replay
abbrev Replayed : Sources → State → List Done → Type 0
Replayed s st ds = results_of (struck ds) ≡ replay s (plains_of (struck ds)) st

one_more : (s : Sources) (st : State) (p : Plain) (r : Result) (rs : List Result) (ps : List Plain) → plain_result s p st ≡ r → rs ≡ replay s ps r.after
    → r ∷ rs ≡ replay s (p ∷ ps) st
one_more s st p r rs ps e f = rw e (ap (λ (xs : List Result). r ∷ xs) f)

-- a next with text beside the one without: the same, or struck out with the state as it was
next-replayed : (s : Sources) (i room : ℕ) (st : State) (rest : State → List Done) (o o' : Outcome (Next Step)) → plain_result s (next i) st ≡ next_result i st o
    → Beside o o' → ((u : State) → Replayed s u (rest u)) → Replayed s st (record { call = next_text i room; result = next_result i st o' } ∷ rest (next_result i st o').after)
unfolding next_result
next-replayed s i room st rest (refused n) o' e b ih =
    let u = (next_result i st (refused n)).after in
    let stays : u ≡ st = next-stays i st (refused n) refl in
    rw b
    (cond_cases (λ (ds : List Done). results_of ds ≡ replay s (plains_of ds) st) (eqb n text_full) (λ _. rw stays (ih st))
    (λ _. one_more s st (next i) (next_result i st (refused n)) (results_of (struck (rest u))) (plains_of (struck (rest u))) e (ih u)))
next-replayed s i room st rest (answered x) o' e b ih =
    ⊎_elim
    (λ f.
    let u = (next_result i st (answered x)).after in
    rw f (one_more s st (next i) (next_result i st (answered x)) (results_of (struck (rest u))) (plains_of (struck (rest u))) e (ih u)))
    (λ f. rw f (rw (next-stays i st (refused text_full) refl) (ih st)))
    b

replayed : (s : Sources) (cs : List Call) (st : State) → Replayed s st (results s cs st)
replayed s [] st = refl
replayed s (plain p ∷ cs) st = ap (λ (rs : List Result). plain_result s p st ∷ rs) (replayed s cs (plain_result s p st).after)
replayed s (next_text i room ∷ cs) st =
    let o = stepped s.journal s.image s.records (kept_at i st).words (rewind_of (kept_at i st)) in
    next-replayed s i room st (results s cs) o _ refl (with-text (text_of s.journal s.image) room o) (replayed s cs)

-- what a run's calls know of its sources
abbrev pub knowledge : Sources → Environment
knowledge s = environment_of s.journal s.image s.records

-- a call without text, by that alone
abbrev known : Environment → Plain → State → Result
known env (insert i k e) st = stored i st (inserting env.lengths (table_of (kept_at i st)) k e true)
known env (insert_if_absent i k e) st = stored i st (inserting env.lengths (table_of (kept_at i st)) k e false)
known env (seed i es) st = stored i st (seeding env.lengths (table_of (kept_at i st)) es)
known env (start i j) st = start_result i j st (starting env (table_of (kept_at i st)) (kept_at j st).words)
known env (next i) st = next_result i st (stepping env (forward_table (kept_at i st).words (rewind_of (kept_at i st))) depth (kept_at i st).position)
known env (hand i r) st = handed i r st
known env (lend l) st = lent l st

plain_known : (s : Sources) (p : Plain) (st : State) → plain_result s p st ≡ known (knowledge s) p st
plain_known s (insert i k e) st = refl
plain_known s (insert_if_absent i k e) st = refl
plain_known s (seed i es) st = refl
plain_known s (start i j) st = refl
plain_known s (next i) st = refl
plain_known s (hand i r) st = refl
plain_known s (lend l) st = refl

module _ (s t : Sources) (same : knowledge t ≡ knowledge s) where
  pub plain-same : (p : Plain) (st : State) → plain_result t p st ≡ plain_result s p st
  plain-same p st = plain_known t p st ∙ ap (λ (env : Environment). known env p st) same ∙ sym (plain_known s p st)

  replay-same : (ps : List Plain) (st : State) → replay t ps st ≡ replay s ps st
  replay-same [] st = refl
  replay-same (p ∷ ps) st = rw (plain-same p st) (ap (λ (rs : List Result). plain_result s p st ∷ rs) (replay-same ps (plain_result s p st).after))

  -- Two runs whose lists, struck so, hold the same calls share the results of all that are left.
  pub calls_same : (cs ds : List Call) (st : State) → plains_of (struck (results t ds st)) ≡ plains_of (struck (results s cs st))
      → results_of (struck (results t ds st)) ≡ results_of (struck (results s cs st))
  calls_same cs ds st e =
      replayed t ds st ∙ ap (λ (ps : List Plain). replay t ps st) e ∙ replay-same (plains_of (struck (results s cs st))) st ∙ sym (replayed s cs st)
