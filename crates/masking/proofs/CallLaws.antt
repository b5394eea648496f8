-- What holds of every call: a refused one leaves the state as it was, and 8 is the answer to a next with text alone. Assumes nothing.
use Prim.Native.Nat.{ℕ}
use mathlib.Core.Path.{◌≡◌, refl, ap}
use mathlib.Core.List.{List}
use mathlib.Core.Bool.{true, not, false≢true}
use native.Mathlib.Omega.{arith}
use lib.Dec.{ltb}
use borrow.Author.Tests.{eqb-true}
use Rattle.base.specs.Outcome.{Outcome, refused, answered}
use Rattle.base.specs.Refusals.{text_full}
use Rattle.base.proofs.ChoiceLaws.{cond_cases}
use Rattle.entry_slots.specs.Names.{Lengths, all_inside}
use Rattle.entry_slots.specs.Slots.{slots_in}
use Rattle.entry_slots.specs.Table.{Table, Addition}
use Rattle.additions.specs.Storing.{names_of, storing}
use Rattle.rewind.specs.Starting.{Tables}
use Rattle.rewind_records.specs.Turning.{Next}
use Rattle.rewind_steps.specs.Taking.{Step}
use Rattle.rewind.proofs.TextLaws.{NotFull, not-full-of, adding-not-full, starting-not-full, stepping-not-full}
use Rattle.chain.specs.Settings.{depth}
use Rattle.masking.specs.Calls.{Sources, State, Plain, insert, insert_if_absent, seed, start, hand, lend, Call, plain, next_text, Answer, stored, start_result, next_result, handed, lent, plain_result, result_of, is_struck}
use Rattle.masking.specs.Calls as calls
use Rattle.masking.proofs.ContractLaws.{same_kept}

-- A refused call leaves every word of the tables and of the chain list, both numbers of used slots and the position as they were.
stored-stays : (i : ℕ) (st : State) (o : Outcome Table) {n : ℕ} → (stored i st o).outcome ≡ refused n → (stored i st o).after ≡ st
unfolding stored
stored-stays i st (refused m) e = rw (same_kept st i) refl
stored-stays i st (answered t) e = let z : ◌≡◌ {A = ℕ} 0 1 = cc in absurd (omega arith)

start-stays : (i j : ℕ) (st : State) (o : Outcome Tables) {n : ℕ} → (start_result i j st o).outcome ≡ refused n → (start_result i j st o).after ≡ st
unfolding start_result
start-stays i j st (refused m) e = rw (same_kept st i, same_kept st j) refl
start-stays i j st (answered ts) e = let z : ◌≡◌ {A = ℕ} 0 1 = cc in absurd (omega arith)

pub next-stays : (i : ℕ) (st : State) (o : Outcome (Next Step)) {n : ℕ} → (next_result i st o).outcome ≡ refused n → (next_result i st o).after ≡ st
unfolding next_result
next-stays i st (refused m) e = rw (same_kept st i) refl
next-stays i st (answered x) e = let z : ◌≡◌ {A = ℕ} 0 1 = cc in absurd (omega arith)

plain-stays : (s : Sources) (p : Plain) (st : State) {n : ℕ} → (plain_result s p st).outcome ≡ refused n → (plain_result s p st).after ≡ st
unfolding handed lent
plain-stays s (insert i k x) st e = stored-stays i st _ e
plain-stays s (insert_if_absent i k x) st e = stored-stays i st _ e
plain-stays s (seed i es) st e = stored-stays i st _ e
plain-stays s (start i j) st e = start-stays i j st _ e
plain-stays s (calls.next i) st e = next-stays i st _ e
plain-stays s (hand i r) st e = let z : ◌≡◌ {A = ℕ} 0 1 = cc in absurd (omega arith)
plain-stays s (lend l) st e = let z : ◌≡◌ {A = ℕ} 0 1 = cc in absurd (omega arith)

pub refused-stays : (s : Sources) (c : Call) (st : State) {n : ℕ} → (result_of s c st).outcome ≡ refused n → (result_of s c st).after ≡ st
refused-stays s (plain p) st e = plain-stays s p st e
refused-stays s (next_text i room) st e = next-stays i st _ e

storing-not-full : (ls : Lengths) (t : Table) (xs : List Addition) → NotFull (storing ls t xs)
unfolding storing
storing-not-full ls t xs =
    cond_cases NotFull (ltb (slots_in t.words) t.used) (λ _ e. omega arith)
    (λ _. cond_cases NotFull (not (all_inside ls (names_of xs))) (λ _ e. omega arith) (λ _. adding-not-full t xs))

stored-not-full : (i : ℕ) (st : State) (o : Outcome Table) → NotFull o → NotFull (stored i st o).outcome
unfolding stored
stored-not-full i st (refused n) h = h
stored-not-full i st (answered t) h = tt

start-not-full : (i j : ℕ) (st : State) (o : Outcome Tables) → NotFull o → NotFull (start_result i j st o).outcome
unfolding start_result
start-not-full i j st (refused n) h = h
start-not-full i j st (answered ts) h = tt

next-not-full : (i : ℕ) (st : State) (o : Outcome (Next Step)) → NotFull o → NotFull (next_result i st o).outcome
unfolding next_result
next-not-full i st (refused n) h = h
next-not-full i st (answered x) h = tt

plain_other : (s : Sources) (p : Plain) (st : State) → NotFull (plain_result s p st).outcome
unfolding handed lent
plain_other s (insert i k e) st = stored-not-full i st _ (storing-not-full _ _ _)
plain_other s (insert_if_absent i k e) st = stored-not-full i st _ (storing-not-full _ _ _)
plain_other s (seed i es) st = stored-not-full i st _ (storing-not-full _ _ _)
plain_other s (start i j) st = start-not-full i j st _ (starting-not-full _ _ _)
plain_other s (calls.next i) st = next-not-full i st _ (stepping-not-full _ _ depth _)
plain_other s (hand i r) st = tt
plain_other s (lend l) st = tt

-- No call without text is refused with 8.
pub plain-not-full : (s : Sources) (p : Plain) (st : State) → (plain_result s p st).outcome ≡ refused text_full → ⊥
plain-not-full s p st = not-full-of (plain_result s p st).outcome (plain_other s p st)

-- So the calls that are struck out are those that 8 refused, and each leaves the state as it was.
pub full-struck : (s : Sources) (c : Call) (st : State) → (result_of s c st).outcome ≡ refused text_full → is_struck c (result_of s c st).outcome ≡ true
full-struck s (plain p) st e = absurd (plain-not-full s p st e)
full-struck s (next_text i room) st e = rw e refl

pub struck-full : (c : Call) (o : Outcome Answer) → is_struck c o ≡ true → o ≡ refused text_full
struck-full (plain p) o e = absurd (false≢true e)
struck-full (next_text i room) (refused n) e = ap refused (eqb-true n text_full e)
struck-full (next_text i room) (answered a) e = absurd (false≢true e)

pub struck-stays : (s : Sources) (c : Call) (st : State) → is_struck c (result_of s c st).outcome ≡ true → (result_of s c st).after ≡ st
struck-stays s c st e = refused-stays s c st (struck-full c (result_of s c st).outcome e)
