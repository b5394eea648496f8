-- What each call's contract says is what the list of calls says of it: the outcome and the state after it are rewritten by the contract's equations.
-- Assumes nothing.
use Prim.Native.Nat.{ℕ}
use mathlib.Core.Path.{◌≡◌, refl, sym, ◌∙◌}
use mathlib.Core.List.{List, []}
use native.Mathlib.Omega.{arith}
use lib.ListN.{length, get_or, set}
use lib.Seq.{set-get_or}
use Rattle.base.specs.Outcome.{Outcome, refused, answered, map_outcome}
use Rattle.entry_slots.specs.Names.{lengths_of}
use Rattle.entry_slots.specs.Table.{Table, table}
use Rattle.additions.proofs.CarverLaws.{seeding-carved}
use Rattle.entry_table.specs.Promise.{Stores}
use Rattle.std.specs.Prelude.{Result, Ok, Err}
use Rattle.base.specs.Outcome.{outcome}
use Rattle.base.specs.Refusals.{number_of}
use Rattle.base.specs.declared.refusal.Refusal.{Refusal}
use Rattle.rewind_records.specs.Turning.{Next}
use Rattle.rewind_steps.specs.Taking.{Step}
use Rattle.rewind.specs.Promise.{start_out}
use Rattle.rewind.specs.Starting.{Tables, begun, first_after, forward_after}
use Rattle.rewind.specs.Stepping.{stepped, step_answer}
use Rattle.rewind.specs.Written.{stepped_with_text, written_answer}
use Rattle.rewind.specs.declared.Rewind.{Rewind}
use Rattle.masking.specs.Calls.{Sources, kept, State, kept_at, rewind_of, step, stored, start_result, next_result}
use Rattle.masking.specs.Promised.{stored_as, InsertIs, InsertIfAbsentIs, SeedIs, SeedFromCarvedIs, started_as, StartIs, path_of, path_text_of, NextIs, NextTextIs, WindowListsAreCalls}
use Rattle.usn_window.specs.Run.{reading_of, buffer_of}

-- a table that is put back leaves the tables as they were
pub same_kept : (st : State) (i : ℕ) → set st.tables i (kept_at i st) ≡ st.tables
same_kept st i = set-get_or st.tables i (kept [] 0 0)

module _ (s : Sources) (st : State) (i : ℕ) where
  abbrev words : List ℕ
  words = (get_or st.tables i (kept [] 0 0)).words

  -- a call that stores, by what its contract says: where it is answered, and where it is refused
  stored-answered : (t : Table) (r : Result ℕ Refusal) (words' : List ℕ) → Stores (answered t) words r words' → stored i st (answered t) ≡ stored_as s st i r words'
  unfolding stored
  stored-answered t (Ok m) words' h = let e = h.answer in let k : m ≡ t.used = cc in rw (h.slots-are, k) refl
  stored-answered t (Err m) words' h = let e = h.answer in let z : ◌≡◌ {A = ℕ} 0 1 = cc in absurd (omega arith)

  stored_refused : (n : ℕ) (r : Result ℕ Refusal) (words' : List ℕ) → Stores (refused n) words r words' → stored i st (refused n) ≡ stored_as s st i r words'
  unfolding stored
  stored_refused n (Ok m) words' h = let e = h.answer in let z : ◌≡◌ {A = ℕ} 0 1 = cc in absurd (omega arith)
  stored_refused n (Err m) words' h = let e = h.answer in let k : number_of m ≡ n = cc in rw (h.slots-are, k) refl

  stored-as : (o : Outcome Table) (r : Result ℕ Refusal) (words' : List ℕ) → Stores o words r words' → stored i st o ≡ stored_as s st i r words'
  stored-as (refused n) r words' h = stored_refused n r words' h
  stored-as (answered t) r words' h = stored-answered t r words' h

  pub insert-is : InsertIs s st i
  insert-is k e r words' h = stored-as _ r words' h

  pub insert-if-absent-is : InsertIfAbsentIs s st i
  insert-if-absent-is k e r words' h = stored-as _ r words' h

  pub seed-is : SeedIs s st i
  seed-is es r words' h = stored-as _ r words' h

  pub seed-from-carved-is : SeedFromCarvedIs s st i
  seed-from-carved-is es r words' h =
      rw (seeding-carved (lengths_of s.journal s.image) (table (kept_at i st).words (kept_at i st).used) es) (stored-as _ r words' h)

  -- a start, where it is answered and where it is refused
  module _ (j : ℕ) (first' words' : List ℕ) where
    start-answered : (ts : Tables) (r : Result Rewind Refusal) → outcome r ≡ answered (begun ts) → first' ≡ ts.first.words → words' ≡ ts.forward.words
        → start_result i j st (answered ts) ≡ started_as s st i j r first' words'
    unfolding start_result
    start-answered ts (Ok q) e f g = let k : q ≡ begun ts = cc in rw (f, g, k) refl
    start-answered ts (Err m) e f g = let z : ◌≡◌ {A = ℕ} 0 1 = cc in absurd (omega arith)

    start-refused : (n : ℕ) (r : Result Rewind Refusal) → outcome r ≡ refused n → first' ≡ (kept_at i st).words → words' ≡ (kept_at j st).words
        → start_result i j st (refused n) ≡ started_as s st i j r first' words'
    unfolding start_result
    start-refused n (Ok q) e f g = let z : ◌≡◌ {A = ℕ} 0 1 = cc in absurd (omega arith)
    start-refused n (Err m) e f g = let k : number_of m ≡ n = cc in rw (f, g, k) refl

    start-as : (o : Outcome Tables) (r : Result Rewind Refusal) → outcome r ≡ map_outcome begun o → first' ≡ first_after o (kept_at i st).words
        → words' ≡ forward_after o (kept_at j st).words → start_result i j st o ≡ started_as s st i j r first' words'
    start-as (refused n) r e f g = start-refused n r e f g
    start-as (answered ts) r e f g = start-answered ts r e f g

  pub start_is : (j : ℕ) → StartIs s st i j
  start_is j r first' words' h =
      let o = start_out s.journal s.image s.records (table (kept_at i st).words (kept_at i st).used) (kept_at j st).words in
      start-as j first' words' o r h.answer h.first h.forward

  pub next-is : NextIs s st i
  unfolding next_result
  next-is r words' list' h =
      let o = stepped s.journal s.image s.records (kept_at i st).words (rewind_of (kept_at i st)) in
      record { whole = refl; answer-is = h.answer ∙ text-step o; leaves = rw (h.state, h.forward, h.places) refl }
    where
      text-step : (o : Outcome (Next Step)) → step_answer o ≡ map_outcome path_of (map_outcome step o)
      text-step (refused n) = refl
      text-step (answered x) = refl

  pub next-text-is : NextTextIs s st i
  unfolding next_result
  next-text-is text r words' list' text' h =
      let o = stepped_with_text s.journal s.image s.records (kept_at i st).words (rewind_of (kept_at i st)) (length text) in
      record { whole = refl; answer-is = h.answer ∙ text-step o; leaves = rw (h.state, h.forward, h.places) refl }
    where
      text-step : (o : Outcome (Next Step)) → written_answer s.journal s.image o ≡ map_outcome (path_text_of s.journal s.image) (map_outcome step o)
      text-step (refused n) = refl
      text-step (answered x) = refl

-- the window's calls
pub window-is : WindowListsAreCalls
unfolding reading_of buffer_of
window-is =
    record {
      next-is = λ st r e. (sym e, rw e refl);
      give-is = λ st x r buffer' h. (sym h.answer, rw (h.answer, h.filled) refl);
      next-other-is = λ st b r e. (sym e, rw e refl);
      give-other-is = λ st b x r b' h. (sym h.answer, rw h.answer refl);
    }
