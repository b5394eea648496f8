-- After any list of calls what an answer wants is what is owed by the source's own account, which begins where the position stood at the refill.
-- Assumes nothing.
use Rattle.std.specs.Prelude.{Ok, Err}
use Prim.Native.Nat.{ℕ, ◌+◌}
use mathlib.Core.Path.{◌≡◌, refl, sym, ◌∙◌}
use mathlib.Core.List.{List}
use mathlib.Core.Bool.{false}
use native.Mathlib.Omega.{arith}
use lib.ListN.{length}
use lib.Dec.{eqb}
use borrow.Author.Tests.{eqb-false}
use Rattle.base.proofs.ChoiceLaws.{cond_cases}
use Rattle.usn_window.specs.Window.{window_refusal, wanted_of}
use Rattle.usn_window.specs.Rule.{Reads, buffer_reads, searched}
use Rattle.usn_window.specs.Calls.{next_of, give_refusal, give_of}
use Rattle.usn_window.specs.Run.{Call, next, give, next_other, give_other, State, reading_of, reached, fresh_over}
use Rattle.usn_window.specs.Owed.{Owed, nothing, owed_after, owed_reached}
use Rattle.usn_window.specs.declared.UsnJournalReader.{UsnJournalReader}
use Rattle.usn_window.specs.Answers.{Answered}
use Rattle.usn_window.specs.declared.Answer.TheVariants.{Record, Wants, End}
use Rattle.usn_window.specs.declared.Reading.{Reading}
use Rattle.usn_window.proofs.WindowLaws.{wants-rest}
use Rattle.usn_window.proofs.CountLaws.{missing, Asks, search-asks, Right, call-counts, count-right}

-- an answer that wants bytes wants those that its window misses; asked of a window that misses none, it wants a whole refill
abbrev Wanting : ℕ → Answered → UsnJournalReader → Type 0
Wanting k (Ok (Record o n r)) v = Unit {0}
Wanting k (Ok (Wants f n)) v = (f ≡ v.start + v.held) × (n ≡ wanted_of v) × (k ≡ 0 → v.held ≡ 0)
Wanting k (Ok End) v = Unit {0}
Wanting k (Err m) v = Unit {0}

module _ (w : UsnJournalReader) where
  asks-wanting : (k : ℕ) (a : Answered) (v : UsnJournalReader) → Asks k a v → Wanting k a v
  asks-wanting k (Ok (Record o n r)) v q = tt
  asks-wanting k (Ok (Wants f n)) v q = (q.1, q.2 ∙ wants-rest v q.0, λ _. q.3)
  asks-wanting k (Ok End) v q = tt
  asks-wanting k (Err m) v q = absurd q

  next-wanting : (r : Reads) (n : ℕ) → Wanting (missing w) (next_of r n w).answer (next_of r n w).reader
  unfolding next_of
  next-wanting r n =
      let P : Reading → Type 0 = λ x. Wanting (missing w) x.answer x.reader in
      cond_cases P (eqb (window_refusal w n) 0)
      (λ _. cond_cases P w.ended (λ _. tt) λ e.
      cond_cases P (eqb (wanted_of w) 0) (λ _. asks-wanting (missing w) (searched r w).answer (searched r w).reader (search-asks r w e))
      (λ z. (refl, refl, λ m. absurd (eqb-false _ _ z (sym (wants-rest w e) ∙ m)))))
      (λ _. tt)

  -- k is not 0: a giving is no refill
  give-wanting : (n k : ℕ) → Wanting 1 (give_of n k w).answer (give_of n k w).reader
  unfolding give_of
  give-wanting n k =
      let P : Reading → Type 0 = λ x. Wanting 1 x.answer x.reader in
      cond_cases P (eqb (give_refusal n k w) 0)
      (λ _. cond_cases P (eqb k 0)
      (λ _. cond_cases P (eqb (wanted_of w) 0) (λ _. (refl, refl, λ e. absurd (omega arith))) (λ _. tt))
      (λ _. (refl, refl, λ e. absurd (omega arith))))
      (λ _. tt)

-- 1 where the call can be no refill
abbrev missed : Call → UsnJournalReader → ℕ
missed next w = missing w
missed (give x) w = 1
missed (next_other b) w = missing w
missed (give_other b x) w = 1

call-wanting : (c : Call) (st : State) → Wanting (missed c st.window) (reading_of c st).answer (reading_of c st).reader
unfolding reading_of
call-wanting next st = next-wanting st.window (buffer_reads st.buffer) (length st.buffer)
call-wanting (give x) st = give-wanting st.window (length st.buffer) (length x)
call-wanting (next_other b) st = next-wanting st.window (buffer_reads b) (length b)
call-wanting (give_other b x) st = give-wanting st.window (length b) (length x)

module _ (s b : List ℕ) (cs : List Call) where
  abbrev here : State
  here = reached cs (fresh_over s b)

  abbrev owed : Owed
  owed = owed_reached cs nothing (fresh_over s b)

  -- after any list of calls, what an answer wants is what is owed by the source's own count
  pub wants-owed : (c : Call) {f n : ℕ} → (reading_of c here).answer ≡ Ok (Wants f n) → (reading_of c here).reader.ended ≡ false
      → ((owed_after c (Ok (Wants f n)) owed).bytes ≡ n) × ((n ≡ 0 → ⊥) → (owed_after c (Ok (Wants f n)) owed).from ≡ f)
  wants-owed c {f} {n} e l =
      let r : Right (owed_after c (Ok (Wants f n)) owed) (reading_of c here).reader = rw e at (call-counts c owed here (count-right s b cs) l) in
      let q : Wanting (missed c here.window) (Ok (Wants f n)) (reading_of c here).reader = rw e at (call-wanting c here) in
      let m : missing (reading_of c here).reader ≡ n = wants-rest (reading_of c here).reader l ∙ sym q.1 in
      (r.bytes ∙ m, λ z. r.from (λ y. z (sym m ∙ sym r.bytes ∙ y)) ∙ sym q.0)

  -- and what is owed at first is from where the position stood at the refill on, which is the window's start
  pub owed-from-refill : owed.bytes ≡ 0 → here.window.ended ≡ false → {f n : ℕ} → (reading_of next here).answer ≡ Ok (Wants f n) → f ≡ (reading_of next here).reader.start
  owed-from-refill z l {f} {n} e =
      let q : Wanting (missing here.window) (Ok (Wants f n)) (reading_of next here).reader = rw e at (call-wanting next here) in
      let h : (reading_of next here).reader.held ≡ 0 = q.2 (sym (count-right s b cs l).bytes ∙ z) in
      omega (arith, q.0)
