-- By any list of calls that delivers a journal the window gives the journal's records: what it gave, followed by what is still to come from
-- the window that it reached, is the window's list of the journal; and after an end nothing is to come, unless an empty giving ended the
-- reading. That the end is reached is shown in `Progress` and `Forward`. Assumes nothing.
use Rattle.std.specs.Prelude.{Ok, Err}
use Prim.Native.Nat.{ℕ}
use mathlib.Core.Path.{◌≡◌, refl, sym, ap, ◌∙◌}
use mathlib.Core.List.{List, [], ◌∷◌, ◌++◌, append_assoc, append-nil}
use mathlib.Core.Bool.{Bool, true, false, cond, true≢false}
use native.Mathlib.Omega.{arith}
use lib.ListN.{length}
use lib.Dec.{ltb, eqb}
use borrow.Author.Tests.{eqb-true, eqb-false}
use Rattle.base.specs.Lists.{All}
use Rattle.base.specs.Refusals.{too_many_bytes}
use Rattle.base.specs.declared.Place.{Place}
use Rattle.base.proofs.ChoiceLaws.{cond_cases}
use Rattle.window_numbers.specs.Numbers.{window_size}
use Rattle.usn_window.specs.Window.{window_refusal, wanted_of}
use Rattle.usn_window.specs.Rule.{journal_reads, reading, searched}
use Rattle.usn_window.specs.Calls.{next_of, give_refusal, give_of}
use Rattle.usn_window.specs.Journal.{window_list}
use Rattle.usn_window.specs.Run.{Call, next, give, next_other, give_other, State, shape_of, reading_of, state_after, readings, reached, place_of, given_by, coming, GivesRecord, fresh_over}
use Rattle.usn_window.specs.Owed.{Delivery, Lasting}
use Rattle.usn_window.specs.declared.UsnJournalReader.{UsnJournalReader}
use Rattle.base.specs.declared.refusal.Refusal.{Refusal}
use Rattle.usn_window.specs.Answers.{Answered}
use Rattle.usn_window.specs.declared.Answer.TheVariants.{Wants, End}
use Rattle.usn_window.specs.declared.Reading.{Reading}
use Rattle.usn_window.proofs.BufferLaws.{Filled}
use Rattle.usn_window.proofs.RunLaws.{Carries, AllCarry, Goes, AllGo, other, journal_reading, call-journal}
use Rattle.usn_window.proofs.CountLaws.{delivery-carries, lasting-goes}
use Rattle.usn_window.proofs.ComeLaws.{Over, Comes, search-comes}

-- an ended window has nothing to come
abbrev pub Quiet : List ℕ → UsnJournalReader → Type 0
Quiet s w = w.ended ≡ true → coming s w ≡ []

-- an answer x of a window w over s
pub record Goes_on (s : List ℕ) (w : UsnJournalReader) (x : Reading) : Type 0 where
  pub whole : coming s w ≡ place_of x.answer ++ coming s x.reader
  pub over : Over s x.reader
  pub tells : GivesRecord s x.answer x.reader

-- what holds after it where no empty giving ends the reading
abbrev Stays-quiet : List ℕ → Reading → Type 0
Stays-quiet s x = (x.answer ≡ (Ok End) → coming s x.reader ≡ []) × Quiet s x.reader

module _ (s : List ℕ) (w : UsnJournalReader) (ov : Over s w) where
  -- the window comes back as it is, with no record
  same : (a : Answered) → place_of a ≡ [] → GivesRecord s a w → Goes_on s w (reading a w)
  same a e t = record { whole = rw e; over = ov; tells = t }

  not_end : {a : Answered} → (a ≡ (Ok End) → ⊥) → Quiet s w → Stays-quiet s (reading a w)
  not_end h q = (λ e. absurd (h e), q)

  wants-end : {f k : ℕ} → ◌≡◌ {A = Answered} (Ok (Wants f k)) (Ok End) → ⊥
  wants-end e = let z : ◌≡◌ {A = ℕ} 0 1 = cc in omega arith

  refused_end : {r : Refusal} → ◌≡◌ {A = Answered} (Err r) (Ok End) → ⊥
  refused_end e = let z : ◌≡◌ {A = ℕ} 0 1 = cc in omega arith

  search-goes : w.ended ≡ false → Goes_on s w (searched (journal_reads s) w) × (Quiet s w → Stays-quiet s (searched (journal_reads s) w))
  search-goes live =
      let c = search-comes s w ov live in
      (record { whole = c.whole; over = c.over; tells = c.tells }, λ q. (ended c, c.quiet))
    where
      ended : Comes s (coming s w) (searched (journal_reads s) w) → (searched (journal_reads s) w).answer ≡ (Ok End) → coming s (searched (journal_reads s) w).reader ≡ []
      ended c e = sym (c.whole ∙ ap (λ (a : Answered). place_of a ++ coming s (searched (journal_reads s) w).reader) e) ∙ c.ends e

  abbrev Fine : Reading → Type 0
  Fine x = Goes_on s w x × (Quiet s w → Stays-quiet s x)

  next-goes : (n : ℕ) → Fine (next_of (journal_reads s) n w)
  unfolding next_of
  next-goes n =
      cond_cases Fine (eqb (window_refusal w n) 0)
      (λ _. cond_cases Fine w.ended (λ e. (same (Ok End) refl tt, λ q. (λ _. q e, q))) λ e.
      cond_cases Fine (eqb (wanted_of w) 0) (λ _. search-goes e) (λ _. (same _ refl tt, not_end wants-end)))
      (λ _. (same _ refl tt, not_end refused_end))

  -- a giving moves nothing
  give-goes : (n k : ℕ) → Goes_on s w (give_of n k w)
  unfolding give_of
  give-goes n k =
      let P : Reading → Type 0 = Goes_on s w in
      cond_cases P (eqb (give_refusal n k w) 0)
      (λ _. cond_cases P (eqb k 0)
      (λ _. cond_cases P (eqb (wanted_of w) 0) (λ _. same _ refl tt) (λ _. record { whole = refl; over = record { total = ov.total; steady = ov.steady }; tells = tt }))
      (λ _. record { whole = refl; over = record { total = ov.total; steady = ov.steady }; tells = tt }))
      (λ _. same _ refl tt)

  -- and ends nothing where none is wanted
  give-quiet : (n k : ℕ) → (give_refusal n k w ≡ 0 → k ≡ 0 → wanted_of w ≡ 0) → Quiet s w → Stays-quiet s (give_of n k w)
  unfolding give_of
  give-quiet n k g q =
      let P : Reading → Type 0 = Stays-quiet s in
      cond_cases P (eqb (give_refusal n k w) 0)
      (λ a. cond_cases P (eqb k 0)
      (λ b. cond_cases P (eqb (wanted_of w) 0) (λ _. not_end wants-end q) (λ d. absurd (eqb-false (wanted_of w) 0 d (g (eqb-true _ _ a) (eqb-true _ _ b)))))
      (λ _. (λ e. absurd (wants-end e), q)))
      (λ _. not_end refused_end q)

-- a giving that is accepted passed the window's own tests
refusal-of : (n k : ℕ) (w : UsnJournalReader) → give_refusal n k w ≡ 0 → window_refusal w n ≡ 0
unfolding give_refusal
refusal-of n k w = by (eqb (window_refusal w n) 0) refl
  where
    by : (t : Bool) → eqb (window_refusal w n) 0 ≡ t → cond t (cond (ltb (wanted_of w) k) too_many_bytes 0) (window_refusal w n) ≡ 0 → window_refusal w n ≡ 0
    by true e = λ _. eqb-true _ _ e
    by false e = λ z. z

module _ (s : List ℕ) where
  abbrev BufferHolds : State → Type 0
  BufferHolds st = Filled s st.buffer st.window × Over s st.window

  -- one call, over the journal
  journal-goes : (c : Call) (st : State) → Over s st.window → length st.buffer ≡ window_size → Carries s c st
      → Goes_on s st.window (journal_reading s (shape_of c) st.window) × (Goes c st → Quiet s st.window → Stays-quiet s (journal_reading s (shape_of c) st.window))
  unfolding journal_reading
  journal-goes next st ov e k = let g = next-goes s st.window ov window_size in (g.0, λ _. g.1)
  journal-goes (give x) st ov e k = (give-goes s st.window ov window_size (length x), λ g. give-quiet s st.window ov window_size (length x) (rw e at g))
  journal-goes (next_other b) st ov e k = let g = next-goes s st.window ov (length b) in (g.0, λ _. g.1)
  journal-goes (give_other b x) st ov e k = (
    give-goes s st.window ov (length b) (length x),
    λ _. give-quiet s st.window ov (length b) (length x) (λ r. absurd (other st.window (length b) k (refusal-of (length b) (length x) st.window r))),
  )

  -- and with its buffer
  call-goes : (c : Call) (st : State) → BufferHolds st → Carries s c st
      → Goes_on s st.window (reading_of c st) × (Goes c st → Quiet s st.window → Stays-quiet s (reading_of c st)) × BufferHolds (state_after c st)
  call-goes c st h k =
      let r = call-journal s c st h.0 k in
      let g = journal-goes c st h.1 h.0.size k in
      let a : Goes_on s st.window (reading_of c st) = rw r.0 g.0 in
      (a, rw r.0 g.1, (r.1, a.over))

  -- a list of calls: what it gave, with what is to come, and what its answers tell
  run-goes : (cs : List Call) (st : State) → BufferHolds st → AllCarry s cs st
      → (given_by (readings cs st) ++ coming s (reached cs st).window ≡ coming s st.window) × All (λ x. GivesRecord s x.answer x.reader) (readings cs st)
  run-goes [] st h k = (refl, tt)
  run-goes (c ∷ cs) st h k =
      let g = call-goes c st h k.0 in
      let ih = run-goes cs (state_after c st) g.2 k.1 in (
        append_assoc (place_of (reading_of c st).answer) (given_by (readings cs (state_after c st))) (coming s (reached cs (state_after c st)).window)
            ∙ ap (λ (l : List Place). place_of (reading_of c st).answer ++ l) ih.0
            ∙ sym g.0.whole,
        (g.0.tells, ih.1),
      )

  -- and nothing is to come after an end, unless an empty giving ended the reading
  run_ends : (cs : List Call) (st : State) → BufferHolds st → AllCarry s cs st → AllGo cs st → Quiet s st.window
      → All (λ x. x.answer ≡ (Ok End) → coming s x.reader ≡ []) (readings cs st)
  run_ends [] st h k o q = tt
  run_ends (c ∷ cs) st h k o q =
      let g = call-goes c st h k.0 in
      let e = g.1 o.0 q in
      (e.0, run_ends cs (state_after c st) g.2 k.1 o.1 e.1)

  fresh_holds : (b : List ℕ) → length b ≡ window_size → BufferHolds (fresh_over s b)
  fresh_holds b e = (
    record { size = e; total = refl; bytes = λ i h. absurd (omega arith) },
    record { total = refl; steady = record { inside = omega arith; near = omega arith } },
  )

  pub short-reads : (b : List ℕ) → length b ≡ window_size → (cs : List Call) → Delivery s b cs
      → (given_by (readings cs (fresh_over s b)) ++ coming s (reached cs (fresh_over s b)).window ≡ window_list s)
      × All (λ x. GivesRecord s x.answer x.reader) (readings cs (fresh_over s b))
  short-reads b e cs k = run-goes cs (fresh_over s b) (fresh_holds b e) (delivery-carries s b cs k)

  pub no-early-end : (b : List ℕ) → length b ≡ window_size → (cs : List Call) → Delivery s b cs → Lasting s b cs
      → All (λ x. x.answer ≡ (Ok End) → coming s x.reader ≡ []) (readings cs (fresh_over s b))
  no-early-end b e cs k o = run_ends cs (fresh_over s b) (fresh_holds b e) (delivery-carries s b cs k) (lasting-goes s b cs o) (λ f. absurd (true≢false (sym f)))

  -- the state that a list of calls reaches holds the journal as well, and is quiet
  run-reaches : (cs ds : List Call) (st : State) → BufferHolds st → AllCarry s (cs ++ ds) st → AllGo (cs ++ ds) st → Quiet s st.window
      → BufferHolds (reached cs st) × Quiet s (reached cs st).window × AllCarry s ds (reached cs st) × AllGo ds (reached cs st)
  run-reaches [] ds st h k o q = (h, q, k, o)
  run-reaches (c ∷ cs) ds st h k o q =
      let g = call-goes c st h k.0 in
      run-reaches cs ds (state_after c st) g.2 k.1 o.1 (g.1 o.0 q).1

  reached-last : (cs : List Call) (c : Call) (st : State) → reached (cs ++ (c ∷ [])) st ≡ state_after c (reached cs st)
  reached-last [] c st = refl
  reached-last (d ∷ cs) c st = reached-last cs c (state_after d st)

  -- so whoever goes on until the end, and never gives nothing while bytes are wanted, has all records, however the bytes were cut
  pub all-given : (b : List ℕ) → length b ≡ window_size → (cs : List Call) (c : Call) → Delivery s b (cs ++ (c ∷ [])) → Lasting s b (cs ++ (c ∷ []))
      → (reading_of c (reached cs (fresh_over s b))).answer ≡ (Ok End) → given_by (readings (cs ++ (c ∷ [])) (fresh_over s b)) ≡ window_list s
  all-given b e cs c k o a =
      let st = fresh_over s b in
      let r = run-reaches cs (c ∷ []) st (fresh_holds b e) (delivery-carries s b (cs ++ (c ∷ [])) k) (lasting-goes s b (cs ++ (c ∷ [])) o) (λ f. absurd (true≢false (sym f))) in
      let g = call-goes c (reached cs st) r.0 r.2.0 in
      let z : coming s (reading_of c (reached cs st)).reader ≡ [] = (g.1 r.3.0 r.1).0 a in
      sym (append-nil (given_by (readings (cs ++ (c ∷ [])) st)))
      ∙ ap (λ (l : List Place). given_by (readings (cs ++ (c ∷ [])) st) ++ l) (sym z ∙ ap (λ (x : State). coming s x.window) (sym (reached-last cs c st)))
      ∙ (short-reads b e (cs ++ (c ∷ [])) k).0
