-- What a source owes by its own count is what the window wants: so the bytes of a delivery come where the window stores them, and every
-- law about lists of calls that carry the journal holds of deliveries. Assumes nothing.
use Rattle.std.specs.Prelude.{Ok, Err}
use Prim.Native.Nat.{ℕ, zero, suc, ◌+◌, ◌-◌, ◌≤◌, ◌<◌}
use mathlib.Core.Path.{◌≡◌, refl, sym, ◌∙◌}
use mathlib.Core.List.{List, [], ◌∷◌}
use mathlib.Core.Bool.{Bool, true, false, true≢false, ◌||◌}
use native.Mathlib.Omega.{arith}
use lib.ListN.{length}
use lib.Dec.{ltb, eqb}
use borrow.Author.Tests.{eqb-true, eqb-false, eq-eqb, ne_eqb}
use Rattle.base.specs.Outcome.{Outcome, refused, answered}
use Rattle.base.specs.Places.{part}
use Rattle.base.proofs.ChoiceLaws.{cond_cases}
use Rattle.usn_record.specs.declared.UsnRecord.{UsnRecord}
use Rattle.window_numbers.specs.Numbers.{window_size}
use Rattle.usn_window.specs.Window.{window_refusal, wanted_of, refilled, skipped, finished, fed_by}
use Rattle.usn_window.specs.Rule.{Reads, buffer_reads, or_end, given, turn_by_length, turn_of, onward, searched}
use Rattle.usn_window.specs.Calls.{next_of, give_refusal, give_of}
use Rattle.usn_window.specs.Run.{Call, next, give, next_other, give_other, State, reading_of, state_after, reached, fresh_over}
use Rattle.usn_window.specs.Owed.{Owed, nothing, asked_by, owed_asked, owed_less, owed_given, owed_after, owed_reached, Along, Accepted, Delivers, Delivery, Lasts, Lasting}
use Rattle.usn_window.specs.declared.UsnJournalReader.{UsnJournalReader}
use Rattle.base.specs.declared.refusal.Refusal.{Refusal}
use Rattle.usn_window.specs.Answers.{Answered, refused_by}
use Rattle.usn_window.specs.declared.Answer.TheVariants.{Record, Wants, End}
use Rattle.usn_window.specs.declared.Reading.{Reading}
use Rattle.usn_window.specs.declared.turn.Turn.{Turn}
use Rattle.usn_window.specs.declared.turn.Turn.TheVariants.{Done, Again}
use Rattle.usn_window.proofs.WindowLaws.{wants-none, wants-rest}
use Rattle.usn_window.proofs.SearchLaws.{Moved, TurnShape, turn-shape, closer, search-step}
use Rattle.usn_window.proofs.GiveLaws.{give-accepted}
use Rattle.usn_window.proofs.RunLaws.{Carries, AllCarry, Goes, AllGo}

-- the bytes that are still to come into the window's buffer
abbrev pub missing : UsnJournalReader → ℕ
missing w = w.end - w.start - w.held

-- an answer a that left the window v, after a window with k bytes missing: it asks for what is missing then, which is a whole refill
abbrev pub Asks : ℕ → Answered → UsnJournalReader → Type 0
Asks k (Ok (Record o n r)) v = (v.ended ≡ false) × (missing v ≡ k)
Asks k (Ok (Wants f n)) v = (v.ended ≡ false) × (f ≡ v.start + v.held) × (n ≡ missing v) × (v.held ≡ 0)
Asks k (Ok End) v = v.ended ≡ true
Asks k (Err m) v = ⊥

abbrev AsksTurn : ℕ → Turn → Type 0
AsksTurn k (Done x) = Asks k x.answer x.reader
AsksTurn k (Again v) = (v.ended ≡ false) × (missing v ≡ k)

or-end-asks : (k : ℕ) (w v : UsnJournalReader) → v.ended ≡ false → v.held ≡ 0 → AsksTurn k (or_end w v)
or-end-asks k w v e h = cond_cases (AsksTurn k) (eqb w.end w.total) (λ _. refl) (λ _. (e, refl, sym (wants-rest v e), h))

given-asks : (w : UsnJournalReader) (n : ℕ) (x : Outcome UsnRecord) → w.ended ≡ false → AsksTurn (missing w) (given w n x)
given-asks w n (refused m) e = (e, refl)
given-asks w n (answered r) e = (e, refl)

turn-asks : (r : Reads) (w : UsnJournalReader) → w.ended ≡ false → AsksTurn (missing w) (turn_of r w)
unfolding turn_of turn_by_length
turn-asks r w e =
    let n = r.length_at w in
    let P : Turn → Type 0 = AsksTurn (missing w) in
    cond_cases P (ltb w.end (w.position + 8)) (λ _. or-end-asks (missing w) w (refilled w) e refl) λ _.
    cond_cases P (ltb n 8 || ltb window_size n) (λ _. (e, refl)) λ _.
    cond_cases P (ltb w.end (w.position + n))
    (λ _. cond_cases (λ (v : UsnJournalReader). P (or_end w v)) (ltb w.total (w.position + n))
    (λ _. or-end-asks (missing w) w (skipped (refilled w)) e refl) (λ _. or-end-asks (missing w) w (refilled w) e refl)) λ _.
    given-asks w n (r.record_at w) e

onward-asks : (k : ℕ) (w : UsnJournalReader) (t : Turn) (f : UsnJournalReader → Reading) → TurnShape w t → AsksTurn k t
    → ((v : UsnJournalReader) → Moved w v → v.ended ≡ false → Asks (missing v) (f v).answer (f v).reader)
    → Asks k (onward (λ x. x) f t).answer (onward (λ x. x) f t).reader
onward-asks k w (Done x) f sh a ih = a
onward-asks k w (Again v) f sh a ih = rw a.1 at (ih v sh a.0)

search-go : (r : Reads) (k : ℕ) (w : UsnJournalReader) → w.end - w.position < k → w.ended ≡ false → Asks (missing w) (searched r w).answer (searched r w).reader
search-go r zero w h e = absurd (omega arith)
search-go r (suc k) w h e =
    rw (search-step r w)
    (onward-asks (missing w) w (turn_of r w) (searched r) (turn-shape r w) (turn-asks r w e) (λ v m. search-go r k v (omega (arith, closer m))))

pub search-asks : (r : Reads) (w : UsnJournalReader) → w.ended ≡ false → Asks (missing w) (searched r w).answer (searched r w).reader
search-asks r w e = search-go r (suc (w.end - w.position)) w (omega arith) e

-- the count is right: what is owed is what is missing, and begins where the window stores
pub record Right (o : Owed) (w : UsnJournalReader) : Type 0 where
  pub bytes : o.bytes ≡ missing w
  pub from : (o.bytes ≡ 0 → ⊥) → o.from ≡ w.start + w.held

-- until the end
abbrev pub Counts : Owed → UsnJournalReader → Type 0
Counts o w = w.ended ≡ false → Right o w

over-counts : (o : Owed) (w : UsnJournalReader) → w.ended ≡ true → Counts o w
over-counts o w e l = absurd (true≢false (sym e ∙ l))

none_right : (o : Owed) (w : UsnJournalReader) → o.bytes ≡ 0 → missing w ≡ 0 → Right o w
none_right o w e m = record { bytes = e ∙ sym m; from = λ h. absurd (h e) }

pub asked-right : (a : Answered) (v : UsnJournalReader) → Asks 0 a v → Counts (asked_by a) v
asked-right (Ok (Record o n r)) v c l = none_right nothing v refl c.1
asked-right (Ok (Wants f n)) v c l = record { bytes = c.2; from = λ _. c.1 }
asked-right (Ok End) v c l = over-counts nothing v c l
asked-right (Err m) v c l = absurd c

module _ (o : Owed) (w : UsnJournalReader) (c : Counts o w) where
  -- an answer with which the window stays as it is, and that asks for what is missing or for nothing
  none-asked : (r : Refusal) → Counts (owed_asked (Err r) o) w
  none-asked r l = cond_cases (λ (p : Owed). Right p w) (eqb o.bytes 0) (λ e. none_right nothing w refl (sym (c l).bytes ∙ eqb-true _ _ e)) (λ _. c l)

  pub next-counts : (r : Reads) (n : ℕ) → Counts (owed_asked (next_of r n w).answer o) (next_of r n w).reader
  unfolding next_of
  next-counts r n =
      let P : Reading → Type 0 = λ x. Counts (owed_asked x.answer o) x.reader in
      cond_cases P (eqb (window_refusal w n) 0)
      (λ _. cond_cases P w.ended (λ e. over-counts (owed_asked (Ok End) o) w e) λ e.
      let m : missing w ≡ wanted_of w = wants-rest w e in
      let b : o.bytes ≡ missing w = (c e).bytes in
      cond_cases P (eqb (wanted_of w) 0)
      (λ z. let k : missing w ≡ 0 = m ∙ eqb-true _ _ z in
      rw (eq-eqb o.bytes 0 (b ∙ k)) (asked-right (searched r w).answer (searched r w).reader (rw k at (search-asks r w e))))
      (λ z. rw (ne_eqb o.bytes 0 (λ h. eqb-false _ _ z (sym m ∙ sym b ∙ h))) c))
      (λ _. none-asked (refused_by (window_refusal w n)))

  abbrev Left : ℕ → Reading → Type 0
  Left k x = Counts (owed_given k x.answer o) x.reader

  pub give-counts : (n k : ℕ) → Counts (owed_given k (give_of n k w).answer o) (give_of n k w).reader
  unfolding give_of
  give-counts n k =
      cond_cases (Left k) (eqb (give_refusal n k w) 0)
      (λ _. cond_cases (Left k) (eqb k 0)
      (λ e. cond_cases (Left k) (eqb (wanted_of w) 0) (λ _ l. none (eqb-true _ _ e) (c l)) (λ _. over-counts (owed_less k o) (finished w) refl))
      (λ _ l. fed (c l)))
      (λ _. c)
    where
      none : k ≡ 0 → Right o w → Right (owed_less k o) w
      none e r = record { bytes = omega (arith, r.bytes); from = λ h. omega (arith, r.from (λ z. h (omega arith))) }

      fed : Right o w → Right (owed_less k o) (fed_by w k)
      fed r = record { bytes = omega (arith, r.bytes); from = λ h. omega (arith, r.from (λ z. h (omega arith))) }

-- the law of the count: after any list of calls, whatever bytes were given
pub call-counts : (c : Call) (o : Owed) (st : State) → Counts o st.window → Counts (owed_after c (reading_of c st).answer o) (reading_of c st).reader
unfolding reading_of
call-counts next o st k = next-counts o st.window k (buffer_reads st.buffer) (length st.buffer)
call-counts (give x) o st k = give-counts o st.window k (length st.buffer) (length x)
call-counts (next_other b) o st k = next-counts o st.window k (buffer_reads b) (length b)
call-counts (give_other b x) o st k = give-counts o st.window k (length b) (length x)

run-counts : (cs : List Call) (o : Owed) (st : State) → Counts o st.window → Counts (owed_reached cs o st) (reached cs st).window
run-counts [] o st k = k
run-counts (c ∷ cs) o st k = run-counts cs (owed_after c (reading_of c st).answer o) (state_after c st) (call-counts c o st k)

fresh-counts : (s b : List ℕ) → Counts nothing (fresh_over s b).window
fresh-counts s b l = record { bytes = refl; from = λ h. absurd (h refl) }

pub count-right : (s b : List ℕ) (cs : List Call) → Counts (owed_reached cs nothing (fresh_over s b)) (reached cs (fresh_over s b)).window
count-right s b cs = run-counts cs nothing (fresh_over s b) (fresh-counts s b)

-- a giving that the numbers do not refuse is accepted
pub accepted-of : (n k : ℕ) (w : UsnJournalReader) → give_refusal n k w ≡ 0 → Accepted (give_of n k w).answer
unfolding give_of
accepted-of n k w e =
    let P : Reading → Type 0 = λ x. Accepted x.answer in
    rw (eq-eqb (give_refusal n k w) 0 e)
    (cond_cases P (eqb k 0) (λ _. cond_cases P (eqb (wanted_of w) 0) (λ _. tt) (λ _. tt)) (λ _. tt))

-- k bytes that a live window accepts come where it stores them
stored-where : (s x : List ℕ) (o : Owed) (w : UsnJournalReader) → Counts o w → length x ≤ wanted_of w → x ≡ part s o.from (length x) → x ≡ part s (w.start + w.held) (length x)
stored-where s [] o w c h e = refl
stored-where s (y ∷ ys) o w c h e = by w.ended refl
  where
    by : (t : Bool) → w.ended ≡ t → (y ∷ ys) ≡ part s (w.start + w.held) (length (y ∷ ys))
    by true f = absurd (omega (arith, wants-none w f))
    by false f =
        let q : o.from ≡ w.start + w.held = (c f).from (λ z. omega (arith, (c f).bytes, wants-rest w f)) in
        rw q at e

module _ (s : List ℕ) where
  pub call-carries : (c : Call) (o : Owed) (st : State) → Counts o st.window → Delivers s c o st → Carries s c st
  unfolding reading_of
  call-carries next o st k d = tt
  call-carries (give x) o st k d = λ e. stored-where s x o st.window k (give-accepted (length st.buffer) (length x) st.window e).1 (d (accepted-of (length st.buffer) (length x) st.window e))
  call-carries (next_other b) o st k d = d
  call-carries (give_other b x) o st k d = d

  run-carries : (cs : List Call) (o : Owed) (st : State) → Counts o st.window → Along (Delivers s) cs o st → AllCarry s cs st
  run-carries [] o st k d = tt
  run-carries (c ∷ cs) o st k d =
      (call-carries c o st k d.0, run-carries cs (owed_after c (reading_of c st).answer o) (state_after c st) (call-counts c o st k) d.1)

  -- a delivery carries the journal to where the window stores it
  pub delivery-carries : (b : List ℕ) (cs : List Call) → Delivery s b cs → AllCarry s cs (fresh_over s b)
  delivery-carries b cs d = run-carries cs nothing (fresh_over s b) (fresh-counts s b) d

-- and one that lasts gives nothing only where the window wants nothing
call-lasts : (c : Call) (o : Owed) (st : State) → Counts o st.window → Lasts c o st → Goes c st
call-lasts next o st k l = tt
call-lasts (give x) o st k l = λ _ z. by st.window.ended refl (l z)
  where
    by : (t : Bool) → st.window.ended ≡ t → o.bytes ≡ 0 → wanted_of st.window ≡ 0
    by true f z = sym (wants-none st.window f)
    by false f z = sym (wants-rest st.window f) ∙ sym (k f).bytes ∙ z
call-lasts (next_other b) o st k l = tt
call-lasts (give_other b x) o st k l = tt

run-lasts : (cs : List Call) (o : Owed) (st : State) → Counts o st.window → Along Lasts cs o st → AllGo cs st
run-lasts [] o st k l = tt
run-lasts (c ∷ cs) o st k l =
    (call-lasts c o st k l.0, run-lasts cs (owed_after c (reading_of c st).answer o) (state_after c st) (call-counts c o st k) l.1)

pub lasting-goes : (s b : List ℕ) (cs : List Call) → Lasting s b cs → AllGo cs (fresh_over s b)
lasting-goes s b cs l = run-lasts cs nothing (fresh_over s b) (fresh-counts s b) l
