-- Any list of calls that delivers a journal comes to the end once enough of its calls go on, whatever other calls stand between them; and before the end
-- no asking is refused, and no giving of bytes that are owed. Assumes nothing.
use Rattle.std.specs.Prelude.{Ok, Err}
use Prim.Native.Nat.{ℕ, ◌+◌, ◌-◌, ◌≤◌, ◌<◌}
use mathlib.Core.Path.{◌≡◌, refl, sym, ◌∙◌}
use mathlib.Core.List.{List, [], ◌∷◌}
use mathlib.Core.Bool.{Bool, true, false, cond}
use native.Mathlib.Omega.{arith}
use lib.ListN.{length}
use lib.Dec.{eqb}
use borrow.Author.Tests.{eqb-true, eqb-false, ne_eqb, le-ltb}
use Rattle.base.specs.Lists.{All}
use Rattle.base.proofs.ChoiceLaws.{cond_cases}
use Rattle.window_numbers.specs.Numbers.{window_size, stream_domain}
use Rattle.usn_window.specs.Window.{window_refusal, wanted_of, fed_by, fresh}
use Rattle.usn_window.specs.Rule.{Reads, buffer_reads, journal_reads, searched}
use Rattle.usn_window.specs.Calls.{next_of, give_refusal, give_of}
use Rattle.usn_window.specs.Run.{Call, next, give, next_other, give_other, State, reading_of, state_after, readings, reached, fresh_over}
use Rattle.usn_window.specs.Owed.{Owed, nothing, owed_after, owed_reached, Along, Accepted, Delivers, Delivery, count_if, step_given, goings}
use Rattle.usn_window.specs.Delivery.{calls_for}
use Rattle.usn_window.specs.declared.UsnJournalReader.{UsnJournalReader}
use Rattle.usn_window.specs.Answers.{Answered}
use Rattle.usn_window.specs.declared.Answer.TheVariants.{Record, Wants, End}
use Rattle.usn_window.specs.declared.Reading.{Reading}
use Rattle.usn_window.proofs.WindowLaws.{Sound, wants-rest}
use Rattle.usn_window.proofs.CallLaws.{next-searches, next-asks}
use Rattle.usn_window.proofs.ComeLaws.{Over, search-comes}
use Rattle.usn_window.proofs.RunLaws.{other, journal_reading, call-journal}
use Rattle.usn_window.proofs.GiveLaws.{give-accepted}
use Rattle.usn_window.proofs.CountLaws.{missing, Asks, search-asks, call-counts, call-carries, accepted-of}
use Rattle.usn_window.proofs.ProgressLaws.{sound-accepted, sound-fed, to_go, Less, search-less, fed-less, fresh-most}
use Rattle.usn_window.proofs.Progress.{Held, fresh-held}

sum-most : (a b c d : ℕ) → a + b ≤ c → d ≤ b → a + d ≤ c
sum-most a b c d h k = omega arith

-- a window whose numbers are not refused refuses no asking, and no giving of as many bytes as are missing
asks-accepted : (k : ℕ) (a : Answered) (v : UsnJournalReader) → Asks k a v → Accepted a
asks-accepted k (Ok (Record o n r)) v q = tt
asks-accepted k (Ok (Wants f n)) v q = tt
asks-accepted k (Ok End) v q = tt
asks-accepted k (Err m) v q = q

next-accepted : (r : Reads) (n : ℕ) (w : UsnJournalReader) → window_refusal w n ≡ 0 → Accepted (next_of r n w).answer
unfolding next_of
next-accepted r n w e =
    let P : Reading → Type 0 = λ x. Accepted x.answer in
    rw e
    (cond_cases P w.ended (λ _. tt) λ l.
    cond_cases P (eqb (wanted_of w) 0) (λ _. asks-accepted (missing w) (searched r w).answer (searched r w).reader (search-asks r w l)) (λ _. tt))

not-too-many : (n k : ℕ) (w : UsnJournalReader) → window_refusal w n ≡ 0 → k ≤ wanted_of w → give_refusal n k w ≡ 0
unfolding give_refusal
not-too-many n k w e h = simp (e, le-ltb _ _ h)

module _ (s : List ℕ) where
  -- an answer a before the end, with the window v after it, where g of m calls went on
  record On (g m : ℕ) (v : UsnJournalReader) : Type 0 where
    sound : Sound v window_size
    over : Over s v
    live : v.ended ≡ false
    less : g + to_go s v ≤ m

  abbrev Goes : ℕ → ℕ → Answered → UsnJournalReader → Type 0
  Goes g m a v = (a ≡ (Ok End) → ⊥) → On g m v

  module _ (w : UsnJournalReader) (sd : Sound w window_size) (ov : Over s w) (live : w.ended ≡ false) where
    stay : On 0 (to_go s w) w
    stay = record { sound = sd; over = ov; live = live; less = omega arith }

    -- what a search leaves
    searched-on : (a : Answered) (v : UsnJournalReader) → Asks 0 a v → Less s (to_go s w) a v → Over s v → Goes 1 (to_go s w) a v
    searched-on (Ok (Record o n r)) v q l u h = record { sound = l.0; over = u; live = q.0; less = omega (arith, l.1) }
    searched-on (Ok (Wants f n)) v q l u h = record { sound = l.0; over = u; live = q.0; less = omega (arith, l.1) }
    searched-on (Ok End) v q l u h = absurd (h refl)
    searched-on (Err m) v q l u h = absurd q

    next-on : (o : Owed) → o.bytes ≡ missing w
        → Goes (cond (eqb o.bytes 0) 1 0) (to_go s w) (next_of (journal_reads s) window_size w).answer (next_of (journal_reads s) window_size w).reader
    next-on o e = by (eqb o.bytes 0) refl
      where
        r : Reads
        r = journal_reads s

        none : window_refusal w window_size ≡ 0
        none = sound-accepted w window_size sd

        by : (t : Bool) → eqb o.bytes 0 ≡ t → Goes (cond t 1 0) (to_go s w) (next_of (journal_reads s) window_size w).answer (next_of (journal_reads s) window_size w).reader
        by true z =
            let k : missing w ≡ 0 = sym e ∙ eqb-true _ _ z in
            rw (← (next-searches w window_size r none live (wants-rest w live) k refl))
            (searched-on (searched r w).answer (searched r w).reader (rw k at (search-asks r w live)) (search-less s w sd ov.total k) (search-comes s w ov live).over)
        by false z = rw (← (next-asks w window_size r none live (wants-rest w live) (λ y. eqb-false _ _ z (e ∙ y)) refl)) (λ _. stay)

    give-on : (k : ℕ) → Goes (cond (eqb k 0) 0 (count_if (give_of window_size k w).answer)) (to_go s w) (give_of window_size k w).answer (give_of window_size k w).reader
    unfolding give_of
    give-on k =
        let P : Reading → Type 0 = λ x. Goes (cond (eqb k 0) 0 (count_if x.answer)) (to_go s w) x.answer x.reader in
        cond_cases P (eqb (give_refusal window_size k w) 0)
        (λ a. cond_cases P (eqb k 0)
        (λ z. cond_cases P (eqb (wanted_of w) 0) (λ _ _. rw z stay) (λ _ h. absurd (h refl)))
        (λ z _. rw z (fed (give-accepted window_size k w (eqb-true _ _ a)).1 (eqb-false _ _ z))))
        (λ _ _. record { sound = sd; over = ov; live = live; less = none (eqb k 0) })
      where
        none : (t : Bool) → cond t 0 0 + to_go s w ≤ to_go s w
        none true = omega arith
        none false = omega arith

        fed : k ≤ wanted_of w → (k ≡ 0 → ⊥) → On 1 (to_go s w) (fed_by w k)
        fed h z =
            let m : k ≤ missing w = rw (wants-rest w live) h in
            record {
              sound = sound-fed w window_size sd k (room w.start w.held w.end k m sd.fits);
              over = record { total = ov.total; steady = ov.steady };
              live = live;
              less = next-of (fed-less s w k (some k z) m);
            }
          where
            room : (a h e k : ℕ) → k ≤ e - a - h → a + h ≤ e → a + (h + k) ≤ e
            room a h e k x y = omega arith

            some : (k : ℕ) → (k ≡ 0 → ⊥) → 0 < k
            some k z = omega arith

            next-of : {a b : ℕ} → a < b → 1 + a ≤ b
            next-of h = omega arith

    -- with another buffer
    other-next-on : (n : ℕ) → (n ≡ window_size → ⊥) → Goes 0 (to_go s w) (next_of (journal_reads s) n w).answer (next_of (journal_reads s) n w).reader
    unfolding next_of
    other-next-on n h = rw (ne_eqb (window_refusal w n) 0 (other w n h)) (λ _. stay)

    other-give-on : (n k : ℕ) → (n ≡ window_size → ⊥) → Goes 0 (to_go s w) (give_of n k w).answer (give_of n k w).reader
    unfolding give_of give_refusal
    other-give-on n k h = simp (ne_eqb (window_refusal w n) 0 (other w n h)) (λ _. stay)

  call-on : (c : Call) (o : Owed) (st : State) → Held s o st → Delivers s c o st
      → Goes (step_given c (reading_of c st).answer o) (to_go s st.window) (reading_of c st).answer (reading_of c st).reader
  unfolding journal_reading
  call-on next o st h d = rw (call-journal s next st h.filled tt).0 (next-on st.window h.sound h.over h.live o h.right.bytes)
  call-on (give x) o st h d =
      rw (call-journal s (give x) st h.filled (call-carries s (give x) o st (λ _. h.right) d)).0 (give-on st.window h.sound h.over h.live (length x))
  call-on (next_other b) o st h d = rw (call-journal s (next_other b) st h.filled d).0 (other-next-on st.window h.sound h.over h.live (length b) d)
  call-on (give_other b x) o st h d = rw (call-journal s (give_other b x) st h.filled d).0 (other-give-on st.window h.sound h.over h.live (length b) (length x) d)

  call-held : (c : Call) (o : Owed) (st : State) → Held s o st → Delivers s c o st → ((reading_of c st).answer ≡ (Ok End) → ⊥)
      → Held s (owed_after c (reading_of c st).answer o) (state_after c st) × (step_given c (reading_of c st).answer o + to_go s (reading_of c st).reader ≤ to_go s st.window)
  call-held c o st h d n =
      let g = call-on c o st h d n in
      let f = call-journal s c st h.filled (call-carries s c o st (λ _. h.right) d) in
      (record { filled = f.1; over = g.over; sound = g.sound; live = g.live; right = call-counts c o st (λ _. h.right) g.live }, g.less)

  abbrev Before : List Reading → Type 0
  Before xs = All (λ (x : Reading). x.answer ≡ (Ok End) → ⊥) xs

  run-held : (cs : List Call) (o : Owed) (st : State) → Held s o st → Along (Delivers s) cs o st → Before (readings cs st)
      → Held s (owed_reached cs o st) (reached cs st) × (goings cs o st ≤ to_go s st.window)
  run-held [] o st h d n = (h, omega arith)
  run-held (c ∷ cs) o st h d n =
      let g = call-held c o st h d.0 n.0 in
      let r = run-held cs (owed_after c (reading_of c st).answer o) (state_after c st) g.0 d.1 n.1 in
      (r.0, sum-most _ _ _ _ g.1 r.1)

  module _ (b : List ℕ) (cs : List Call) (small : length s ≤ stream_domain) (size : length b ≡ window_size) (d : Delivery s b cs)
      (n : Before (readings cs (fresh_over s b))) where
    -- a list of calls with no end in it has few calls that go on
    pub progress : goings cs nothing (fresh_over s b) < calls_for (length s)
    progress =
        let r = (run-held cs nothing (fresh_over s b) (fresh-held s b small size) d n).1 in
        omega (arith, fresh-most s (fresh (length s)) refl refl refl refl)

    abbrev st : State
    st = reached cs (fresh_over s b)

    here : Held s (owed_reached cs nothing (fresh_over s b)) st
    here = (run-held cs nothing (fresh_over s b) (fresh-held s b small size) d n).0

    fits : window_refusal st.window (length st.buffer) ≡ 0
    fits = rw here.filled.size (sound-accepted st.window window_size here.sound)

    -- the next asking is not refused, nor is a giving of no more than is owed
    pub asking-accepted : Accepted (reading_of next st).answer
    unfolding reading_of
    asking-accepted = next-accepted (buffer_reads st.buffer) (length st.buffer) st.window fits

    pub giving-accepted : (x : List ℕ) → length x ≤ (owed_reached cs nothing (fresh_over s b)).bytes → Accepted (reading_of (give x) st).answer
    unfolding reading_of
    giving-accepted x h =
        let k : length x ≤ wanted_of st.window = rw (sym (wants-rest st.window here.live), sym here.right.bytes) h in
        accepted-of (length st.buffer) (length x) st.window (not-too-many (length st.buffer) (length x) st.window fits k)
