-- A window that has all its bytes goes on: no call of it is refused, and a number falls with each answer before the end. Assumes nothing.
use Rattle.std.specs.Prelude.{Ok, Err}
use Prim.Native.Nat.{ℕ, zero, suc, ◌+◌, ◌-◌, ◌*◌, ◌%◌, ◌≤◌, ◌<◌}
use mathlib.Core.Path.{◌≡◌, refl, sym, ap, ◌∙◌}
use mathlib.Core.List.{List}
use mathlib.Core.Bool.{Bool, true, false, cond, ◌||◌}
use native.Mathlib.Omega.{arith}
use lib.ListN.{length}
use lib.Dec.{ltb, eqb}
use borrow.Author.Tests.{ltb-true, ltb-false, eqb-true, eqb-false, eq-eqb, ne_eqb, le-ltb}
use Rattle.base.specs.Outcome.{Outcome, refused, answered}
use Rattle.base.specs.Places.{round8}
use Rattle.base.proofs.ChoiceLaws.{cond_cases, cond-two, or_left, or_right}
use Rattle.usn_record.specs.Bytes.{le_at}
use Rattle.usn_record.specs.Record.{listed}
use Rattle.usn_record.specs.declared.UsnRecord.{UsnRecord}
use Rattle.window_numbers.specs.Numbers.{window_size, window_end}
use Rattle.usn_window.specs.Window.{numbers_in, window_refusal, refilled, skipped, moved_by, fed_by}
use Rattle.usn_window.specs.Rule.{journal_reads, or_end, given, turn_by_length, turn_of, onward, searched}
use Rattle.usn_window.specs.declared.UsnJournalReader.{UsnJournalReader}
use Rattle.usn_window.specs.Answers.{Answered}
use Rattle.usn_window.specs.declared.Answer.TheVariants.{Record, Wants, End}
use Rattle.usn_window.specs.declared.Reading.{Reading}
use Rattle.usn_window.specs.declared.turn.Turn.{Turn}
use Rattle.usn_window.specs.declared.turn.Turn.TheVariants.{Done, Again}
use Rattle.window_numbers.proofs.NumberLaws.{right_end, not-refused, end_of}
use Rattle.usn_window.proofs.WindowLaws.{Sound}
use Rattle.usn_window.proofs.SearchLaws.{Moved, TurnShape, turn-shape, closer, search-step}
use Rattle.usn_window.proofs.CountLaws.{missing}

-- the sum of a refill from p up to f, where the window ended at e, and a and b bytes may come again before and after it
falls : (p e f t a b m c d : ℕ) → e ≤ f → f ≤ t → p ≤ f → b + 2 * e < a + p + f → d ≤ c → f - p - 0 + 2 * (t - f) + b + d < m + 2 * (t - e) + a + c
falls p e f t a b m c d h i j k l = omega arith

-- a sound window is not refused, and its moves are sound
module _ (w : UsnJournalReader) (n : ℕ) (s : Sound w n) where
  pub sound-accepted : window_refusal w n ≡ 0
  sound-accepted = sym (not-refused (numbers_in w) n s.small s.buffer s.ends s.start8 s.position8 s.from s.upto s.fits)

  sound-moved : (k : ℕ) → k % 8 ≡ 0 → w.position + k ≤ round8 w.end → Sound (moved_by w k) n
  sound-moved k e h =
      record {
        buffer = s.buffer;
        small = s.small;
        ends = s.ends;
        start8 = s.start8;
        position8 = omega (arith, s.position8);
        from = omega (arith, s.from);
        upto = h;
        fits = s.fits;
      }

  pub sound-fed : (k : ℕ) → w.start + (w.held + k) ≤ w.end → Sound (fed_by w k) n
  sound-fed k h =
      record {
        buffer = s.buffer;
        small = s.small;
        ends = s.ends;
        start8 = s.start8;
        position8 = s.position8;
        from = s.from;
        upto = s.upto;
        fits = omega (arith, h);
      }

  module _ (g : w.end ≡ w.total → ⊥) where
    -- before the stream's end the window's end is one of 8 bytes, and inside
    whole-end : w.end % 8 ≡ 0
    whole-end = (end_of _ _ _ s.ends).whole g s.start8

    sound-refilled : Sound (refilled w) n
    sound-refilled =
        let k = whole-end in
        let i = (end_of _ _ _ s.ends).inside in
        record {
          buffer = s.buffer;
          small = s.small;
          ends = sym (right_end _ _ _ refl);
          start8 = s.position8;
          position8 = s.position8;
          from = omega arith;
          upto = omega (arith, s.upto);
          fits = omega (arith, s.upto);
        }

module _ (s : List ℕ) where
  -- where the step at p leads with the window's end e
  unfoldable pub after : ℕ → ℕ → ℕ
  after p e =
      let n = le_at 4 s p in
      cond (ltb e (p + 8)) p (cond (ltb n 8 || ltb window_size n) (p + 8) (cond (ltb e (p + n)) p (p + round8 n)))

  -- the bytes that may be delivered a second time: none once the window ends with the stream, and none before where this step leads
  unfoldable pub again : ℕ → ℕ → ℕ
  again p e = cond (eqb e (length s)) 0 (length s + 8 - after p e)

  again-last : (p e : ℕ) → e ≡ length s → again p e ≡ 0
  unfolding again
  again-last p e h = simp (eq-eqb _ _ h)

  again-before : (p e : ℕ) → (e ≡ length s → ⊥) → again p e ≡ length s + 8 - after p e
  unfolding again
  again-before p e h = simp (ne_eqb _ _ h)

  after-least : (p e : ℕ) → p ≤ after p e
  unfolding after
  after-least p e =
      let n = le_at 4 s p in
      let P : ℕ → Type 0 = λ q. p ≤ q in
      cond_cases P (ltb e (p + 8)) (λ _. omega arith) λ _.
      cond_cases P (ltb n 8 || ltb window_size n) (λ _. omega arith) λ _.
      cond_cases P (ltb e (p + n)) (λ _. omega arith) (λ _. omega arith)

  again-most : (p e : ℕ) → again p e ≤ length s + 8 - p
  unfolding again
  again-most p e = cond_cases (λ (k : ℕ). k ≤ length s + 8 - p) (eqb e (length s)) (λ _. omega arith) (λ _. omega (arith, after-least p e))

  -- it does not grow with a step inside the window
  again-on : (p e q : ℕ) → after p e ≡ q → again q e ≤ again p e
  again-on p e q h = by (eqb e (length s)) refl
    where
      by : (t : Bool) → eqb e (length s) ≡ t → again q e ≤ again p e
      by true f = omega (arith, again-last q e (eqb-true _ _ f))
      by false f = omega (arith, again-most q e, again-before p e (eqb-false _ _ f))

  -- a record that lies in the window is not delivered again
  after-fits : (p e : ℕ) → 8 ≤ le_at 4 s p → le_at 4 s p ≤ window_size → p + le_at 4 s p ≤ e → after p e ≡ p + round8 (le_at 4 s p)
  unfolding after
  after-fits p e a b d =
      let x : p + 8 ≤ e = omega arith in
      simp (le-ltb _ _ x, le-ltb _ _ a, le-ltb _ _ b, le-ltb _ _ d)

  again-fits : (p e : ℕ) → 8 ≤ le_at 4 s p → le_at 4 s p ≤ window_size → p + le_at 4 s p ≤ e → again p e ≤ length s + 8 - (p + round8 (le_at 4 s p))
  again-fits p e a b d = by (eqb e (length s)) refl
    where
      by : (t : Bool) → eqb e (length s) ≡ t → again p e ≤ length s + 8 - (p + round8 (le_at 4 s p))
      by true f = omega (arith, again-last p e (eqb-true _ _ f))
      by false f = omega (arith, again-before p e (eqb-false _ _ f), after-fits p e a b d)

  -- what falls: the bytes that are missing, those behind the window twice, those that may come again, and those behind the position
  abbrev pub to_go : UsnJournalReader → ℕ
  to_go w = missing w + 2 * (length s - w.end) + again w.position w.end + (length s + 8 - w.position)

  -- an answer that left the window v, where m calls were to go
  abbrev pub Less : ℕ → Answered → UsnJournalReader → Type 0
  Less m (Ok (Record o n r)) v = Sound v window_size × (to_go v < m) × (v.start ≤ o) × (o + n ≤ v.end)
  Less m (Ok (Wants f n)) v = Sound v window_size × (to_go v < m)
  Less m (Ok End) v = Unit {0}
  Less m (Err n) v = Unit {0}

  abbrev LessTurn : ℕ → Turn → Type 0
  LessTurn m (Done x) = Less m x.answer x.reader
  LessTurn m (Again v) = Sound v window_size × (to_go v ≤ m)

  module _ (w : UsnJournalReader) (sd : Sound w window_size) (tt' : w.total ≡ length s) (full : missing w ≡ 0) where
    abbrev p : ℕ
    p = w.position

    abbrev e : ℕ
    e = w.end

    abbrev Both : ℕ → Turn → Type 0
    Both q t = after p e ≡ q → LessTurn (to_go w) t

    both_end : (v : UsnJournalReader) → ((e ≡ w.total → ⊥) → Sound v window_size × (to_go v < to_go w)) → LessTurn (to_go w) (or_end w v)
    both_end v h = cond_cases (LessTurn (to_go w)) (eqb e w.total) (λ _. tt) (λ f. h (eqb-false _ _ f))

    -- fewer than 8 bytes are left in the window
    both-short : e < p + 8 → Both p (or_end w (refilled w))
    both-short h a = both_end (refilled w) (λ g. (sound-refilled w window_size sd g, less g))
      where
        less : (e ≡ w.total → ⊥) → to_go (refilled w) < to_go w
        less g =
            let k : e % 8 ≡ 0 = whole-end w window_size sd g in
            let i : e ≤ w.total = (end_of _ _ _ sd.ends).inside in
            let f = window_end p w.total in
            let q : e ≤ p = omega (arith, sd.position8) in
            let x : e < f = omega arith in
            let y : again p f ≤ again p e = omega (arith, again-most p f, again-before p e (λ x. g (x ∙ sym tt'))) in
            falls p e f (length s) (again p e) (again p f) (missing w) (length s + 8 - p) (length s + 8 - p) (omega arith) (omega arith)
            (omega (arith, (sound-refilled w window_size sd g).fits)) (omega arith) (omega arith)

    module _ (room : p + 8 ≤ e) where
      both-on : (k : ℕ) → 8 ≤ k → k % 8 ≡ 0 → p + k ≤ round8 e → Both (p + k) (Again (moved_by w k))
      both-on k a b d q = (sound-moved w window_size sd k b d, omega (arith, again-on p e (p + k) q))

      module _ (n : ℕ) (en : n ≡ le_at 4 s p) (low : 8 ≤ n) (high : n ≤ window_size) where
        both-past : e < p + n → Both p (or_end w (cond (ltb w.total (p + n)) (skipped (refilled w)) (refilled w)))
        both-past h a =
            cond_cases (λ (v : UsnJournalReader). LessTurn (to_go w) (or_end w v)) (ltb w.total (p + n))
            (λ t. both_end (skipped (refilled w)) (λ g. (sound-moved (refilled w) window_size (sound-refilled w window_size sd g) 8 refl (reach g), last (ltb-true _ _ t) g)))
            (λ t. both_end (refilled w) (λ g. (sound-refilled w window_size sd g, less (ltb-false _ _ t) g)))
          where
            reach : (e ≡ w.total → ⊥) → p + 8 ≤ round8 (window_end p w.total)
            reach g = let i : e ≤ w.total = (end_of _ _ _ sd.ends).inside in omega arith

            last : w.total < p + n → (e ≡ w.total → ⊥) → to_go (skipped (refilled w)) < to_go w
            last t g =
                let i : e ≤ w.total = (end_of _ _ _ sd.ends).inside in
                let f = window_end p w.total in
                let x : f ≡ length s = omega arith in
                let y : again p e ≡ length s + 8 - p = again-before p e (λ x. g (x ∙ sym tt')) ∙ ap (λ (q : ℕ). length s + 8 - q) a in
                let z : again (p + 8) f ≡ 0 = again-last (p + 8) f x in
                let u : f + 8 ≤ again p e + p = omega arith in
                falls p e f (length s) (again p e) (again (p + 8) f) (missing w) (length s + 8 - p) (length s + 8 - (p + 8)) (omega arith) (omega arith)
                (omega arith) (omega arith) (omega arith)

            less : p + n ≤ w.total → (e ≡ w.total → ⊥) → to_go (refilled w) < to_go w
            less t g =
                let i : e ≤ w.total = (end_of _ _ _ sd.ends).inside in
                let f = window_end p w.total in
                let x : p + n ≤ f = omega arith in
                let y : again p e ≡ length s + 8 - p = again-before p e (λ x. g (x ∙ sym tt')) ∙ ap (λ (q : ℕ). length s + 8 - q) a in
                let z : again p f ≤ length s + 8 - (p + round8 n) = rw (sym en) at (again-fits p f (omega arith) (omega arith) (omega arith)) in
                let u : again p f + n ≤ again p e = omega arith in
                falls p e f (length s) (again p e) (again p f) (missing w) (length s + 8 - p) (length s + 8 - p) (omega arith) (omega arith)
                (omega arith) (omega arith) (omega arith)

        both-given : p + n ≤ e → (x : Outcome UsnRecord) → Both (p + round8 n) (given w n x)
        both-given d (refused m) q = both-on (round8 n) (omega arith) (omega arith) (omega (arith, sd.position8)) q
        both-given d (answered r) q =
            let z = again-on p e (p + round8 n) q in
            let i : e ≤ w.total = (end_of _ _ _ sd.ends).inside in
            (sound-moved w window_size sd (round8 n) (omega arith) (omega (arith, sd.position8)), omega arith, sd.from, d)

    both-turn : Both (after p e) (turn_of (journal_reads s) w)
    unfolding after turn_of turn_by_length
    both-turn =
        let n = le_at 4 s p in
        cond-two Both (ltb e (p + 8)) (λ a. both-short (ltb-true e (p + 8) a)) λ a.
        let room : p + 8 ≤ e = ltb-false e (p + 8) a in
        cond-two Both (ltb n 8 || ltb window_size n) (λ _. both-on room 8 (omega arith) refl (omega arith)) λ b.
        let low : 8 ≤ n = ltb-false n 8 (or_left (ltb n 8) (ltb window_size n) b) in
        let high : n ≤ window_size = ltb-false window_size n (or_right (ltb n 8) (ltb window_size n) b) in
        cond-two Both (ltb e (p + n)) (λ d. both-past room n refl low high (ltb-true e (p + n) d)) λ d.
        both-given room n refl low high (ltb-false e (p + n) d) (listed s p)

    turn-less : LessTurn (to_go w) (turn_of (journal_reads s) w)
    turn-less = both-turn refl

  less-from : (a : Answered) (v : UsnJournalReader) (k m : ℕ) → k ≤ m → Less k a v → Less m a v
  less-from (Ok (Record o n r)) v k m h l = (l.0, omega arith, l.2, l.3)
  less-from (Ok (Wants f n)) v k m h l = (l.0, omega arith)
  less-from (Ok End) v k m h l = tt
  less-from (Err n) v k m h l = tt

  onward-less : (m : ℕ) (w : UsnJournalReader) (t : Turn) (f : UsnJournalReader → Reading) → TurnShape w t → LessTurn m t
      → ((v : UsnJournalReader) → Moved w v → Sound v window_size → Less (to_go v) (f v).answer (f v).reader)
      → Less m (onward (λ x. x) f t).answer (onward (λ x. x) f t).reader
  onward-less m w (Done x) f sh l ih = l
  onward-less m w (Again v) f sh l ih = less-from (f v).answer (f v).reader (to_go v) m l.1 (ih v sh l.0)

  same_total : {w v : UsnJournalReader} → Moved w v → (v.total ≡ w.total) × (missing v ≡ missing w)
  same_total m = rw m.is (refl, refl)

  search-go : (k : ℕ) (w : UsnJournalReader) → w.end - w.position < k → Sound w window_size → w.total ≡ length s → missing w ≡ 0
      → Less (to_go w) (searched (journal_reads s) w).answer (searched (journal_reads s) w).reader
  search-go zero w h sd t full = absurd (omega arith)
  search-go (suc k) w h sd t full =
      rw (search-step (journal_reads s) w)
      (onward-less (to_go w) w (turn_of (journal_reads s) w) (searched (journal_reads s)) (turn-shape (journal_reads s) w) (turn-less w sd t full)
      (λ v m sv. search-go k v (omega (arith, closer m)) sv ((same_total m).0 ∙ t) ((same_total m).1 ∙ full)))

  pub search-less : (w : UsnJournalReader) → Sound w window_size → w.total ≡ length s → missing w ≡ 0
      → Less (to_go w) (searched (journal_reads s) w).answer (searched (journal_reads s) w).reader
  search-less w sd t full = search-go (suc (w.end - w.position)) w (omega arith) sd t full

  -- a giving
  pub fed-less : (w : UsnJournalReader) (k : ℕ) → 0 < k → k ≤ missing w → to_go (fed_by w k) < to_go w
  fed-less w k a b = omega arith

  -- at first
  pub fresh-most : (w : UsnJournalReader) → w.position ≡ 0 → w.end ≡ 0 → w.start ≡ 0 → w.held ≡ 0 → to_go w < 4 * length s + 17
  fresh-most w a b d f = omega (arith, again-most w.position w.end)
