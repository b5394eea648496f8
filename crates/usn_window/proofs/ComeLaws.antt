-- What a search answers, followed by what is to come from the window that it leaves, is what was to come; and nothing is to come after an
-- end. Assumes nothing.
use Rattle.std.specs.Prelude.{Ok}
use Prim.Native.Nat.{ℕ, zero, suc, ◌+◌, ◌-◌, ◌<◌}
use mathlib.Core.Path.{◌≡◌, refl, sym, ap, ◌∙◌}
use mathlib.Core.List.{List, [], ◌++◌}
use mathlib.Core.Bool.{Bool, true, false, cond, true≢false, ◌||◌}
use native.Mathlib.Omega.{arith}
use lib.ListN.{length}
use lib.Dec.{ltb, eqb}
use Rattle.base.specs.Outcome.{Outcome, refused, answered}
use Rattle.base.specs.Places.{round8}
use Rattle.base.specs.declared.Place.{Place}
use Rattle.base.proofs.ChoiceLaws.{cond-two}
use Rattle.usn_record.specs.Bytes.{le_at}
use Rattle.usn_record.specs.Record.{listed}
use Rattle.usn_record.specs.declared.UsnRecord.{UsnRecord}
use Rattle.window_numbers.specs.Numbers.{window_size, window_end}
use Rattle.usn_window.specs.Window.{refilled, skipped}
use Rattle.usn_window.specs.Rule.{journal_reads, or_end, past_end, given, turn_by_length, turn_of, onward, searched}
use Rattle.usn_window.specs.Journal.{WindowStep, onto, found, refill_to, step_at, after_step, to_come}
use Rattle.usn_window.specs.Run.{place_of, coming, GivesRecord}
use Rattle.usn_window.specs.declared.UsnJournalReader.{UsnJournalReader}
use Rattle.usn_window.specs.Answers.{Answered}
use Rattle.usn_window.specs.declared.Answer.TheVariants.{Record, Wants, End}
use Rattle.usn_window.specs.declared.Reading.{Reading}
use Rattle.usn_window.specs.declared.turn.Turn.{Turn}
use Rattle.usn_window.specs.declared.turn.Turn.TheVariants.{Done, Again}
use Rattle.usn_window.proofs.JournalLaws.{Steady, GoesSteady, to-come, step-holds}
use Rattle.usn_window.proofs.SearchLaws.{Moved, TurnShape, turn-shape, closer, search-step}

-- a window over the journal s
pub record Over (s : List ℕ) (w : UsnJournalReader) : Type 0 where
  pub total : w.total ≡ length s
  pub steady : Steady s w.position w.end

-- the answer x of a window at which l was to come
pub record Comes (s : List ℕ) (l : List Place) (x : Reading) : Type 0 where
  pub whole : l ≡ place_of x.answer ++ coming s x.reader
  pub over : Over s x.reader
  pub tells : GivesRecord s x.answer x.reader
  pub ends : x.answer ≡ (Ok End) → l ≡ []
  pub quiet : x.reader.ended ≡ true → coming s x.reader ≡ []

abbrev ComesTurn : List ℕ → List Place → Turn → Type 0
ComesTurn s l (Done x) = Comes s l x
ComesTurn s l (Again v) = (l ≡ coming s v) × Over s v × (v.ended ≡ false)

module _ (s : List ℕ) (w : UsnJournalReader) (ov : Over s w) (live : w.ended ≡ false) where
  abbrev Both : WindowStep → Turn → Type 0
  Both x t = coming s w ≡ after_step x (to_come s) → GoesSteady s x → ComesTurn s (coming s w) t

  not_end : {f k : ℕ} → ◌≡◌ {A = Answered} (Ok (Wants f k)) (Ok End) → ⊥
  not_end e = let z : ◌≡◌ {A = ℕ} 0 1 = cc in omega arith

  awake : {t : Bool} → t ≡ w.ended → t ≡ true → ⊥
  awake e f = true≢false (sym f ∙ e ∙ live)

  both-refill : (v : UsnJournalReader) (q : ℕ) → v.total ≡ w.total → v.ended ≡ w.ended → v.position ≡ q → v.end ≡ window_end w.position (length s)
      → Both (refill_to (length s) w.position w.end q) (or_end w v)
  both-refill v q et ed ep ee =
      rw ov.total
      (cond-two Both (eqb w.end (length s))
      (λ _ h _. record { whole = refl; over = record { total = refl; steady = ov.steady }; tells = tt; ends = λ _. h; quiet = λ _. h })
      (λ _ h st. record {
        whole = h ∙ rw (ep, ee);
        over = record { total = et ∙ ov.total; steady = rw (ep, ee) st };
        tells = tt;
        ends = λ e. absurd (not_end e);
        quiet = λ f. absurd (awake ed f);
      }))

  both-given : (n : ℕ) → n ≡ le_at 4 s w.position → (x : Outcome UsnRecord) → listed s w.position ≡ x
      → Both (onto (found w.position n x) (w.position + round8 n) w.end) (given w n x)
  both-given n en (refused m) e h st = (h, record { total = ov.total; steady = st }, live)
  both-given n en (answered r) e h st =
      record {
        whole = h;
        over = record { total = ov.total; steady = st };
        tells = record { fields = r; is = e; name-is = refl; size = en };
        ends = λ f. absurd (not-record f);
        quiet = λ f. absurd (true≢false (sym f ∙ live));
      }
    where
      not-record : {o k : ℕ} {y : UsnRecord} → ◌≡◌ {A = Answered} (Ok (Record o k y)) (Ok End) → ⊥
      not-record f = let z : ◌≡◌ {A = ℕ} 0 1 = cc in omega arith

  both-turn : Both (step_at s w.position w.end) (turn_of (journal_reads s) w)
  unfolding step_at turn_of turn_by_length
  both-turn =
      let n = le_at 4 s w.position in
      cond-two Both (ltb w.end (w.position + 8)) (λ _. both-refill (refilled w) w.position refl refl refl (ap (window_end w.position) ov.total)) λ _.
      cond-two Both (ltb n 8 || ltb window_size n) (λ _ h st. (h, record { total = ov.total; steady = st }, live)) λ _.
      cond-two Both (ltb w.end (w.position + n)) (λ _. past n) λ _.
      both-given n refl (listed s w.position) refl
    where
      past : (n : ℕ) → Both (refill_to (length s) w.position w.end (cond (ltb (length s) (w.position + n)) (w.position + 8) w.position)) (past_end w n)
      past n =
          by (ltb w.total (w.position + n)) (ltb (length s) (w.position + n)) (ap (λ (k : ℕ). ltb k (w.position + n)) ov.total)
        where
          by : (a b : Bool) → a ≡ b → Both (refill_to (length s) w.position w.end (cond b (w.position + 8) w.position)) (or_end w (cond a (skipped (refilled w)) (refilled w)))
          by a b e = rw e (pick b)
            where
              pick : (b : Bool) → Both (refill_to (length s) w.position w.end (cond b (w.position + 8) w.position)) (or_end w (cond b (skipped (refilled w)) (refilled w)))
              pick true = both-refill (skipped (refilled w)) (w.position + 8) refl refl refl (ap (window_end w.position) ov.total)
              pick false = both-refill (refilled w) w.position refl refl refl (ap (window_end w.position) ov.total)

  turn-comes : ComesTurn s (coming s w) (turn_of (journal_reads s) w)
  turn-comes =
      both-turn (to-come s w.position w.end ov.steady) (step-holds s w.position w.end ov.steady)

-- the answer of a search
onward-comes : (s : List ℕ) (w : UsnJournalReader) (l : List Place) (t : Turn) (f : UsnJournalReader → Reading) → TurnShape w t → ComesTurn s l t
    → ((v : UsnJournalReader) → Moved w v → Over s v → v.ended ≡ false → Comes s (coming s v) (f v)) → Comes s l (onward (λ x. x) f t)
onward-comes s w l (Done x) f sh c ih = c
onward-comes s w l (Again v) f sh c ih = let d = ih v sh c.1 c.2 in
    record { whole = c.0 ∙ d.whole; over = d.over; tells = d.tells; ends = λ e. c.0 ∙ d.ends e; quiet = d.quiet }

search-go : (s : List ℕ) (k : ℕ) (w : UsnJournalReader) → w.end - w.position < k → Over s w → w.ended ≡ false → Comes s (coming s w) (searched (journal_reads s) w)
search-go s zero w h ov live = absurd (omega arith)
search-go s (suc k) w h ov live =
    rw (search-step (journal_reads s) w)
    (onward-comes s w (coming s w) (turn_of (journal_reads s) w) (searched (journal_reads s)) (turn-shape (journal_reads s) w) (turn-comes s w ov live)
    (λ v m o. search-go s k v (omega (arith, closer m)) o))

pub search-comes : (s : List ℕ) (w : UsnJournalReader) → Over s w → w.ended ≡ false → Comes s (coming s w) (searched (journal_reads s) w)
search-comes s w ov live = search-go s (suc (w.end - w.position)) w (omega arith) ov live
