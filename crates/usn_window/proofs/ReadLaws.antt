-- What a search reads of the journal: 8 bytes at each position that it comes to, and the fixed part of the record that it gives.
-- Assumes nothing.
use Rattle.std.specs.Prelude.{Ok, Err}
use Prim.Native.Nat.{ℕ, zero, suc, ◌+◌, ◌-◌, ◌≤◌, ◌<◌}
use mathlib.Core.Path.{◌≡◌, refl, sym, ap, ◌∙◌}
use mathlib.Core.List.{List}
use mathlib.Core.Bool.{◌||◌}
use native.Mathlib.Omega.{arith}
use lib.Dec.{ltb, eqb}
use Rattle.base.specs.Outcome.{Outcome, refused, answered}
use Rattle.base.specs.Agree.{Agree}
use Rattle.base.proofs.ChoiceLaws.{cond_cases, cond-two}
use Rattle.base.proofs.AgreeLaws.{agree-in}
use Rattle.usn_record.specs.Bytes.{le_at}
use Rattle.usn_record.specs.Record.{listed}
use Rattle.usn_record.specs.Names.{fixed_of}
use Rattle.usn_record.specs.declared.UsnRecord.{UsnRecord}
use Rattle.usn_record.proofs.ByteLaws.{read-agree}
use Rattle.usn_record.proofs.NameLaws.{fixed-low}
use Rattle.usn_record.proofs.ListedLaws.{listed-reads, listed-fixed}
use Rattle.window_numbers.specs.Numbers.{window_size}
use Rattle.usn_window.specs.Window.{window_refusal, wanted_of, refilled, skipped}
use Rattle.usn_window.specs.Rule.{journal_reads, or_end, given, turn_by_length, turn_of, onward, searched}
use Rattle.usn_window.specs.Calls.{next_of, give_refusal, give_of}
use Rattle.usn_window.specs.declared.UsnJournalReader.{UsnJournalReader}
use Rattle.usn_window.specs.Answers.{Answered}
use Rattle.usn_window.specs.declared.Answer.TheVariants.{Record, Wants, End}
use Rattle.usn_window.specs.declared.Reading.{Reading}
use Rattle.usn_window.specs.declared.turn.Turn.{Turn}
use Rattle.usn_window.specs.declared.turn.Turn.TheVariants.{Done, Again}
use Rattle.usn_window.proofs.SearchLaws.{Moved, TurnShape, turn-shape, closer, search-step}

module _ (s : List ℕ) where
  -- an answer of a window that was at p: it went no way back, and a record lies between, with room for its fixed part
  abbrev pub Good : ℕ → Answered → ℕ → Type 0
  Good p (Ok (Record o n r)) q = (p ≤ o) × (o + n ≤ q) × (n ≡ le_at 4 s o) × (fixed_of (le_at 2 s (o + 4)) ≤ n)
  Good p (Ok (Wants f k)) q = p ≤ q
  Good p (Ok End) q = p ≤ q
  Good p (Err m) q = p ≤ q

  pub good-up : (a : Answered) (p q : ℕ) → Good p a q → p ≤ q
  good-up (Ok (Record o n r)) p q g = omega arith
  good-up (Ok (Wants f k)) p q g = g
  good-up (Ok End) p q g = g
  good-up (Err m) p q g = g

  good-from : (a : Answered) (p p' q : ℕ) → p ≤ p' → Good p' a q → Good p a q
  good-from (Ok (Record o n r)) p p' q h g = (omega arith, g.1, g.2, g.3)
  good-from (Ok (Wants f k)) p p' q h g = omega arith
  good-from (Ok End) p p' q h g = omega arith
  good-from (Err m) p p' q h g = omega arith

  -- up to where an answer may have read, where the window is then at q
  abbrev pub reach : Answered → ℕ → ℕ
  reach (Ok (Record o n r)) q = o + fixed_of (le_at 2 s (o + 4))
  reach (Ok (Wants f k)) q = q + 8
  reach (Ok End) q = q + 8
  reach (Err m) q = q + 8

  pub reach-least : (a : Answered) (p q : ℕ) → Good p a q → p + 8 ≤ reach a q
  reach-least (Ok (Record o n r)) p q g = omega (arith, fixed-low (le_at 2 s (o + 4)))
  reach-least (Ok (Wants f k)) p q g = omega arith
  reach-least (Ok End) p q g = omega arith
  reach-least (Err m) p q g = omega arith

  abbrev GoodTurn : ℕ → Turn → Type 0
  GoodTurn p (Done x) = Good p x.answer x.reader.position
  GoodTurn p (Again v) = p ≤ v.position

  or-end-good : (w v : UsnJournalReader) → w.position ≤ v.position → GoodTurn w.position (or_end w v)
  or-end-good w v h = cond_cases (GoodTurn w.position) (eqb w.end w.total) (λ _. omega arith) (λ _. h)

  given-good : (w : UsnJournalReader) (x : Outcome UsnRecord) → listed s w.position ≡ x → GoodTurn w.position (given w (le_at 4 s w.position) x)
  given-good w (refused m) e = omega arith
  given-good w (answered r) e = (omega arith, omega arith, refl, listed-fixed s w.position e)

  turn-good : (w : UsnJournalReader) → GoodTurn w.position (turn_of (journal_reads s) w)
  unfolding turn_of turn_by_length
  turn-good w =
      let n = le_at 4 s w.position in
      let G : Turn → Type 0 = GoodTurn w.position in
      cond_cases G (ltb w.end (w.position + 8)) (λ _. or-end-good w (refilled w) (omega arith)) λ _.
      cond_cases G (ltb n 8 || ltb window_size n) (λ _. omega arith) λ _.
      cond_cases G (ltb w.end (w.position + n))
      (λ _. cond_cases (λ (v : UsnJournalReader). G (or_end w v)) (ltb w.total (w.position + n)) (λ _. or-end-good w (skipped (refilled w)) (omega arith)) (λ _. or-end-good w (refilled w) (omega arith))) λ _.
      given-good w (listed s w.position) refl

  onward-good : (p : ℕ) (t : Turn) (f : UsnJournalReader → Reading) (w : UsnJournalReader) → TurnShape w t → GoodTurn p t
      → ((v : UsnJournalReader) → Moved w v → Good v.position (f v).answer (f v).reader.position) → GoodTurn p (Done (onward (λ x. x) f t))
  onward-good p (Done x) f w sh g ih = g
  onward-good p (Again v) f w sh g ih = good-from (f v).answer p v.position (f v).reader.position g (ih v sh)

  search-go : (k : ℕ) (w : UsnJournalReader) → w.end - w.position < k
      → Good w.position (searched (journal_reads s) w).answer (searched (journal_reads s) w).reader.position
  search-go zero w h = absurd (omega arith)
  search-go (suc k) w h =
      rw (search-step (journal_reads s) w)
      (onward-good w.position (turn_of (journal_reads s) w) (searched (journal_reads s)) w (turn-shape (journal_reads s) w) (turn-good w)
      (λ v m. search-go k v (omega (arith, closer m))))

  pub search-good : (w : UsnJournalReader) → Good w.position (searched (journal_reads s) w).answer (searched (journal_reads s) w).reader.position
  search-good w = search-go (suc (w.end - w.position)) w (omega arith)

-- what a turn reads
module _ (s t : List ℕ) where
  abbrev turn_reach : ℕ → Turn → ℕ
  turn_reach p (Done x) = reach s x.answer x.reader.position
  turn_reach p (Again v) = p + 8

  abbrev Reads-of : ℕ → Turn → Turn → Type 0
  Reads-of p x y = Agree s t p (turn_reach p x) → y ≡ x

  given-reads : (w : UsnJournalReader) (n : ℕ) (x : Outcome UsnRecord) → listed s w.position ≡ x → Reads-of w.position (given w n x) (given w n (listed t w.position))
  given-reads w n (refused m) e a = ap (given w n) (listed-reads w.position (rw e a) ∙ e)
  given-reads w n (answered r) e a = ap (given w n) (listed-reads w.position (rw e a) ∙ e)

  turn-least : (w : UsnJournalReader) (x : Turn) → GoodTurn s w.position x → w.position + 8 ≤ turn_reach w.position x
  turn-least w (Done x) g = reach-least s x.answer w.position x.reader.position g
  turn-least w (Again v) g = omega arith

  reads-by : (w : UsnJournalReader) → le_at 4 t w.position ≡ le_at 4 s w.position → Reads-of w.position (turn_of (journal_reads s) w) (turn_of (journal_reads t) w)
  unfolding turn_of turn_by_length
  reads-by w e =
      let n = le_at 4 s w.position in
      let R : Turn → Turn → Type 0 = Reads-of w.position in
      rw e
      (cond-two R (ltb w.end (w.position + 8)) (λ _ _. refl) λ _.
      cond-two R (ltb n 8 || ltb window_size n) (λ _ _. refl) λ _.
      cond-two R (ltb w.end (w.position + n)) (λ _ _. refl) λ _.
      given-reads w n (listed s w.position) refl)

  turn-reads : (w : UsnJournalReader) → Reads-of w.position (turn_of (journal_reads s) w) (turn_of (journal_reads t) w)
  turn-reads w a =
      let b : Agree s t w.position (w.position + 8) = agree-in w.position (w.position + 8) a (omega arith) (turn-least w (turn_of (journal_reads s) w) (turn-good s w)) in
      reads-by w (read-agree 4 w.position b (omega arith) (omega arith)) a

  -- what a search reads
  abbrev Search-reads : ℕ → Reading → Reading → Type 0
  Search-reads p x y = Agree s t p (reach s x.answer x.reader.position) → y ≡ x

  onward-reads : (w : UsnJournalReader) (x : Turn) (f g : UsnJournalReader → Reading) → TurnShape w x
      → ((v : UsnJournalReader) → Moved w v → Good s v.position (f v).answer (f v).reader.position)
      → ((v : UsnJournalReader) → Moved w v → Search-reads v.position (f v) (g v))
      → Agree s t w.position (reach s (onward (λ x. x) f x).answer (onward (λ x. x) f x).reader.position)
      → Agree s t w.position (turn_reach w.position x) × (onward (λ x. x) g x ≡ onward (λ x. x) f x)
  onward-reads w (Done y) f g sh gd ih a = (a, refl)
  onward-reads w (Again v) f g sh gd ih a =
      let up : w.position + 8 ≤ v.position = rw sh.is (omega (arith, sh.least)) in
      let least = reach-least s (f v).answer v.position (f v).reader.position (gd v sh) in
      (agree-in w.position (w.position + 8) a (omega arith) (omega arith), ih v sh (agree-in v.position (reach s (f v).answer (f v).reader.position) a (omega arith) (omega arith)))

  search-reads-go : (k : ℕ) (w : UsnJournalReader) → w.end - w.position < k → Search-reads w.position (searched (journal_reads s) w) (searched (journal_reads t) w)
  search-reads-go zero w h = λ a. absurd (omega arith)
  search-reads-go (suc k) w h = λ a.
      let r = onward-reads w (turn_of (journal_reads s) w) (searched (journal_reads s)) (searched (journal_reads t)) (turn-shape (journal_reads s) w) (λ v _. search-good s v)
      (λ v m. search-reads-go k v (omega (arith, closer m))) (rw (search-step (journal_reads s) w) at a) in
      search-step (journal_reads t) w ∙ rw (turn-reads w r.0) (r.1 ∙ sym (search-step (journal_reads s) w))

  pub next-reads : (n : ℕ) (w : UsnJournalReader) → Search-reads w.position (next_of (journal_reads s) n w) (next_of (journal_reads t) n w)
  unfolding next_of
  next-reads n w =
      let R : Reading → Reading → Type 0 = Search-reads w.position in
      cond-two R (eqb (window_refusal w n) 0)
      (λ _. cond-two R w.ended (λ _ _. refl) λ _.
      cond-two R (eqb (wanted_of w) 0) (λ _. search-reads-go (suc (w.end - w.position)) w (omega arith)) (λ _ _. refl))
      (λ _ _. refl)

pub next-good : (s : List ℕ) (n : ℕ) (w : UsnJournalReader) → Good s w.position (next_of (journal_reads s) n w).answer (next_of (journal_reads s) n w).reader.position
unfolding next_of
next-good s n w =
    let P : Reading → Type 0 = λ x. Good s w.position x.answer x.reader.position in
    cond_cases P (eqb (window_refusal w n) 0)
    (λ _. cond_cases P w.ended (λ _. omega arith) λ _. cond_cases P (eqb (wanted_of w) 0) (λ _. search-good s w) (λ _. omega arith))
    (λ _. omega arith)

pub give-good : (s : List ℕ) (n k : ℕ) (w : UsnJournalReader) → Good s w.position (give_of n k w).answer (give_of n k w).reader.position
unfolding give_of
give-good s n k w =
    let P : Reading → Type 0 = λ x. Good s w.position x.answer x.reader.position in
    cond_cases P (eqb (give_refusal n k w) 0)
    (λ _. cond_cases P (eqb k 0) (λ _. cond_cases P (eqb (wanted_of w) 0) (λ _. omega arith) (λ _. omega arith)) (λ _. omega arith))
    (λ _. omega arith)
