-- A window over a buffer that holds its bytes of the journal does what it does over the journal itself, and keeps holding them.
-- Assumes nothing.
use Prim.Native.Nat.{ℕ, zero, suc, ◌+◌, ◌-◌, ◌≤◌, ◌<◌}
use mathlib.Core.Path.{◌≡◌, refl, sym, ap, ◌∙◌}
use mathlib.Core.List.{List}
use mathlib.Core.Bool.{◌||◌}
use native.Mathlib.Nat.{add-zero}
use native.Mathlib.Omega.{arith}
use lib.ListN.{length, get_or}
use lib.Dec.{ltb, eqb}
use borrow.Author.Tests.{ltb-false, eqb-true}
use Rattle.base.specs.Outcome.{Outcome, refused, answered}
use Rattle.base.specs.Places.{part}
use Rattle.base.proofs.ChoiceLaws.{cond_cases, cond-two, or_left, or_right}
use Rattle.base.proofs.AgreeLaws.{part_same}
use Rattle.usn_record.specs.Bytes.{le_at}
use Rattle.usn_record.specs.declared.UsnRecord.{UsnRecord}
use Rattle.usn_record.proofs.ByteLaws.{read-part}
use Rattle.usn_record.proofs.ListedLaws.{listed-moved}
use Rattle.window_numbers.specs.Numbers.{window_size}
use Rattle.usn_window.specs.Window.{numbers_in, window_refusal, wanted_of, refilled, skipped, Ready}
use Rattle.usn_window.specs.Rule.{Reads, buffer_reads, journal_reads, or_end, given, turn_by_length, turn_of, onward, turns, searched}
use Rattle.usn_window.specs.Calls.{next_of}
use Rattle.usn_window.specs.declared.UsnJournalReader.{UsnJournalReader}
use Rattle.usn_window.specs.declared.Reading.{Reading}
use Rattle.usn_window.specs.declared.turn.Turn.{Turn}
use Rattle.usn_window.specs.declared.turn.Turn.TheVariants.{Done, Again}
use Rattle.window_numbers.proofs.NumberLaws.{sound-of}
use Rattle.usn_window.proofs.WindowLaws.{Sound, ready_of, wants-rest}
use Rattle.usn_window.proofs.SearchLaws.{Moved, TurnShape, turn-shape, ready_moved}

-- the buffer b holds what a window over the journal s says that it holds
pub record Filled (s b : List ℕ) (w : UsnJournalReader) : Type 0 where
  pub size : length b ≡ window_size
  pub total : w.total ≡ length s
  pub bytes : (i : ℕ) → i < w.held → get_or b i 0 ≡ get_or s (w.start + i) 0

-- the window has all its bytes
abbrev Full : UsnJournalReader → Type 0
Full w = w.start + w.held ≡ w.end

by-length-same : (w : UsnJournalReader) {n m : ℕ} {x y : Outcome UsnRecord} → n ≡ m
    → (8 ≤ m → m ≤ window_size → w.position + m ≤ w.end → x ≡ y) → turn_by_length w n x ≡ turn_by_length w m y
unfolding turn_by_length
by-length-same w {n} {m} {x} {y} e h =
    let R : Turn → Turn → Type 0 = λ p q. p ≡ q in
    rw e
    (cond-two R (ltb m 8 || ltb window_size m) (λ _. refl) λ a.
    cond-two R (ltb w.end (w.position + m)) (λ _. refl) λ b.
    ap (given w m) (h (ltb-false m 8 (or_left (ltb m 8) (ltb window_size m) a)) (ltb-false window_size m (or_right (ltb m 8) (ltb window_size m) a)) (ltb-false w.end (w.position + m) b)))

module _ (s b : List ℕ) where
  module _ (w : UsnJournalReader) (f : Filled s b w) (r : Ready w window_size) (full : Full w) where
    -- the bytes from the position on
    here : (n : ℕ) → w.position + n ≤ w.end → part b (w.position - w.start) n ≡ part s w.position n
    here n h =
        part_same b s (w.position - w.start) w.position n (omega (arith, f.size, r.near, r.from)) (omega (arith, f.total, r.inside))
        (λ i l. f.bytes (w.position - w.start + i) (omega (arith, r.from))
        ∙ ap (λ (k : ℕ). get_or s k 0) (shift i))
      where
        shift : (i : ℕ) → w.start + (w.position - w.start + i) ≡ w.position + i
        shift i = omega (arith, r.from)

    -- a read of v bytes that lies k behind the position, within 8
    read : (v k : ℕ) → k + v ≤ 8 → w.position + 8 ≤ w.end → le_at v b (w.position - w.start + k) ≡ le_at v s (w.position + k)
    read v k h a =
        sym (read-part b (w.position - w.start) 8 v k (omega (arith, f.size, r.near, r.from)) h)
        ∙ ap (λ (l : List ℕ). le_at v l k) (here 8 a)
        ∙ read-part s w.position 8 v k (omega (arith, f.total, r.inside)) h

    turn-same : turn_of (buffer_reads b) w ≡ turn_of (journal_reads s) w
    unfolding turn_of
    turn-same =
        cond-two (λ (p q : Turn). p ≡ q) (ltb w.end (w.position + 8)) (λ _. refl) λ a.
        let c : w.position + 8 ≤ w.end = ltb-false w.end (w.position + 8) a in
        let e : le_at 4 b (w.position - w.start) ≡ le_at 4 s w.position = simp add-zero at (read 4 0 (omega arith) c) in
        by-length-same w e
        (λ _ _ h. listed-moved b s (w.position - w.start) w.position (sym e) refl (read 2 4 (omega arith) c)
        (omega (arith, f.size, r.near, r.from)) (omega (arith, f.total, r.inside)) (omega (arith, f.size, r.near, r.from)) (omega (arith, f.total, r.inside))
        (here (le_at 4 s w.position) h))

  -- a window with the same bytes, and one with none yet
  keeps : {w v : UsnJournalReader} → Filled s b w → v.total ≡ w.total → v.start ≡ w.start → v.held ≡ w.held → Filled s b v
  keeps f t e h = record { size = f.size; total = t ∙ f.total; bytes = λ i l. rw e (f.bytes i (omega arith)) }

  empty : {w v : UsnJournalReader} → Filled s b w → v.total ≡ w.total → v.held ≡ 0 → Filled s b v
  empty f t h = record { size = f.size; total = t ∙ f.total; bytes = λ i l. absurd (omega arith) }

  abbrev FilledTurn : Turn → Type 0
  FilledTurn (Done x) = Filled s b x.reader
  FilledTurn (Again v) = Filled s b v

  or-end-filled : (w v : UsnJournalReader) → Filled s b w → Filled s b v → FilledTurn (or_end w v)
  or-end-filled w v f g = cond_cases FilledTurn (eqb w.end w.total) (λ _. keeps f refl refl refl) (λ _. g)

  given-filled : (w : UsnJournalReader) (n : ℕ) (x : Outcome UsnRecord) → Filled s b w → FilledTurn (given w n x)
  given-filled w n (refused m) f = keeps f refl refl refl
  given-filled w n (answered r) f = keeps f refl refl refl

  turn-filled : (r : Reads) (w : UsnJournalReader) → Filled s b w → FilledTurn (turn_of r w)
  unfolding turn_of turn_by_length
  turn-filled r w f =
      let n = r.length_at w in
      let again : Filled s b (refilled w) = empty f refl refl in
      let P : Turn → Type 0 = FilledTurn in
      cond_cases P (ltb w.end (w.position + 8)) (λ _. or-end-filled w (refilled w) f again) λ _.
      cond_cases P (ltb n 8 || ltb window_size n) (λ _. keeps f refl refl refl) λ _.
      cond_cases P (ltb w.end (w.position + n))
      (λ _. cond_cases (λ (v : UsnJournalReader). P (or_end w v)) (ltb w.total (w.position + n))
      (λ _. or-end-filled w (skipped (refilled w)) f (empty f refl refl)) (λ _. or-end-filled w (refilled w) f again)) λ _.
      given-filled w n (r.record_at w) f

  -- the answers of all turns, over the buffer and over the journal, and the window after them
  onward-filled : (t : Turn) (g h : UsnJournalReader → Reading) (w : UsnJournalReader) → TurnShape w t → FilledTurn t
      → ((v : UsnJournalReader) → Moved w v → Filled s b v → (g v ≡ h v) × Filled s b (h v).reader)
      → (onward (λ x. x) g t ≡ onward (λ x. x) h t) × Filled s b (onward (λ x. x) h t).reader
  onward-filled (Done x) g h w sh f ih = (refl, f)
  onward-filled (Again v) g h w sh f ih = ih v sh f

  full-moved : {w v : UsnJournalReader} → Moved w v → Full w → Full v
  full-moved m e = rw m.is e

  turns_same : (k : ℕ) (w : UsnJournalReader) → Filled s b w → Ready w window_size → Full w
      → (turns (buffer_reads b) k w ≡ turns (journal_reads s) k w) × Filled s b (turns (journal_reads s) k w).reader
  unfolding turns
  turns_same zero w f r full = (refl, f)
  turns_same (suc k) w f r full =
      rw (turn-same w f r full)
      (onward-filled (turn_of (journal_reads s) w) (turns (buffer_reads b) k) (turns (journal_reads s) k) w (turn-shape (journal_reads s) w) (turn-filled (journal_reads s) w f)
      (λ v m g. turns_same k v g (ready_moved r m) (full-moved m full)))

  abbrev Alike : Reading → Reading → Type 0
  Alike x y = (x ≡ y) × Filled s b y.reader

  -- next over the buffer is next over the journal
  pub next-same : (w : UsnJournalReader) → Filled s b w → Alike (next_of (buffer_reads b) window_size w) (next_of (journal_reads s) window_size w)
  unfolding next_of searched
  next-same w f =
      cond-two Alike (eqb (window_refusal w window_size) 0)
      (λ a. let sd : Sound w window_size = sound-of (numbers_in w) window_size (eqb-true _ _ a) in
      cond-two Alike w.ended (λ _. (refl, f)) λ e.
      cond-two Alike (eqb (wanted_of w) 0)
      (λ z. turns_same (suc (w.end - w.position)) w f (ready_of w sd) (full sd (wants-rest w e ∙ eqb-true _ _ z)))
      (λ _. (refl, f)))
      (λ _. (refl, f))
    where
      full : Sound w window_size → w.end - w.start - w.held ≡ 0 → Full w
      full sd z = omega (arith, sd.fits)
