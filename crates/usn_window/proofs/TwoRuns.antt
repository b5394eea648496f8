-- Two runs of one list of calls, over journals that differ in the names of given records alone, past their fixed parts: every answer and
-- every window is the same. Assumes nothing.
use Rattle.std.specs.Prelude.{Ok, Err}
use Prim.Native.Nat.{ℕ, ◌+◌, ◌≤◌, ◌<◌}
use mathlib.Core.Path.{◌≡◌, refl, sym, ap, ◌∙◌}
use mathlib.Core.List.{List, [], ◌∷◌, ◌++◌}
use native.Mathlib.Omega.{arith}
use lib.ListN.{length}
use Rattle.base.specs.Lists.{All}
use Rattle.base.specs.Agree.{Agree}
use Rattle.base.specs.Masked.{Apart, Masked, places_of}
use Rattle.base.specs.declared.Place.{Place}
use Rattle.base.proofs.AgreeLaws.{agree-in}
use Rattle.base.proofs.WalkLaws.{all_append}
use Rattle.base.proofs.MaskedLaws.{Same, apart-append, places-append}
use Rattle.usn_record.specs.Bytes.{le_at}
use Rattle.usn_record.specs.Record.{listed}
use Rattle.usn_record.specs.Names.{fixed_of, name_at}
use Rattle.usn_record.proofs.NameLaws.{fixed-low, listed-agrees, name-after-fixed, name-before-end}
use Rattle.window_numbers.specs.Numbers.{window_size}
use Rattle.usn_window.specs.Run.{Call, CallShape, asks, gives, readings, place_of, given_by, fresh_over, shapes}
use Rattle.usn_window.specs.Owed.{Delivery}
use Rattle.usn_window.specs.declared.UsnJournalReader.{UsnJournalReader}
use Rattle.usn_window.specs.Answers.{Answered}
use Rattle.usn_window.specs.declared.Answer.TheVariants.{Record, Wants, End}
use Rattle.usn_window.specs.declared.Reading.{Reading}
use Rattle.usn_window.proofs.BufferLaws.{Filled}
use Rattle.usn_window.proofs.ReadLaws.{Good, good-up, reach, next-reads, next-good, give-good}
use Rattle.usn_window.proofs.RunLaws.{journal_reading, journal_readings, run-journal}
use Rattle.usn_window.proofs.CountLaws.{delivery-carries}

module _ (s t : List ℕ) where
  abbrev names : List Place → List Place
  names = places_of (λ (p : Place). name_at s p.offset)

  -- the name of an answer's record lies past what the answer read, and before the position that it left
  own-after : (a : Answered) (p q i : ℕ) → Good s p a q → i < reach s a q → Apart (names (place_of a)) i
  own-after (Ok (Record o n r)) p q i g h = apart-append (name_at s o) [] i (name-after-fixed s o i h) tt
  own-after (Ok (Wants f k)) p q i g h = tt
  own-after (Ok End) p q i g h = tt
  own-after (Err m) p q i g h = tt

  own-low : (a : Answered) (p q i : ℕ) → Good s p a q → i < p + 60 → Apart (names (place_of a)) i
  own-low (Ok (Record o n r)) p q i g h = apart-append (name_at s o) [] i (name-after-fixed s o i (omega (arith, fixed-low (le_at 2 s (o + 4))))) tt
  own-low (Ok (Wants f k)) p q i g h = tt
  own-low (Ok End) p q i g h = tt
  own-low (Err m) p q i g h = tt

  own-before : (a : Answered) (p q i : ℕ) → Good s p a q → q ≤ i → Apart (names (place_of a)) i
  own-before (Ok (Record o n r)) p q i g h = apart-append (name_at s o) [] i (name-before-end s o i (omega arith)) tt
  own-before (Ok (Wants f k)) p q i g h = tt
  own-before (Ok End) p q i g h = tt
  own-before (Err m) p q i g h = tt

  reach_near : (a : Answered) (p q i : ℕ) → Good s p a q → i < reach s a q → i < q + 60
  reach_near (Ok (Record o n r)) p q i g h = omega arith
  reach_near (Ok (Wants f k)) p q i g h = omega arith
  reach_near (Ok End) p q i g h = omega arith
  reach_near (Err m) p q i g h = omega arith

  -- the record of an answer is the same in both runs
  own_same : (a : Answered) (p q : ℕ) → Good s p a q → Agree s t p (reach s a q) → All (λ (x : Place). listed t x.offset ≡ listed s x.offset) (place_of a)
  own_same (Ok (Record o n r)) p q g a = (listed-agrees o (agree-in o (o + fixed_of (le_at 2 s (o + 4))) a g.0 (omega arith)), tt)
  own_same (Ok (Wants f k)) p q g a = tt
  own_same (Ok End) p q g a = tt
  own_same (Err m) p q g a = tt

  call-good : (c : CallShape) (w : UsnJournalReader) → Good s w.position (journal_reading s c w).answer (journal_reading s c w).reader.position
  unfolding journal_reading
  call-good (asks n) w = next-good s n w
  call-good (gives n k) w = give-good s n k w

  call-reads : (c : CallShape) (w : UsnJournalReader) → Agree s t w.position (reach s (journal_reading s c w).answer (journal_reading s c w).reader.position)
      → journal_reading t c w ≡ journal_reading s c w
  unfolding journal_reading
  call-reads (asks n) w a = next-reads s t n w a
  call-reads (gives n k) w a = refl

  -- a list of calls from position p on gives no name before p + 60
  run-low : (cs : List CallShape) (w : UsnJournalReader) (i : ℕ) → i < w.position + 60 → Apart (names (given_by (journal_readings s cs w))) i
  run-low [] w i h = tt
  run-low (c ∷ cs) w i h =
      let x : Reading = journal_reading s c w in
      let g = call-good c w in
      rw (places-append (λ (p : Place). name_at s p.offset) (place_of x.answer) (given_by (journal_readings s cs x.reader)))
      (apart-append (names (place_of x.answer)) (names (given_by (journal_readings s cs x.reader))) i (own-low x.answer w.position x.reader.position i g h)
      (run-low cs x.reader i (omega (arith, good-up s x.answer w.position x.reader.position g))))

  run-two : length t ≡ length s → (cs : List CallShape) (w : UsnJournalReader) → Same s t (names (given_by (journal_readings s cs w))) w.position
      → (journal_readings t cs w ≡ journal_readings s cs w) × All (λ (x : Place). listed t x.offset ≡ listed s x.offset) (given_by (journal_readings s cs w))
  run-two e [] w m = (refl, tt)
  run-two e (c ∷ cs) w m =
      let x : Reading = journal_reading s c w in
      let later : List Place = given_by (journal_readings s cs x.reader) in
      let g = call-good c w in
      let up = good-up s x.answer w.position x.reader.position g in
      let app : (i : ℕ) → Apart (names (place_of x.answer)) i → Apart (names later) i → Apart (names (place_of x.answer ++ later)) i =
      λ i h k. rw (places-append (λ (p : Place). name_at s p.offset) (place_of x.answer) later) (apart-append (names (place_of x.answer)) (names later) i h k) in
      let a : Agree s t w.position (reach s x.answer x.reader.position) =
      record {
        long = e;
        at = λ i l u. m i l (app i (own-after x.answer w.position x.reader.position i g u)
            (run-low cs x.reader i (reach_near x.answer w.position x.reader.position i g u)));
      } in
      let q : journal_reading t c w ≡ x = call-reads c w a in
      let r = run-two e cs x.reader (λ i l k. m i (omega arith) (app i (own-before x.answer w.position x.reader.position i g l) k)) in (
        rw q (ap (λ (ys : List Reading). x ∷ ys) r.0),
        all_append (λ (y : Place). listed t y.offset ≡ listed s y.offset) (place_of x.answer) later (own_same x.answer w.position x.reader.position g a) r.1,
      )

pub fresh-filled : (s b : List ℕ) → length b ≡ window_size → Filled s b (fresh_over s b).window
fresh-filled s b e = record { size = e; total = refl; bytes = λ i h. absurd (omega arith) }

-- both runs from a fresh window of the journal's length, each over a buffer of its own, with calls of one shape whose accepted givings carry
-- each run's journal
pub window-two-runs : (s t b c : List ℕ) → length b ≡ window_size → length c ≡ window_size → (cs ds : List Call) → shapes ds ≡ shapes cs
    → Delivery s b cs → Delivery t c ds
    → Masked s t (places_of (λ (p : Place). name_at s p.offset) (given_by (readings cs (fresh_over s b))))
    → (readings ds (fresh_over t c) ≡ readings cs (fresh_over s b)) × All (λ (p : Place). listed t p.offset ≡ listed s p.offset) (given_by (readings cs (fresh_over s b)))
window-two-runs s t b c eb ec cs ds sh ks kt m =
    let x : readings cs (fresh_over s b) ≡ journal_readings s (shapes cs) (fresh_over s b).window = run-journal s cs (fresh_over s b) (fresh-filled s b eb) (delivery-carries s b cs ks) in
    let y : readings ds (fresh_over t c) ≡ journal_readings t (shapes ds) (fresh_over t c).window = run-journal t ds (fresh_over t c) (fresh-filled t c ec) (delivery-carries t c ds kt) in
    let r = run-two s t m.long (shapes cs) (fresh_over s b).window (λ i _ k. m.same i (rw x k)) in
    (y ∙ rw (sh, m.long) (r.0 ∙ sym x), rw x r.1)
