-- Every delivery of a journal, in pieces of any sizes, comes to the end within 4 calls for each byte and 17 more, askings in between not counted, with
-- no call refused, and gives exactly the journal's records, with their fields and the bytes of their names. By induction over the pieces: with
-- each that goes on a number falls (`ProgressLaws`), and what is owed is what the window misses (`CountLaws`). Assumes nothing.
use Rattle.std.specs.Prelude.{Ok, Err}
use Prim.Native.Nat.{ℕ, suc, ◌+◌, ◌-◌, ◌≤◌, ◌<◌, min}
use mathlib.Core.Path.{◌≡◌, refl, sym, ap, ◌∙◌}
use mathlib.Core.List.{List, [], ◌∷◌, ◌++◌}
use mathlib.Core.Bool.{Bool, true, false, cond, not, ◌||◌, ◌&&◌}
use native.Mathlib.Omega.{arith}
use lib.ListN.{length, get_or}
use lib.Dec.{eqb}
use borrow.Author.Tests.{eqb-true, eqb-false, eq-eqb, ne_eqb, lt-ltb}
use Rattle.base.specs.Places.{part, empty_place, place_from}
use Rattle.base.specs.Refusals.{above_domain}
use Rattle.base.specs.declared.Place.{Place}
use Rattle.base.proofs.ChoiceLaws.{cond_cases}
use Rattle.base.proofs.AgreeLaws.{part_length, part_same}
use Rattle.usn_record.specs.Record.{listed}
use Rattle.usn_record.specs.declared.UsnRecord.{UsnRecord}
use Rattle.usn_record.proofs.NameLaws.{listed-name}
use Rattle.window_numbers.specs.Numbers.{window_size, stream_domain, window_end, wrong_end, numbers_refusal}
use Rattle.usn_window.specs.Window.{window_refusal, wanted_of, fed_by, fresh}
use Rattle.usn_window.specs.Rule.{journal_reads, named_from, asking, searched}
use Rattle.usn_window.specs.Calls.{next_of}
use Rattle.usn_window.specs.Run.{Call, next, give, State, reading_of, buffer_of, state_after, place_of, coming, RecordGiven, GivesRecord, fresh_over}
use Rattle.usn_window.specs.Owed.{Owed, nothing, asked_by, owed_less, owed_after}
use Rattle.usn_window.specs.Delivery.{call_of, got_of, Result, ended, stopped, misled, result_of, deliver, pieces, own_of, records_at, journal_records, calls_for}
use Rattle.usn_window.specs.declared.UsnJournalReader.{UsnJournalReader}
use Rattle.usn_window.specs.Answers.{Answered, refused_by}
use Rattle.usn_window.specs.declared.Answer.TheVariants.{Record, Wants, End}
use Rattle.usn_window.specs.declared.Reading.{Reading}
use Rattle.window_numbers.proofs.NumberLaws.{end_of}
use Rattle.usn_window.proofs.WindowLaws.{Sound, wants-rest}
use Rattle.usn_window.proofs.CallLaws.{next-searches, next-asks, give-bytes}
use Rattle.usn_window.proofs.BufferLaws.{Filled}
use Rattle.usn_window.proofs.ComeLaws.{Over, search-comes}
use Rattle.usn_window.proofs.RunLaws.{Carries, journal_reading, call-journal}
use Rattle.usn_window.proofs.CountLaws.{missing, Asks, search-asks, Right, asked-right, call-counts}
use Rattle.usn_window.proofs.ProgressLaws.{sound-accepted, sound-fed, to_go, Less, search-less, fed-less, fresh-most}

-- a piece of what is owed is not empty, is no more than that, and fits behind the bytes that are held
piece-some : (m n : ℕ) → (m ≡ 0 → ⊥) → (n ≡ 0 → ⊥) → 0 < min m n
piece-some m n h k = omega arith

piece-most : (m n k : ℕ) → n ≡ k → min m n ≤ k
piece-most m n k e = omega arith

zero-less : (k : ℕ) → 0 < k → k ≡ 0 → ⊥
zero-less k h e = omega arith

piece-room : (m n a h e : ℕ) → n ≡ e - a - h → a + h ≤ e → a + (h + min m n) ≤ e
piece-room m n a h e b f = omega arith

-- the byte after k more
byte-after : (a h k f : ℕ) → f ≡ a + h → a + (h + k) ≡ f + k
byte-after a h k f e = omega arith

-- an answer that wants what is owed
wants-right : (f n : ℕ) (o : Owed) (x y : Result) → f ≡ o.from → n ≡ o.bytes → x ≡ y → cond (eqb f o.from && eqb n o.bytes) x misled ≡ y
wants-right f n o x y a b e = rw (eq-eqb f o.from a, eq-eqb n o.bytes b) e

-- a place counted twice
place_twice : (a b c : ℕ) (p : Place) → a + b ≡ c → place_from a (place_from b p) ≡ place_from c p
place_twice a b c p h = by (eqb p.length 0) refl
  where
    by : (t : Bool) → eqb p.length 0 ≡ t
        → place_from a (cond t empty_place (record { offset = b + p.offset; length = p.length })) ≡ cond t empty_place (record { offset = c + p.offset; length = p.length })
    by true e = refl
    by false e = rw e (let k : a + (b + p.offset) ≡ c + p.offset = omega arith in rw k)

module _ (s b : List ℕ) (v : UsnJournalReader) (f : Filled s b v) where
  -- a name's bytes in the buffer are the journal's
  name-same : (o : ℕ) (p : Place) → v.start ≤ o → o + (p.offset + p.length) ≤ v.start + v.held → v.start + v.held ≤ length s → v.held ≤ window_size
      → part b (place_from (o - v.start) p).offset (place_from (o - v.start) p).length ≡ part s (place_from o p).offset (place_from o p).length
  name-same o p h k l m = by (eqb p.length 0)
    where
      by : (t : Bool) → part b (cond t empty_place (record { offset = o - v.start + p.offset; length = p.length })).offset (cond t empty_place (record { offset = o - v.start + p.offset; length = p.length })).length
          ≡ part s (cond t empty_place (record { offset = o + p.offset; length = p.length })).offset (cond t empty_place (record { offset = o + p.offset; length = p.length })).length
      by true = refl
      by false =
          part_same b s (o - v.start + p.offset) (o + p.offset) p.length (omega (arith, f.size)) (omega arith)
          (λ i j. f.bytes (o - v.start + p.offset + i) (omega arith) ∙ ap (λ (x : ℕ). get_or s x 0) (same_byte i))
        where
          same_byte : (i : ℕ) → v.start + (o - v.start + p.offset + i) ≡ o + p.offset + i
          same_byte i = omega arith

  -- a record that is answered is the journal's
  got-own : (o n : ℕ) (r : UsnRecord) → Sound v window_size → missing v ≡ 0 → v.start ≤ o → o + n ≤ v.end → RecordGiven s o n r v
      → got_of o n r (record { window = v; buffer = b }) ∷ [] ≡ own_of s (record { offset = o; length = n }) (listed s o)
  unfolding named_from
  got-own o n r sd m h k t =
      rw (
        t.is,
        t.name-is,
        place_twice v.start (o - v.start) o t.fields.filename (omega arith),
        name-same o t.fields.filename h
            (omega (arith, sd.fits, t.size, listed-name s o (sym t.is))) (omega (arith, sd.fits, f.total, (end_of _ _ _ sd.ends).inside)) (omega (arith, sd.fits, (end_of _ _ _ sd.ends).near)),
      )

module _ (s : List ℕ) where
  -- a source that owes o, over a window that waits for it
  pub record Held (o : Owed) (st : State) : Type 0 where
    pub filled : Filled s st.buffer st.window
    pub over : Over s st.window
    pub sound : Sound st.window window_size
    pub live : st.window.ended ≡ false
    pub right : Right o st.window

  -- the first call, and the rest
  step : (m : ℕ) (ms : List ℕ) (o : Owed) (st : State) (c : Call) → call_of s m o ≡ c → (x : Result)
      → result_of (reading_of c st).answer (owed_after c (reading_of c st).answer o) (state_after c st) (deliver s ms (owed_after c (reading_of c st).answer o) (state_after c st)) ≡ x → deliver s (m ∷ ms) o st ≡ x
  unfolding deliver
  step m ms o st c e x h = rw e h

  module _ (ms : List ℕ) (ih : (o : Owed) (st : State) → Held o st → to_go s st.window < pieces ms → deliver s ms o st ≡ ended (records_at s (coming s st.window))) where
    -- an answer to next, and what the source does then
    answered-next : (k : ℕ) → k ≤ pieces ms → (l : List Place) (b : List ℕ) (a : Answered) (v : UsnJournalReader) → Asks 0 a v → Less s k a v → l ≡ place_of a ++ coming s v → Over s v
        → GivesRecord s a v → (a ≡ (Ok End) → l ≡ []) → Filled s b v
        → result_of a (asked_by a) (record { window = v; buffer = b }) (deliver s ms (asked_by a) (record { window = v; buffer = b })) ≡ ended (records_at s l)
    answered-next k h l b (Ok (Record o n r)) v q g w ov t e f =
        let g' = got-own s b v f o n r g.0 q.1 g.2 g.3 t in
        let i = ih nothing (record { window = v; buffer = b }) (record { filled = f; over = ov; sound = g.0; live = q.0; right = asked-right (Ok (Record o n r)) v q q.0 }) (omega arith) in
        rw (w, i, ← g')
    answered-next k h l b (Ok (Wants from bytes)) v q g w ov t e f =
        wants-right from bytes (asked_by (Ok (Wants from bytes))) _ _ refl refl
        (rw w
        (ih (asked_by (Ok (Wants from bytes))) (record { window = v; buffer = b }) (record { filled = f; over = ov; sound = g.0; live = q.0; right = asked-right (Ok (Wants from bytes)) v q q.0 })
        (omega arith)))
    answered-next k h l b (Ok End) v q g w ov t e f = rw (e refl)
    answered-next k h l b (Err n) v q g w ov t e f = absurd q

    module _ (m : ℕ) (o : Owed) (st : State) (h : Held o st) (most : to_go s st.window < suc (pieces ms)) where
      abbrev w : UsnJournalReader
      w = st.window

      -- it asks, and the window searches
      asked : missing w ≡ 0 → reading_of next st ≡ searched (journal_reads s) w
      unfolding journal_reading
      asked z =
          (call-journal s next st h.filled tt).0
          ∙ sym (next-searches w window_size (journal_reads s) (sound-accepted w window_size h.sound) h.live (wants-rest w h.live) z refl)

      next-step : o.bytes ≡ 0 → deliver s (m ∷ ms) o st ≡ ended (records_at s (coming s w))
      unfolding buffer_of
      next-step z =
          let k : missing w ≡ 0 = sym h.right.bytes ∙ z in
          let x : Reading = searched (journal_reads s) w in
          let e : reading_of next st ≡ x = asked k in
          let c = search-comes s w h.over h.live in
          let q : Asks 0 x.answer x.reader = rw k at (search-asks (journal_reads s) w h.live) in
          let f : Filled s st.buffer x.reader = rw e at (call-journal s next st h.filled tt).1 in
          step m ms o st next (rw z) (ended (records_at s (coming s w)))
          (rw (e, z)
          (answered-next (to_go s w) (omega arith) (coming s w) st.buffer x.answer x.reader q (search-less s w h.sound h.over.total k) c.whole c.over c.tells c.ends f))

      -- it asks again
      ask-step : (o.bytes ≡ 0 → ⊥) → m ≡ 0 → to_go s w < pieces ms → deliver s (m ∷ ms) o st ≡ ended (records_at s (coming s w))
      unfolding journal_reading buffer_of
      ask-step z e l =
          let r : reading_of next st ≡ asking w =
          (call-journal s next st h.filled tt).0
          ∙ sym (next-asks w window_size (journal_reads s) (sound-accepted w window_size h.sound) h.live (wants-rest w h.live) (λ y. z (h.right.bytes ∙ y)) refl) in
          step m ms o st next (rw (ne_eqb o.bytes 0 z, e)) (ended (records_at s (coming s w)))
          (rw (r, ne_eqb o.bytes 0 z)
          (wants-right (w.start + w.held) (wanted_of w) o _ _ (sym (h.right.from z)) (sym (wants-rest w h.live) ∙ sym h.right.bytes) (ih o st h l)))

      -- it gives
      module _ (z : o.bytes ≡ 0 → ⊥) (y : m ≡ 0 → ⊥) where
        abbrev k : ℕ
        k = min m o.bytes

        abbrev x : List ℕ
        x = part s o.from k

        some : 0 < k
        some = piece-some m o.bytes y z

        most-k : k ≤ missing w
        most-k = piece-most m o.bytes (missing w) h.right.bytes

        room : w.start + (w.held + k) ≤ w.end
        room = piece-room m o.bytes w.start w.held w.end h.right.bytes h.sound.fits

        long : length x ≡ k
        long = part_length s o.from k (omega (arith, room, h.right.from z, h.over.total, (end_of _ _ _ h.sound.ends).inside))

        not_none : k ≡ 0 → ⊥
        not_none = zero-less k some

        gave : reading_of (give x) st ≡ asking (fed_by w k)
        unfolding reading_of
        gave =
            let e : window_refusal w (length st.buffer) ≡ 0 = rw h.filled.size (sound-accepted w window_size h.sound) in
            sym (give-bytes st.buffer x w e (wants-rest w h.live) (rw long most-k) (λ u. not_none (sym long ∙ u)) refl refl refl).answer
            ∙ rw long

        first : w.start + (w.held + k) ≡ o.from + k
        first = byte-after w.start w.held k o.from (h.right.from z)

        carries : Carries s (give x) st
        carries e = rw long (rw (h.right.from z))

        give-step : deliver s (m ∷ ms) o st ≡ ended (records_at s (coming s w))
        give-step =
            let f : Filled s (buffer_of (give x) st) (fed_by w k) = rw gave at (call-journal s (give x) st h.filled carries).1 in
            let r : Right (owed_less k o) (fed_by w k) = rw (gave, long) at (call-counts (give x) o st (λ _. h.right)) h.live in
            step m ms o st (give x) (rw (ne_eqb o.bytes 0 z, ne_eqb m 0 y)) (ended (records_at s (coming s w)))
            (rw (gave, long)
            (wants-right (w.start + (w.held + k)) (wanted_of (fed_by w k)) (owed_less k o) _ _ first (sym (wants-rest (fed_by w k) h.live) ∙ sym r.bytes)
            (ih (owed_less k o) (record { window = fed_by w k; buffer = buffer_of (give x) st })
            (record { filled = f; over = record { total = h.over.total; steady = h.over.steady }; sound = sound-fed w window_size h.sound k room; live = h.live; right = r })
            (omega (arith, fed-less s w k some most-k)))))

  few : (m : ℕ) (ms : List ℕ) → pieces (m ∷ ms) ≤ suc (pieces ms)
  few m ms = cond_cases (λ (k : ℕ). k ≤ suc (pieces ms)) (eqb m 0) (λ _. omega arith) (λ _. omega arith)

  run : (ms : List ℕ) (o : Owed) (st : State) → Held o st → to_go s st.window < pieces ms → deliver s ms o st ≡ ended (records_at s (coming s st.window))
  run [] o st h l = absurd (omega arith)
  run (m ∷ ms) o st h l = by (run ms) (eqb o.bytes 0) (eqb m 0) refl refl
    where
      by : ((p : Owed) (u : State) → Held p u → to_go s u.window < pieces ms → deliver s ms p u ≡ ended (records_at s (coming s u.window)))
          → (t u : Bool) → eqb o.bytes 0 ≡ t → eqb m 0 ≡ u → deliver s (m ∷ ms) o st ≡ ended (records_at s (coming s st.window))
      by ih true u e f = next-step ms ih m o st h (omega (arith, few m ms)) (eqb-true _ _ e)
      by ih false true e f = ask-step ms ih m o st h (omega (arith, few m ms)) (eqb-false _ _ e) (eqb-true _ _ f) (rw f at l)
      by ih false false e f = give-step ms ih m o st h (omega (arith, few m ms)) (eqb-false _ _ e) (eqb-false _ _ f)

  fresh-end : (n : ℕ) → wrong_end 0 0 n ≡ false
  unfolding wrong_end
  fresh-end n = by (eqb 0 (window_end 0 n))
    where
      by : (t : Bool) → not (t || true) ≡ false
      by true = refl
      by false = refl

  pub fresh-held : (b : List ℕ) → length s ≤ stream_domain → length b ≡ window_size → Held nothing (fresh_over s b)
  fresh-held b a e =
      record {
        filled = record { size = e; total = refl; bytes = λ i h. absurd (omega arith) };
        over = record { total = refl; steady = record { inside = omega arith; near = omega arith } };
        sound = record { buffer = refl; small = a; ends = fresh-end (length s); start8 = refl; position8 = refl; from = omega arith; upto = omega arith; fits = omega arith };
        live = refl;
        right = record { bytes = refl; from = λ h. absurd (h refl) };
      }

  pub delivered : (b ms : List ℕ) → length s ≤ stream_domain → length b ≡ window_size → calls_for (length s) ≤ pieces ms
      → deliver s ms nothing (fresh_over s b) ≡ ended (journal_records s)
  delivered b ms a e h = run ms nothing (fresh_over s b) (fresh-held b a e) (omega (arith, fresh-most s (fresh (length s)) refl refl refl refl))

-- a journal above the domain is refused at the first call
pub delivered-above : (s b : List ℕ) (m : ℕ) (ms : List ℕ) → stream_domain < length s → deliver s (m ∷ ms) nothing (fresh_over s b) ≡ stopped above_domain
unfolding reading_of next_of numbers_refusal refused_by deliver
delivered-above s b m ms h = simp (lt-ltb _ _ h)
