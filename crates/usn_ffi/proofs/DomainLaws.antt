-- A call of the journal reader is refused for the domain where what it is to read is above it, and nowhere else. Assumes nothing.
use Prim.Native.Nat.{ℕ, zero, suc, ◌+◌, ◌/◌}
use mathlib.Core.Path.{refl}
use mathlib.Core.List.{List}
use mathlib.Core.Bool.{Bool, true, false, cond, ◌&&◌, ◌||◌}
use lib.ListN.{length}
use lib.Dec.{ltb, leb, eqb}
use Rattle.std.specs.Prelude.{Ok, Err}
use Rattle.base.specs.Outcome.{Outcome, refused, answered, refused_as}
use Rattle.base.specs.Refusals.{above_domain, bad_state, bad_buffer, too_many_bytes, domain}
use Rattle.base.proofs.ChoiceLaws.{cond_cases}
use Rattle.base.proofs.WordLaws.{Domain, domain-answered, domain-refused, domain-choice, domain-first}
use Rattle.base.specs.Places.{part}
use Rattle.usn_record.specs.Bytes.{le_at}
use Rattle.usn_record.specs.Layout.{Layout, v2, v3}
use Rattle.usn_record.specs.Record.{max_record, parsed, listed}
use Rattle.usn_record.specs.declared.UsnRecord.{UsnRecord}
use Rattle.usn_scan.specs.Scan.{scanned}
use Rattle.usn_scan.specs.Outcome.{scan}
use Rattle.usn_carver.specs.Settings.{Settings}
use Rattle.usn_carver.specs.Carve.{carved_places, carving}
use Rattle.window_numbers.specs.Numbers.{window_size, stream_domain, wrong_numbers, numbers_refusal}
use Rattle.usn_window.specs.Answers.{refused_by}
use Rattle.usn_window.specs.Calls.{next_of, give_of, give_refusal}
use Rattle.usn_window.specs.Window.{numbers_in, window_refusal, wanted_of, refilled, skipped, fed_by, finished}
use Rattle.usn_window.specs.Rule.{Reads, reading, asking, or_end, given, turn_by_length, turn_of, onward, turns, searched}
use Rattle.usn_window.specs.declared.UsnJournalReader.{UsnJournalReader}
use Rattle.usn_window.specs.declared.Answer.TheVariants.{End}
use Rattle.usn_window.specs.declared.Reading.{Reading}
use Rattle.usn_window.specs.declared.turn.Turn.{Turn}
use Rattle.usn_window.specs.declared.turn.Turn.TheVariants.{Done, Again}
use Rattle.usn_answers.specs.Window.{reading_outcome}

-- the parsers, the scan and carving test it first
pub parsed-domain : (l : Layout) (s : List ℕ) → Domain (ltb domain (length s)) (parsed l s)
unfolding parsed
parsed-domain l s =
    domain-first (ltb domain (length s))
    (domain-choice (ltb (length s) l.fixed) (domain-refused 2 refl)
    (domain-choice (ltb (le_at 4 s 0) l.fixed || ltb max_record (le_at 4 s 0)) (domain-refused 3 refl)
    (domain-choice (l.length_in_slice && ltb (length s) (le_at 4 s 0)) (domain-refused 4 refl) (domain-answered _))))

pub scan-domain : (s : List ℕ) (words : ℕ) → Domain (ltb domain (length s)) (scan s words)
unfolding scan
scan-domain s words =
    domain-first (ltb domain (length s)) (domain-choice (leb (length (scanned s)) (words / 2)) (domain-answered _) (domain-refused 5 refl))

pub carving-domain : (st : Settings) (s : List ℕ) (words : ℕ) → Domain (ltb domain (length s)) (carving st s words)
unfolding carving
carving-domain st s words =
    domain-first (ltb domain (length s)) (domain-choice (ltb (words / 2) (length (carved_places st s))) (domain-refused 5 refl) (domain-answered _))

-- at a listed offset every refusal is another one
pub listed-domain : (s : List ℕ) (o : ℕ) → Domain false (listed s o)
unfolding listed
listed-domain s o =
    let n = le_at 4 s o in
    let version = le_at 2 s (o + 4) in
    domain-choice (ltb (length s) (o + 8)) (domain-refused 12 refl)
    (domain-choice (ltb (length s) (o + n)) (domain-refused 12 refl)
    (domain-choice (eqb version 2) (as-listed (parsed v2 (part s o n)))
    (domain-choice (eqb version 3) (as-listed (parsed v3 (part s o n))) (domain-refused 12 refl))))
  where
    as-listed : (x : Outcome UsnRecord) → Domain false (refused_as 12 x)
    as-listed (refused n) = domain-refused 12 refl
    as-listed (answered r) = domain-answered r

-- a reading x of a window is refused for its total
abbrev Reads-on : Bool → Reading → Type 0
Reads-on above x = Domain above (reading_outcome x)

-- a search is not refused
abbrev Searches : Turn → Type 0
Searches (Done x) = Reads-on false x
Searches (Again w) = Unit {0}

search-given : (w : UsnJournalReader) (n : ℕ) (x : Outcome UsnRecord) → Searches (given w n x)
search-given w n (refused m) = tt
search-given w n (answered r) = domain-answered _

search-end : (w v : UsnJournalReader) → Searches (or_end w v)
search-end w v =
    cond_cases Searches (eqb w.end w.total) {x = Done (reading (Ok End) (finished w))} {y = Done (asking v)} (λ _. domain-answered _) (λ _. domain-answered _)

module _ (r : Reads) where
  search-turn : (w : UsnJournalReader) → Searches (turn_of r w)
  unfolding turn_of turn_by_length
  search-turn w =
      let n = r.length_at w in
      cond_cases Searches (ltb w.end (w.position + 8)) (λ _. search-end w (refilled w))
      (λ _. cond_cases Searches (ltb n 8 || ltb window_size n) {x = Again (skipped w)} (λ _. tt)
      (λ _. cond_cases Searches (ltb w.end (w.position + n)) (λ _. search-end w (cond (ltb w.total (w.position + n)) (skipped (refilled w)) (refilled w)))
      (λ _. search-given w n (r.record_at w))))

  search-on : (k : ℕ) (t : Turn) → Searches t → ((w : UsnJournalReader) → Reads-on false (turns r k w)) → Reads-on false (onward (λ x. x) (turns r k) t)
  search-on k (Done x) h ih = h
  search-on k (Again w) h ih = ih w

  search-turns : (k : ℕ) (w : UsnJournalReader) → Reads-on false (turns r k w)
  unfolding turns
  search-turns zero w = domain-answered _
  search-turns (suc k) w = search-on k (turn_of r w) (search-turn w) (search-turns k)

-- the numbers that a window may be refused with: 1 where its total is above the domain
module _ (w : UsnJournalReader) (n : ℕ) (P : Bool → ℕ → Type 0) where
  first : (above : Bool) {m : ℕ} → P true above_domain → P false m → P above (cond above above_domain m)
  first true a h = a
  first false a h = h

  refusals : P true above_domain → P false bad_buffer → P false bad_state → P false 0 → P (ltb stream_domain w.total) (window_refusal w n)
  unfolding numbers_refusal
  refusals a b c d =
      first (ltb stream_domain w.total) a
      (cond_cases (P false) (eqb n window_size) {y = bad_buffer} (λ _. cond_cases (P false) (wrong_numbers (numbers_in w)) {x = bad_state} {y = 0} (λ _. c) (λ _. d)) (λ _. b))

-- a call on a window tests them; of a giving of k bytes, by the number m that it tests
abbrev Gives-on : UsnJournalReader → ℕ → Bool → ℕ → Type 0
Gives-on w k above m =
    Reads-on above (cond (eqb m 0) (cond (eqb k 0) (cond (eqb (wanted_of w) 0) (asking w) (reading (Ok End) (finished w))) (asking (fed_by w k))) (reading (Err (refused_by m)) w))

module _ (w : UsnJournalReader) (n : ℕ) where
  pub next-domain : (r : Reads) → Domain (ltb stream_domain w.total) (reading_outcome (next_of r n w))
  unfolding next_of searched refused_by
  next-domain r =
      let x = cond w.ended (reading (Ok End) w) (cond (eqb (wanted_of w) 0) (searched r w) (asking w)) in
      refusals w n (λ above m. Reads-on above (cond (eqb m 0) x (reading (Err (refused_by m)) w))) (record { test = refl }) (domain-refused 11 refl) (domain-refused 9 refl)
      (cond_cases (Reads-on false) w.ended {x = reading (Ok End) w} (λ _. domain-answered _)
      (λ _. cond_cases (Reads-on false) (eqb (wanted_of w) 0) {x = searched r w} {y = asking w} (λ _. search-turns r _ w) (λ _. domain-answered _)))

  pub give-domain : (k : ℕ) → Domain (ltb stream_domain w.total) (reading_outcome (give_of n k w))
  unfolding give_of give_refusal refused_by
  give-domain k =
      refusals w n (λ above m. Gives-on w k above (cond (eqb m 0) (cond (ltb (wanted_of w) k) too_many_bytes 0) m)) (record { test = refl }) (domain-refused 11 refl) (domain-refused 9 refl)
      (cond_cases (Gives-on w k false) (ltb (wanted_of w) k) {x = too_many_bytes} {y = 0} (λ _. domain-refused 10 refl)
      (λ _. cond_cases (Reads-on false) (eqb k 0) {y = asking (fed_by w k)}
      (λ _. cond_cases (Reads-on false) (eqb (wanted_of w) 0) {x = asking w} {y = reading (Ok End) (finished w)} (λ _. domain-answered _) (λ _. domain-answered _)) (λ _. domain-answered _)))
