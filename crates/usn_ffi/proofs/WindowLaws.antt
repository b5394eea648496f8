-- The window's calls by their tests. Assumes nothing.
use Prim.Native.Nat.{ℕ, ◌≤◌, ◌<◌}
use mathlib.Core.Path.{◌≡◌, refl, sym, ap, ◌∙◌}
use mathlib.Core.List.{List}
use mathlib.Core.Bool.{Bool, true, false, cond}
use native.Mathlib.Omega.{arith}
use lib.ListN.{length}
use lib.Dec.{ltb, eqb}
use Rattle.std.specs.Prelude.{Ok, Err}
use Rattle.base.specs.Outcome.{Outcome, refused, answered}
use Rattle.base.specs.Refusals.{list_full}
use Rattle.base.specs.Words.{short_by, unless_refused, Answers}
use Rattle.base.proofs.WordLaws.{refused-out, out-same, room-few, room-enough, Domain, domain-short, domain-enough}
use Rattle.window_numbers.specs.Numbers.{stream_domain}
use Rattle.usn_window.specs.Window.{fresh, wanted_of, finished, fed_by}
use Rattle.usn_window.specs.Rule.{buffer_reads, reading, asking}
use Rattle.usn_window.specs.Promise as window
use Rattle.usn_window.specs.Answers.{refused_by}
use Rattle.usn_window.specs.Calls.{next_of, give_of, give_refusal, buffer_after}
use Rattle.usn_window.specs.declared.UsnJournalReader.{UsnJournalReader}
use Rattle.usn_window.specs.declared.Answer.TheVariants.{End}
use Rattle.usn_window.specs.declared.Reading.{Reading}
use Rattle.usn_answers.specs.Window.{reader_words, reader_of, reading_words, reading_outcome}
use Rattle.usn_answers.proofs.WindowLaws.{ReadingOut, out-refused}
use Rattle.usn_ffi.proofs.DomainLaws.{next-domain, give-domain}
use Rattle.usn_ffi.specs.Promise.{Gives}
use Rattle.usn_ffi.specs.Window.{on_window, new_call, next_call, give_call}

-- a new window
module _ (total : ℕ) (l : List ℕ) where
  pub new-short : length l < 6 → Answers reader_words (new_call total l) l 5 l
  new-short h = refused-out reader_words (room-few _ h)

  pub new-answers : 6 ≤ length l → {w : UsnJournalReader} {l' : List ℕ} {r : ℕ} → w ≡ fresh total → Answers reader_words (answered w) l r l' → Answers reader_words (new_call total l) l r l'
  new-answers h e o = out-same o (ap answered e ∙ sym (room-enough _ h))

-- a call on a window: too few words of a window are refused first, and too few for the answer behind the test of the total
module _ (l o : List ℕ) (x : Reading) where
  pub short-reader : length l < 6 → on_window l o x ≡ refused list_full
  unfolding on_window
  short-reader h = room-few _ h

  module _ (h : 6 ≤ length l) where
    short-out : {above : Bool} → Domain above (reading_outcome x) → length o < 22 → {r : ℕ} → r ≡ short_by above → on_window l o x ≡ refused r
    unfolding on_window
    short-out d k e = room-enough _ h ∙ domain-short _ d k e

    window-answers : 22 ≤ length o → on_window l o x ≡ reading_outcome x
    unfolding on_window
    window-answers k = room-enough _ h ∙ domain-enough _ k

-- the next answer x is that of the window w that is read from l
module _ (l b o : List ℕ) (h : 6 ≤ length l) {w : UsnJournalReader} (e : w ≡ reader_of l) where
  pub next-short : length o < 22 → {r : ℕ} → r ≡ short_by (ltb stream_domain w.total) → ReadingOut (next_call l b o) l o r l o
  next-short k f = out-refused (short-out l o _ h (next-domain (reader_of l) (length b) (buffer_reads b)) k (rw e at f))

  pub next-answers : 22 ≤ length o → {x : Reading} → x ≡ next_of (buffer_reads b) (length b) w → {l' o' : List ℕ} {r : ℕ} → ReadingOut (reading_outcome x) l o r l' o'
      → ReadingOut (next_call l b o) l o r l' o'
  next-answers k f t = rw (window-answers l o _ h k) (rw (f, e) at t)

-- A giving that is refused leaves the buffer: a reading v that is no refusal, or one, by the test that decides on both.
kept : (t : Bool) (v : Reading) (n : ℕ) (w : UsnJournalReader) (b b' : List ℕ) → reading_outcome v ≡ answered v
    → cond t b' b ≡ unless_refused (reading_outcome (cond t v (reading (Err (refused_by n)) w))) b (cond t b' b)
kept true v n w b b' e = rw e
kept false v n w b b' e = refl

accepted : (t u : Bool) (v w : UsnJournalReader)
    → let x = cond t (cond u (asking v) (reading (Ok End) (finished v))) (asking w) in reading_outcome x ≡ answered x
accepted true true v w = refl
accepted true false v w = refl
accepted false u v w = refl

buffer-kept : (b x : List ℕ) (w : UsnJournalReader) → buffer_after b x w ≡ unless_refused (reading_outcome (give_of (length b) (length x) w)) b (buffer_after b x w)
unfolding give_of buffer_after
buffer-kept b x w = kept (eqb (give_refusal (length b) (length x) w) 0) _ _ _ b _ (accepted (eqb (length x) 0) (eqb (wanted_of w) 0) w (fed_by w (length x)))

module _ (l b bytes o : List ℕ) where
  pub give-refused : {n : ℕ} → give_call l b bytes o ≡ refused n → Gives l b bytes o n l b o
  give-refused e = record { reading = out-refused e; filled = ap (λ (y : Outcome Reading). unless_refused y b (buffer_after b bytes (reader_of l))) (sym e) }

  module _ (h : 6 ≤ length l) {w : UsnJournalReader} (e : w ≡ reader_of l) where
    pub give-short : length o < 22 → {r : ℕ} → r ≡ short_by (ltb stream_domain w.total) → Gives l b bytes o r l b o
    give-short k f = give-refused (short-out l o _ h (give-domain (reader_of l) (length b) (length bytes)) k (rw e at f))

    pub give-answers : 22 ≤ length o → {x : Reading} {b' : List ℕ} → window.Gives w b bytes x b' → {l' o' : List ℕ} {r : ℕ} → ReadingOut (reading_outcome x) l o r l' o'
        → Gives l b bytes o r l' b' o'
    give-answers k g t =
        let q = window-answers l o (give_of (length b) (length bytes) (reader_of l)) h k in
        record { reading = rw q (rw (g.answer, e) at t); filled = rw q ((rw e at g.filled) ∙ buffer-kept b bytes (reader_of l)) }

-- giving never answers a record: its answer has three words, or none where it is refused
pub give-words : (n k : ℕ) (w : UsnJournalReader) → length (reading_words (give_of n k w)) ≤ 3
unfolding give_of
give-words n k w = cases (eqb (give_refusal n k w) 0) (eqb k 0) (eqb (wanted_of w) 0)
  where
    cases : (s t u : Bool)
        → length (reading_words (cond s (cond t (cond u (asking w) (reading (Ok End) (finished w))) (asking (fed_by w k))) (reading (Err (refused_by (give_refusal n k w))) w))) ≤ 3
    cases true true true = omega arith
    cases true true false = omega arith
    cases true false u = omega arith
    cases false t u = omega arith
