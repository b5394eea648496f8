-- The turns after one another: each that goes on moves the position inside the window, so a search is one turn and then the search from
-- where it went. Assumes nothing.
use Prim.Native.Nat.{ℕ, zero, suc, ◌+◌, ◌-◌, ◌%◌, ◌≤◌, ◌<◌}
use mathlib.Core.Path.{◌≡◌, refl, sym, ap, ◌∙◌}
use mathlib.Core.List.{List}
use mathlib.Core.Bool.{◌||◌}
use native.Mathlib.Omega.{arith}
use lib.Dec.{ltb, eqb}
use borrow.Author.Tests.{ltb-false}
use Rattle.base.specs.Outcome.{Outcome, refused, answered}
use Rattle.base.specs.Places.{round8}
use Rattle.base.proofs.ChoiceLaws.{cond_cases, or_left}
use Rattle.usn_record.specs.declared.UsnRecord.{UsnRecord}
use Rattle.window_numbers.specs.Numbers.{window_size}
use Rattle.usn_window.specs.Window.{refilled, moved_by, Ready}
use Rattle.usn_window.specs.Rule.{Reads, buffer_reads, or_end, given, turn_by_length, turn_of, onward, turns, searched, Passes}
use Rattle.usn_window.specs.declared.UsnJournalReader.{UsnJournalReader}
use Rattle.usn_window.specs.declared.Reading.{Reading}
use Rattle.usn_window.specs.declared.turn.Turn.{Turn}
use Rattle.usn_window.specs.declared.turn.Turn.TheVariants.{Done, Again}

-- a window that a turn moved on
pub record Moved (w v : UsnJournalReader) : Type 0 where
  pub by : ℕ
  pub is : v ≡ moved_by w by
  pub room : w.position + 8 ≤ w.end
  pub least : 8 ≤ by
  pub most : w.position + by ≤ w.end + 7
  pub eight : by % 8 ≡ 0

abbrev pub TurnShape : UsnJournalReader → Turn → Type 0
TurnShape w (Done x) = Unit {0}
TurnShape w (Again v) = Moved w v

or-end-shape : (w v : UsnJournalReader) → TurnShape w (or_end w v)
or-end-shape w v = cond_cases (TurnShape w) (eqb w.end w.total) (λ _. tt) (λ _. tt)

module _ (w : UsnJournalReader) (a : w.position + 8 ≤ w.end) where
  given-shape : (n : ℕ) (x : Outcome UsnRecord) → 8 ≤ n → w.position + n ≤ w.end → TurnShape w (given w n x)
  given-shape n (answered r) b d = tt
  given-shape n (refused m) b d = record { by = round8 n; is = refl; room = a; least = omega arith; most = omega arith; eight = omega arith }

  length-shape : (n : ℕ) (x : Outcome UsnRecord) → TurnShape w (turn_by_length w n x)
  unfolding turn_by_length
  length-shape n x =
      cond_cases (TurnShape w) (ltb n 8 || ltb window_size n)
      (λ _. record { by = 8; is = refl; room = a; least = omega arith; most = omega arith; eight = refl }) λ b.
      cond_cases (TurnShape w) (ltb w.end (w.position + n)) (λ _. or-end-shape w _) λ d.
      given-shape n x (ltb-false n 8 (or_left (ltb n 8) (ltb window_size n) b)) (ltb-false w.end (w.position + n) d)

pub turn-shape : (r : Reads) (w : UsnJournalReader) → TurnShape w (turn_of r w)
unfolding turn_of
turn-shape r w =
    cond_cases (TurnShape w) (ltb w.end (w.position + 8)) (λ _. or-end-shape w (refilled w)) λ a.
    length-shape w (ltb-false w.end (w.position + 8) a) (r.length_at w) (r.record_at w)

-- the window that a turn moved on is ready as well
pub ready_moved : {w v : UsnJournalReader} {n : ℕ} → Ready w n → Moved w v → Ready v n
ready_moved r m =
    rw m.is
    (record {
      buffer = r.buffer;
      small = r.small;
      inside = r.inside;
      starts = r.starts;
      near = r.near;
      from = omega (arith, r.from);
      upto = m.most;
      position8 = omega (arith, r.position8, m.eight);
      end8 = r.end8;
    })

onward-agree : (w : UsnJournalReader) (t : Turn) (f g : UsnJournalReader → Reading) → TurnShape w t → ((v : UsnJournalReader) → Moved w v → f v ≡ g v)
    → onward (λ x. x) f t ≡ onward (λ x. x) g t
onward-agree w (Done x) f g s h = refl
onward-agree w (Again v) f g s h = h v s

pub closer : {w v : UsnJournalReader} → Moved w v → v.end - v.position < w.end - w.position
closer m = rw m.is (omega (arith, m.room, m.least))

module _ (r : Reads) where
  -- more turns change nothing once there are enough
  turns-enough : (j k : ℕ) (w : UsnJournalReader) → w.end - w.position < j → w.end - w.position < k → turns r j w ≡ turns r k w
  unfolding turns
  turns-enough zero k w a b = absurd (omega arith)
  turns-enough (suc j) zero w a b = absurd (omega arith)
  turns-enough (suc j) (suc k) w a b =
      onward-agree w (turn_of r w) (turns r j) (turns r k) (turn-shape r w) (λ v m. turns-enough j k v (omega (arith, closer m)) (omega (arith, closer m)))

  -- one turn, and then the search from where it went
  pub search-step : (w : UsnJournalReader) → searched r w ≡ onward (λ x. x) (searched r) (turn_of r w)
  unfolding searched turns
  search-step w =
      onward-agree w (turn_of r w) (turns r (w.end - w.position)) (searched r) (turn-shape r w)
      (λ v m. turns-enough (w.end - w.position) (suc (v.end - v.position)) v (closer m) (omega arith))

  module _ (w : UsnJournalReader) {t : Turn} (e : t ≡ turn_of r w) where
    search-done : {x : Reading} → t ≡ Done x → x ≡ searched r w
    search-done f = sym (search-step w ∙ ap (onward (λ x. x) (searched r)) (sym e ∙ f))

    search-again : {v : UsnJournalReader} → t ≡ Again v → (searched r w ≡ searched r v) × Moved w v
    search-again f = (search-step w ∙ ap (onward (λ x. x) (searched r)) (sym e ∙ f), rw (sym e ∙ f) at (turn-shape r w))

-- A loop that searched from u and is at w, with a buffer of n bytes: the search from here is the whole.
pub record Searching (r : Reads) (n : ℕ) (u w : UsnJournalReader) : Type 0 where
  pub ready : Ready w n
  pub whole : searched r u ≡ searched r w

pub searching-start : (r : Reads) {n : ℕ} {u : UsnJournalReader} → Ready u n → Searching r n u u
searching-start r h = record { ready = h; whole = refl }

module _ {r : Reads} {n : ℕ} {u w : UsnJournalReader} (s : Searching r n u w) {t : Turn} (e : t ≡ turn_of r w) where
  pub searching-done : {x : Reading} → t ≡ Done x → x ≡ searched r u
  searching-done f = search-done r w e f ∙ sym s.whole

  pub searching-again : {v : UsnJournalReader} → t ≡ Again v → Searching r n u v
  searching-again f = let g = search-again r w e f in record { ready = ready_moved s.ready g.1; whole = s.whole ∙ g.0 }

  pub searching-less : {v : UsnJournalReader} → t ≡ Again v → v.end - v.position < w.end - w.position
  searching-less f = closer (search-again r w e f).1

-- a window past zero words
pub passed-ready : {b : List ℕ} {w v : UsnJournalReader} {n : ℕ} → Ready w n → Passes b w v → Ready v n
passed-ready {b} {w} r k =
    let m : w.position + k.by ≤ w.end + 7 = rw k.is at k.upto in
    rw k.is
    (record {
      buffer = r.buffer;
      small = r.small;
      inside = r.inside;
      starts = r.starts;
      near = r.near;
      from = omega (arith, r.from);
      upto = m;
      position8 = omega (arith, r.position8, k.whole);
      end8 = r.end8;
    })

pub searching-passed : {b : List ℕ} {n : ℕ} {u w v : UsnJournalReader} → Searching (buffer_reads b) n u w → Passes b w v → Searching (buffer_reads b) n u v
searching-passed s k = record { ready = passed-ready s.ready k; whole = s.whole ∙ sym k.same }

pub passed-less : {b : List ℕ} {w v : UsnJournalReader} {m : ℕ} → Passes b w v → w.end - w.position < m → v.end - v.position < m
passed-less k h = rw k.is (omega arith)
