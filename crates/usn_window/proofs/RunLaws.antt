-- A call of a window whose buffer holds the journal answers as over the journal itself, and leaves the buffer holding it. Assumes nothing.
use Prim.Native.Nat.{ℕ, ◌+◌}
use mathlib.Core.Path.{◌≡◌, refl}
use mathlib.Core.List.{List, [], ◌∷◌}
use lib.ListN.{length}
use borrow.Author.Tests.{ne_eqb}
use Rattle.base.specs.Places.{part}
use Rattle.window_numbers.specs.Numbers.{window_size}
use Rattle.usn_window.specs.Window.{numbers_in, window_refusal, wanted_of}
use Rattle.usn_window.specs.Rule.{Reads, buffer_reads, journal_reads}
use Rattle.usn_window.specs.Calls.{next_of, give_refusal, give_of}
use Rattle.usn_window.specs.Run.{Call, next, give, next_other, give_other, State, CallShape, asks, gives, shape_of, reading_of, buffer_of, state_after, readings, shapes}
use Rattle.usn_window.specs.declared.UsnJournalReader.{UsnJournalReader}
use Rattle.usn_window.specs.declared.Reading.{Reading}
use Rattle.window_numbers.proofs.NumberLaws.{sound-of}
use Rattle.usn_window.proofs.BufferLaws.{Filled, next-same}
use Rattle.usn_window.proofs.GiveLaws.{give-filled}

-- By the window's own count: an accepted giving carries the journal from where the window's last bytes ended, and no empty giving is accepted
-- while bytes are wanted. Of a source that keeps its own account both are laws (`CountLaws`).
abbrev pub Carries : List ℕ → Call → State → Type 0
Carries s next st = Unit {0}
Carries s (give x) st = give_refusal (length st.buffer) (length x) st.window ≡ 0 → x ≡ part s (st.window.start + st.window.held) (length x)
Carries s (next_other b) st = length b ≡ window_size → ⊥
Carries s (give_other b x) st = length b ≡ window_size → ⊥

abbrev pub AllCarry : List ℕ → List Call → State → Type 0
AllCarry s [] st = Unit {0}
AllCarry s (c ∷ cs) st = Carries s c st × AllCarry s cs (state_after c st)

abbrev pub Goes : Call → State → Type 0
Goes next st = Unit {0}
Goes (give x) st = give_refusal (length st.buffer) (length x) st.window ≡ 0 → length x ≡ 0 → wanted_of st.window ≡ 0
Goes (next_other b) st = Unit {0}
Goes (give_other b x) st = Unit {0}

abbrev pub AllGo : List Call → State → Type 0
AllGo [] st = Unit {0}
AllGo (c ∷ cs) st = Goes c st × AllGo cs (state_after c st)

-- a call with a buffer of another length is refused
pub other : (w : UsnJournalReader) (n : ℕ) → (n ≡ window_size → ⊥) → window_refusal w n ≡ 0 → ⊥
other w n h e = h (sound-of (numbers_in w) n e).buffer

other-next : (r q : Reads) (n : ℕ) (w : UsnJournalReader) → (n ≡ window_size → ⊥) → (next_of r n w ≡ next_of q n w) × ((next_of r n w).reader ≡ w)
unfolding next_of
other-next r q n w h = (simp (ne_eqb _ _ (other w n h)), simp (ne_eqb _ _ (other w n h)))

other-give : (n k : ℕ) (w : UsnJournalReader) → (n ≡ window_size → ⊥) → (give_of n k w).reader ≡ w
unfolding give_of give_refusal
other-give n k w h = simp (ne_eqb _ _ (other w n h))

-- the answer of a call, over the journal
unfoldable pub journal_reading : List ℕ → CallShape → UsnJournalReader → Reading
journal_reading s (asks n) w = next_of (journal_reads s) n w
journal_reading s (gives n k) w = give_of n k w

-- a call of a window whose buffer holds the journal answers as over the journal, and leaves the buffer holding it
pub call-journal : (s : List ℕ) (c : Call) (st : State) → Filled s st.buffer st.window → Carries s c st
    → (reading_of c st ≡ journal_reading s (shape_of c) st.window) × Filled s (buffer_of c st) (reading_of c st).reader
unfolding reading_of buffer_of journal_reading
call-journal s next st f k = let r = next-same s st.buffer st.window f in rw f.size (r.0, rw r.0 r.1)
call-journal s (give x) st f k = (rw f.size, give-filled s st.buffer st.window x f k)
call-journal s (next_other b) st f k = let r = other-next (buffer_reads b) (journal_reads s) (length b) st.window k in (r.0, rw r.1 f)
call-journal s (give_other b x) st f k = (refl, rw (other-give (length b) (length x) st.window k) f)

-- the answers of a list of calls, over the journal
abbrev pub journal_readings : List ℕ → List CallShape → UsnJournalReader → List Reading
journal_readings s [] w = []
journal_readings s (c ∷ cs) w = journal_reading s c w ∷ journal_readings s cs (journal_reading s c w).reader

pub run-journal : (s : List ℕ) (cs : List Call) (st : State) → Filled s st.buffer st.window → AllCarry s cs st
    → readings cs st ≡ journal_readings s (shapes cs) st.window
run-journal s [] st f k = refl
run-journal s (c ∷ cs) st f k =
    let r = call-journal s c st f k.0 in
    let ih = run-journal s cs (state_after c st) r.1 k.1 in
    rw (← r.0, ih)
