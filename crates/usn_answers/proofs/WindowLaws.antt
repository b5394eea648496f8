-- A window as words, and what a reading x goes out as. Assumes nothing.
use Prim.Native.Nat.{ℕ}
use mathlib.Core.Path.{◌≡◌, refl, ap}
use mathlib.Core.List.{List, [], ◌∷◌}
use mathlib.Core.Bool.{Bool, true, false, cond, not}
use lib.Dec.{eqb}
use mir.Val.{bool_byte}
use Rattle.base.specs.Outcome.{Outcome, refused}
use Rattle.base.specs.Lists.{overwrite}
use Rattle.base.specs.Words.{Lists}
use Rattle.base.proofs.WordLaws.{out_both, refused-out}
use Rattle.usn_window.specs.declared.UsnJournalReader.{UsnJournalReader}
use Rattle.usn_window.specs.declared.Reading.{Reading}
use Rattle.usn_answers.specs.Window.{reader_words, reader_of, window_words, reading_words}

-- the row that code makes of a window
pub reader-made : (w : UsnJournalReader) → (w.start ∷ w.position ∷ w.end ∷ w.held ∷ w.total ∷ bool_byte w.ended ∷ []) ≡ reader_words w
unfolding reader_words
reader-made w = ap (λ (n : ℕ). w.start ∷ w.position ∷ w.end ∷ w.held ∷ w.total ∷ n ∷ []) (flag w.ended)
  where
    flag : (b : Bool) → bool_byte b ≡ cond b 1 0
    flag true = refl
    flag false = refl

-- A reading x goes out: with the number r, the window's words l are l', and the answer's words o are o'
abbrev pub ReadingOut : Outcome Reading → List ℕ → List ℕ → ℕ → List ℕ → List ℕ → Type 0
ReadingOut = Lists window_words reading_words

pub out-refused : {x : Outcome Reading} {l o : List ℕ} {n : ℕ} → x ≡ refused n → ReadingOut x l o n l o
out-refused e = out_both (refused-out window_words e) (refused-out reading_words e)

-- the words that a call leaves are those of its window: the next call reads it back
pub reader-again : (w : UsnJournalReader) (l : List ℕ) → reader_of (overwrite l (reader_words w)) ≡ w
unfolding reader_words
reader-again w l =
    ap (λ (b : Bool). record { start = w.start; position = w.position; end = w.end; held = w.held; total = w.total; ended = b }) (flag w.ended)
  where
    flag : (b : Bool) → not (eqb (cond b 1 0) 0) ≡ b
    flag true = refl
    flag false = refl
