-- What a step's record goes out as. Assumes nothing.
use Prim.Native.Nat.{ℕ}
use mathlib.Core.Path.{◌≡◌}
use mathlib.Core.List.{List, ◌∷◌, ◌++◌}
use Rattle.base.specs.Outcome.{Outcome, answered}
use Rattle.base.specs.Words.{RowOut, Answers}
use Rattle.base.proofs.WordLaws.{row_out}
use Rattle.rewind_records.specs.Turning.{Next, next}
use Rattle.rewind.specs.declared.Rewind.{Rewind}
use Rattle.rewind.specs.Words.{rewind_words}
use Rattle.volume_answers.specs.Rewind.{next_words}

-- the kind and the state, and what the record tells behind them
pub step-out : {A : Type 0} (words : A → List ℕ) (w : Rewind) {x : Outcome (Next A)} {a : A} → x ≡ answered (next a) → {front rest : List ℕ} → front ≡ 1 ∷ rewind_words w
    → rest ≡ words a → {l m : List ℕ} {r : ℕ} → RowOut (front ++ rest) l r m → Answers (next_words words w) x l r m
step-out words w e f g o = row_out (next_words words w) e (rw (f, g)) o
