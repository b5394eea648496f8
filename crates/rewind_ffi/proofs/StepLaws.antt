-- What a start and a step have to show as C calls, and that they show it. Assumes nothing.
use Prim.Native.Nat.{ℕ, ◌≤◌, ◌<◌}
use mathlib.Core.Path.{◌≡◌, refl}
use mathlib.Core.List.{List}
use mathlib.Core.Bool.{Bool}
use lib.ListN.{length}
use Rattle.base.specs.Lists.{list_after}
use Rattle.base.specs.Outcome.{Outcome, refused, answered, map_outcome}
use Rattle.base.specs.Words.{short_by, after_domain, Answers}
use Rattle.base.proofs.WordLaws.{Domain, domain-short, domain-enough}
use Rattle.rewind.specs.Starting.{Tables, first_after, forward_after}
use Rattle.rewind_records.specs.Turning.{Next, ended, next, map_next}
use Rattle.rewind_steps.specs.Taking.{Step}
use Rattle.rewind.specs.Stepping.{rewind_after, words_after, chain_after}
use Rattle.rewind.specs.declared.Rewind.{Rewind}
use Rattle.volume_answers.specs.Rewind.{next_words}
use Rattle.rewind_ffi.specs.Promise.{Starts, Steps, StepsWithText}
use Rattle.rewind_ffi.specs.Rewind.{start_words, step_words}

-- x is the outcome where the list takes the words
module _ (x : Outcome Tables) (s f l : List ℕ) where
  pub starts-short : {above : Bool} → Domain above x → length l < 2 → {r : ℕ} → r ≡ short_by above → Starts (after_domain 2 (length l) x) s f l r s f l
  starts-short d h g = let e = domain-short x d h g in rw e (record { answer = refl; first = refl; second = refl; row = refl })

  pub starts-answered : 2 ≤ length l → {t g m : List ℕ} {r : ℕ} → t ≡ first_after x s → g ≡ forward_after x f → Answers start_words x l r m
      → Starts (after_domain 2 (length l) x) s f l r t g m
  starts-answered h e i o = rw (domain-enough x h) (record { answer = o.answer; first = e; second = i; row = o.row })

-- a step's answer y and its state v are what the outcome x says
pub step-out : {A : Type 0} {words : A → List ℕ} {made : Step → A} (w : Rewind) (x : Outcome (Next Step)) {y : Outcome (Next A)} {v : Rewind}
    → y ≡ map_outcome (map_next made) x → v ≡ rewind_after x w → {l m : List ℕ} {r : ℕ} → Answers (next_words words v) y l r m
    → Answers (step_words (λ s. words (made s)) w) x l r m
step-out w (refused n) e f o = let p = rw (e, f) at o in record { answer = p.answer; row = p.row }
step-out w (answered ended) e f o = let p = rw (e, f) at o in record { answer = p.answer; row = p.row }
step-out w (answered (next s)) e f o = let p = rw (e, f) at o in record { answer = p.answer; row = p.row }

-- x is the outcome where the list takes the n words
module _ (words : Next Step → List ℕ) (n : ℕ) (x : Outcome (Next Step)) (s c l : List ℕ) where
  pub steps-short : {above : Bool} → Domain above x → length l < n → {r : ℕ} → r ≡ short_by above → Steps words (after_domain n (length l) x) s c l r s c l
  steps-short d h g = let e = domain-short x d h g in rw e (record { answer = refl; table = refl; places = refl; row = refl })

  pub steps-answered : n ≤ length l → {t d m : List ℕ} {r : ℕ} → t ≡ words_after x s → d ≡ chain_after x c → Answers words x l r m
      → Steps words (after_domain n (length l) x) s c l r t d m
  steps-answered h e f o = rw (domain-enough x h) (record { answer = o.answer; table = e; places = f; row = o.row })

module _ (text words : Next Step → List ℕ) (n : ℕ) (x : Outcome (Next Step)) (s c a l : List ℕ) where
  pub steps-told-short : {above : Bool} → Domain above x → length l < n → {r : ℕ} → r ≡ short_by above → StepsWithText text words (after_domain n (length l) x) s c a l r s c a l
  steps-told-short d h g = let e = domain-short x d h g in rw e (record { answer = refl; table = refl; places = refl; written = refl; row = refl })

  pub steps-told-answered : n ≤ length l → {t d b m : List ℕ} {r : ℕ} → t ≡ words_after x s → d ≡ chain_after x c → b ≡ list_after text x a → Answers words x l r m
      → StepsWithText text words (after_domain n (length l) x) s c a l r t d b m
  steps-told-answered h e f g o = rw (domain-enough x h) (record { answer = o.answer; table = e; places = f; written = g; row = o.row })
