-- Writes into a text, one after the other. Assumes nothing.
use Prim.Native.Nat.{ℕ, suc, ◌+◌, ◌≤◌, ◌<◌}
use mathlib.Core.Path.{◌≡◌, refl, ap, sym, ◌∙◌}
use mathlib.Core.List.{List, [], ◌∷◌, ◌++◌}
use native.Mathlib.Omega.{arith}
use lib.ListN.{length, length-append, set}
use lib.Seq.{sets, length-sets, set-set, set_comm}
use Rattle.base.proofs.ListLaws.{sets-append}

-- what every writer ensures: vs, written over l from i on, leaves m and ends at r
abbrev pub Put : List ℕ → List ℕ → ℕ → ℕ → List ℕ → Type 0
Put l m i r vs = record { value : r ≡ i + length vs; text_after : m ≡ sets l i vs }

-- the same bytes by another name
pub put_as : (l : List ℕ) (i : ℕ) {m : List ℕ} {r : ℕ} {us vs : List ℕ} → us ≡ vs → Put l m i r vs → Put l m i r us
put_as l i e p = rw e p

module _ (l : List ℕ) (i : ℕ) {m : List ℕ} {r : ℕ} (us vs : List ℕ) (p : Put l m i r us) where
  -- the room that a write leaves for the next
  pub put-room : i + length (us ++ vs) ≤ length l → r + length vs ≤ length m
  put-room h = omega (arith, p.value, ap length p.text_after, length-sets l i us, length-append us vs)

  pub put_then : {n : List ℕ} {q : ℕ} → Put m n r q vs → Put l n i q (us ++ vs)
  put_then k =
      record {
        value = omega (arith, p.value, k.value, length-append us vs);
        text_after = k.text_after ∙ rw (p.text_after, p.value) (sym (sets-append l i us vs));
      }

-- a store in front of a write may come first
set_before : (l : List ℕ) (i j v : ℕ) (us : List ℕ) → j < i → set (sets l i us) j v ≡ sets (set l j v) i us
set_before l i j v [] h = refl
set_before l i j v (u ∷ us) h =
    set_before (set l i u) (suc i) j v us (omega arith) ∙ ap (λ (m : List ℕ). sets m (suc i) us) (set_comm l i j u v (λ e. omega arith))

-- a write that covers the one before it
pub sets_over : (l : List ℕ) (i : ℕ) (us vs : List ℕ) → length us ≤ length vs → sets (sets l i us) i vs ≡ sets l i vs
sets_over l i [] vs h = refl
sets_over l i (u ∷ us) [] h = absurd (omega arith)
sets_over l i (u ∷ us) (v ∷ vs) h =
    ap (λ (m : List ℕ). sets m (suc i) vs) (set_before (set l i u) (suc i) i v us (omega arith) ∙ ap (λ (m : List ℕ). sets m (suc i) us) (set-set l i u v))
    ∙ sets_over (set l i v) (suc i) us vs (omega arith)
