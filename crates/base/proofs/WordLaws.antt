-- An outcome goes out of a C function as a number and words. Assumes nothing.
use Prim.Native.Nat.{ℕ, ◌+◌, ◌≤◌, ◌<◌}
use mathlib.Core.Path.{◌≡◌, refl, sym, ap, ◌∙◌}
use mathlib.Core.List.{List, ◌++◌}
use mathlib.Core.Bool.{Bool, true, false, cond}
use native.Mathlib.Nat.{zero-add}
use lib.Dec.{eqb}
use lib.ListN.{length, length-append}
use lib.Seq.{sets}
use borrow.Author.Tests.{lt-ltb, le-ltb}
use Rattle.base.specs.Lists.{list_after}
use Rattle.base.specs.Outcome.{Outcome, refused, answered, map_outcome}
use Rattle.base.specs.Refusals.{above_domain, list_full}
use Rattle.base.specs.Words.{number, with_room, short_by, after_domain, RowOut, Answers, Lists}
use Rattle.base.proofs.ChoiceLaws.{cond_cases}
use Rattle.base.proofs.ListLaws.{sets-front, sets-append}

pub row_put : (words l : List ℕ) → length words ≤ length l → {m : List ℕ} → m ≡ sets l 0 words → RowOut words l 0 m
row_put words l h e = record { answer = refl; row = e ∙ sets-front l words h }

pub rows-put : (front rest l : List ℕ) → length front + length rest ≤ length l → {m n : List ℕ} → m ≡ sets l 0 front → n ≡ sets m (length front) rest → RowOut (front ++ rest) l 0 n
rows-put front rest l h e f =
    row_put (front ++ rest) l (simp length-append h) (f ∙ rw e (ap (λ (i : ℕ). sets (sets l 0 front) i rest) (sym (zero-add (length front))) ∙ sym (sets-append l 0 front rest)))

-- an outcome goes out: a row that is its words, or its refusal's number
module _ {A : Type 0} (words : A → List ℕ) {x : Outcome A} {l : List ℕ} where
  pub row_out : {a : A} → x ≡ answered a → {row : List ℕ} → row ≡ words a → {m : List ℕ} {r : ℕ} → RowOut row l r m → Answers words x l r m
  row_out e f w = rw e (record { answer = w.answer; row = rw f at w.row })

  pub refused-out : {n : ℕ} → x ≡ refused n → Answers words x l n l
  refused-out e = rw e (record { answer = refl; row = refl })

-- what goes out in one list and in another goes out in both
pub out_both : {A : Type 0} {words words' : A → List ℕ} {x : Outcome A} {l m l' m' : List ℕ} {r : ℕ} → Answers words x l r m → Answers words' x l' r m' → Lists words words' x l l' r m m'
out_both o p = record { answer = o.answer; list-is = o.row; row = p.row }

module _ {A : Type 0} {words : A → List ℕ} {l m : List ℕ} {r : ℕ} where
  -- an outcome that equals another goes out as it does
  pub out-same : {x y : Outcome A} → Answers words x l r m → x ≡ y → Answers words y l r m
  out-same o e = rw e at o

  -- and one that is made of another goes out as that one does, with the words of what is made
  pub out-mapped : {B : Type 0} {f : B → A} (x : Outcome B) → Answers words (map_outcome f x) l r m → Answers (λ b. words (f b)) x l r m
  out-mapped (refused n) o = record { answer = o.answer; row = o.row }
  out-mapped (answered b) o = record { answer = o.answer; row = o.row }

module _ {A : Type 0} (x : Outcome A) {n room : ℕ} where
  pub room-few : room < n → with_room n room x ≡ refused list_full
  unfolding with_room
  room-few h = simp (lt-ltb _ _ h)

  pub room-enough : n ≤ room → with_room n room x ≡ x
  unfolding with_room
  room-enough h = simp (le-ltb _ _ h)

-- Whether an outcome is refused for the domain.
pub record Domain {A : Type 0} (above : Bool) (x : Outcome A) : Type 0 where
  pub test : eqb (number x) above_domain ≡ above

-- an answer is not, nor another refusal, nor a choice of two that are not; and one is where the domain is tested first
module _ {A : Type 0} where
  pub domain-answered : (a : A) → Domain false (answered a)
  domain-answered a = record { test = refl }

  pub domain-refused : (n : ℕ) → eqb n above_domain ≡ false → Domain {A = A} false (refused n)
  domain-refused n e = record { test = e }

  pub domain-choice : (b : Bool) {x y : Outcome A} → Domain false x → Domain false y → Domain false (cond b x y)
  domain-choice b h k = cond_cases (Domain false) b (λ _. h) (λ _. k)

  pub domain-first : (above : Bool) {y : Outcome A} → Domain false y → Domain above (cond above (refused above_domain) y)
  domain-first true h = record { test = refl }
  domain-first false h = h

-- a call with too few words for its answer, and with enough
module _ {A : Type 0} (x : Outcome A) {n room : ℕ} where
  pub domain-short : {above : Bool} → Domain above x → room < n → {r : ℕ} → r ≡ short_by above → after_domain n room x ≡ refused r
  unfolding after_domain
  domain-short d h e = rw (lt-ltb _ _ h, d.test, e)

  pub domain-enough : n ≤ room → after_domain n room x ≡ x
  unfolding after_domain
  domain-enough h = simp (le-ltb _ _ h)

-- A call whose second list takes the n words of its answer: its callee has the outcome x and leaves m in the first.
module _ {A : Type 0} (words words' : A → List ℕ) (n : ℕ) (x : Outcome A) (l l' : List ℕ) where
  pub lists-short : {above : Bool} → Domain above x → length l' < n → {r : ℕ} → r ≡ short_by above → Lists words words' (after_domain n (length l') x) l l' r l l'
  lists-short d h e = let q = domain-short x d h e in out_both (refused-out words q) (refused-out words' q)

  pub lists-answered : n ≤ length l' → {m m' : List ℕ} {r : ℕ} → m ≡ list_after words x l → Answers words' x l' r m' → Lists words words' (after_domain n (length l') x) l l' r m m'
  lists-answered h e o = rw (domain-enough x h) (record { answer = o.answer; list-is = e; row = o.row })
