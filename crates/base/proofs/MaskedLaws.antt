-- Two runs of one walk over byte lists that differ in places alone: where each visit comes out the same as long as the lists agree from its
-- offset on outside the places of what is found from there on, the walks are the same. Assumes nothing.
use Prim.Native.Nat.{ℕ, zero, suc, ◌+◌, ◌-◌, ◌≤◌}
use mathlib.Core.Path.{◌≡◌, refl, sym, ap, ◌∙◌}
use mathlib.Core.List.{List, [], ◌∷◌, ◌++◌}
use native.Mathlib.Omega.{arith}
use mathlib.Core.Bool.{Bool, true, false}
use lib.ListN.{length, get_or, length-append, get_or-append}
use lib.Seq.{get_or-append-add, ext_get_or}
use lib.Dec.{ltb}
use borrow.Author.Tests.{ltb-true, ltb-false}
use Rattle.base.specs.Lists.{All}
use Rattle.base.specs.Walk.{Visit, stop, go, going_on, walk}
use Rattle.base.specs.Masked.{Apart, Masked, places_of}
use Rattle.base.specs.declared.Place.{Place}
use Rattle.base.proofs.WalkLaws.{Finds, all_append}

pub apart-append : (ps qs : List Place) (i : ℕ) → Apart ps i → Apart qs i → Apart (ps ++ qs) i
apart-append [] qs i h k = k
apart-append (p ∷ ps) qs i h k = (h.0, apart-append ps qs i h.1 k)

module _ {A : Type 0} (places : A → List Place) where
  -- where each thing lies apart from i, all of them do
  pub apart-all : (xs : List A) (i : ℕ) → All (λ x. Apart (places x) i) xs → Apart (places_of places xs) i
  apart-all [] i h = tt
  apart-all (x ∷ xs) i h = apart-append (places x) (places_of places xs) i h.0 (apart-all xs i h.1)

  pub places-append : (xs ys : List A) → places_of places (xs ++ ys) ≡ places_of places xs ++ places_of places ys
  places-append [] ys = refl
  places-append (x ∷ xs) ys = rw (places-append xs ys) (append-swap (places x) (places_of places xs) (places_of places ys))
    where
      append-swap : (a b c : List Place) → a ++ (b ++ c) ≡ (a ++ b) ++ c
      append-swap [] b c = refl
      append-swap (x ∷ a) b c = ap (λ (l : List Place). x ∷ l) (append-swap a b c)

-- the lists are the same from o on, outside these places
abbrev pub Same : List ℕ → List ℕ → List Place → ℕ → Type 0
Same s t ps o = (i : ℕ) → o ≤ i → Apart ps i → get_or t i 0 ≡ get_or s i 0

-- what a visit finds has its places before the next offset
abbrev pub Before : {A : Type 0} → (A → List Place) → Visit A → Type 0
Before places stop = Unit {0}
Before places (go es p) = (i : ℕ) → p ≤ i → Apart (places_of places es) i

module _ {A : Type 0} (s t : List ℕ) (places : A → List Place) (visit visit' : ℕ → Visit A) (P : A → Type 0) (Fine : List A → Type 0)
    (fine : (es fs : List A) → Fine (es ++ fs) → Fine fs)
    (forward : (o p : ℕ) (es : List A) → visit o ≡ go es p → o ≤ p)
    (before : (o : ℕ) → Before places (visit o))
    (reads : (k o : ℕ) → Fine (walk visit (suc k) o) → Same s t (places_of places (walk visit (suc k) o)) o → (visit' o ≡ visit o) × Finds P (visit o)) where
  turn : (o : ℕ) (v : Visit A) (f g : ℕ → List A) → visit o ≡ v → Before places v → Finds P v → Fine (going_on v f) → Same s t (places_of places (going_on v f)) o
      → ((p : ℕ) → Fine (f p) → Same s t (places_of places (f p)) p → (g p ≡ f p) × All P (f p)) → (going_on v g ≡ going_on v f) × All P (going_on v f)
  turn o stop f g e b w fi m ih = (refl, tt)
  turn o (go es p) f g e b w fi m ih =
      let r = ih p (fine es (f p) fi)
      (λ i h a. m i (omega (arith, forward o p es e)) (rw (places-append places es (f p)) (apart-append (places_of places es) (places_of places (f p)) i (b i h) a))) in
      (ap (λ (l : List A). es ++ l) r.0, all_append P es (f p) w r.1)

  pub walk-two-runs : (k o : ℕ) → Fine (walk visit k o) → Same s t (places_of places (walk visit k o)) o
      → (walk visit' k o ≡ walk visit k o) × All P (walk visit k o)
  unfolding walk
  walk-two-runs zero o fi m = (refl, tt)
  walk-two-runs (suc k) o fi m =
      let q = reads k o fi m in
      rw q.0 (turn o (visit o) (walk visit k) (walk visit' k) refl (before o) q.1 fi m (walk-two-runs k))

-- the same where nothing more is asked of the walk or said of what it finds
module _ {A : Type 0} (s t : List ℕ) (places : A → List Place) (visit visit' : ℕ → Visit A)
    (forward : (o p : ℕ) (es : List A) → visit o ≡ go es p → o ≤ p)
    (before : (o : ℕ) → Before places (visit o))
    (reads : (k o : ℕ) → Same s t (places_of places (walk visit (suc k) o)) o → visit' o ≡ visit o) where
  anything : (xs : List A) → All (λ x. Unit {0}) xs
  anything [] = tt
  anything (x ∷ xs) = (tt, anything xs)

  finds-anything : (v : Visit A) → Finds (λ x. Unit {0}) v
  finds-anything stop = tt
  finds-anything (go es p) = anything es

  pub walk_same : (k o : ℕ) → Same s t (places_of places (walk visit k o)) o → walk visit' k o ≡ walk visit k o
  walk_same k o m =
      (walk-two-runs s t places visit visit' (λ x. Unit {0}) (λ xs. Unit {0}) (λ es fs _. tt) forward before
      (λ k o _ m. (reads k o m, finds-anything (visit o))) k o tt m).0

-- masked nowhere, t is s
pub masked-none : (s t : List ℕ) → Masked s t [] → t ≡ s
masked-none s t m = ext_get_or 0 t s m.long (λ i _. m.same i tt)

-- lists that differ in the middle alone are masked there
module _ (a x y b : List ℕ) (long : length y ≡ length x) where
  past : (i : ℕ) → (z : List ℕ) → length a + length z ≤ i → get_or (a ++ (z ++ b)) i 0 ≡ get_or b (i - (length a + length z)) 0
  past i z h =
      let j = i - (length a + length z) in
      let e : i ≡ length a + (length z + j) = omega arith in
      ap (λ (k : ℕ). get_or (a ++ (z ++ b)) k 0) e ∙ get_or-append-add a (z ++ b) (length z + j) 0 ∙ get_or-append-add z b j 0

  same : (i : ℕ) → Apart (record { offset = length a; length = length x } ∷ []) i → (t u : Bool) → ltb i (length a) ≡ t → ltb i (length a + length x) ≡ u
      → get_or (a ++ (y ++ b)) i 0 ≡ get_or (a ++ (x ++ b)) i 0
  same i h true u e f = get_or-append a (y ++ b) 0 i (ltb-true _ _ e) ∙ sym (get_or-append a (x ++ b) 0 i (ltb-true _ _ e))
  same i h false true e f = absurd (h.0 (record { from = ltb-false _ _ e; to = ltb-true _ _ f }))
  same i h false false e f =
      past i y (omega (arith, ltb-false i (length a + length x) f))
      ∙ ap (λ (k : ℕ). get_or b (i - (length a + k)) 0) long
      ∙ sym (past i x (ltb-false _ _ f))

  pub masked-middle : Masked (a ++ (x ++ b)) (a ++ (y ++ b)) (record { offset = length a; length = length x } ∷ [])
  masked-middle =
      record {
        long = simp (length-append, long);
        same = λ i h. same i h (ltb i (length a)) (ltb i (length a + length x)) refl refl;
      }
