-- Laws of walks over offsets: one step, more visits change nothing, a bound on what is found, and two walks that agree. Assumes nothing.
use Prim.Native.Nat.{ℕ, zero, suc, ◌+◌, ◌*◌, ◌-◌, ◌≤◌, ◌<◌}
use mathlib.Core.Path.{◌≡◌, refl, ap, sym, ◌∙◌}
use mathlib.Core.List.{List, [], ◌∷◌, ◌++◌}
use native.Mathlib.Omega.{arith}
use native.Mathlib.Nat.{mul-zero, mul-add}
use lib.ListN.{length, length-append}
use Rattle.base.specs.Lists.{All}
use Rattle.base.specs.Walk.{Visit, stop, go, going_on, walk, from}

-- a visit at o stops, or lies below bound and goes forward
abbrev pub Forward : {A : Type 0} → ℕ → ℕ → Visit A → Type 0
Forward bound o stop = Unit {0}
Forward bound o (go es p) = (o < bound) × (o < p)

-- a visit at o takes g bytes for each thing found, and goes no further than top
abbrev pub Costs : {A : Type 0} → ℕ → ℕ → ℕ → Visit A → Type 0
Costs g top o stop = Unit {0}
Costs g top o (go es p) = (o + g * length es ≤ p) × (p ≤ top)

module _ {A : Type 0} where
  -- what comes after a visit is asked only at the next offset, which lies further on
  pub after-agree : (bound o : ℕ) (f g : ℕ → List A) (v : Visit A) → Forward bound o v → ((p : ℕ) → o < p → f p ≡ g p) → going_on v f ≡ going_on v g
  after-agree bound o f g stop w h = refl
  after-agree bound o f g (go es p) w h = ap (λ (l : List A). es ++ l) (h p w.1)

  -- a visit at bound or above stops
  after-end : (bound o : ℕ) (f : ℕ → List A) (v : Visit A) → Forward bound o v → bound ≤ o → going_on v f ≡ []
  after-end bound o f stop w h = refl
  after-end bound o f (go es p) w h = absurd (omega arith)

module _ {A : Type 0} (visit : ℕ → Visit A) (bound : ℕ) (forward : (o : ℕ) → Forward bound o (visit o)) where
  -- more visits change nothing once there are enough
  pub walk-enough : (j k o : ℕ) → bound ≤ j + o → bound ≤ k + o → walk visit j o ≡ walk visit k o
  unfolding walk
  walk-enough zero zero o hj hk = refl
  walk-enough zero (suc k) o hj hk = sym (after-end bound o (walk visit k) (visit o) (forward o) (omega arith))
  walk-enough (suc j) zero o hj hk = after-end bound o (walk visit j) (visit o) (forward o) (omega arith)
  walk-enough (suc j) (suc k) o hj hk =
      after-agree bound o (walk visit j) (walk visit k) (visit o) (forward o)
      (λ p h. walk-enough j k p (omega arith) (omega arith))

  -- one visit, and then the rest
  pub from_step : (o : ℕ) → from visit bound o ≡ going_on (visit o) (from visit bound)
  unfolding from walk
  from_step o =
      walk-enough (bound - o) (suc (bound - o)) o (omega arith) (omega arith)
      ∙ after-agree bound o (walk visit (bound - o)) (from visit bound) (visit o) (forward o)
      (λ p h. walk-enough (bound - o) (bound - p) p (omega arith) (omega arith))

-- what is left of the walk at o, by what the visit there says
abbrev pub Left : {A : Type 0} → (ℕ → Visit A) → ℕ → ℕ → Visit A → Type 0
Left visit bound o stop = from visit bound o ≡ []
Left visit bound o (go es p) = (from visit bound o ≡ es ++ from visit bound p) × (o < bound) × (o < p)

module _ {A : Type 0} (visit : ℕ → Visit A) (bound : ℕ) (forward : (o : ℕ) → Forward bound o (visit o)) where
  left_by : (o : ℕ) (v : Visit A) → from visit bound o ≡ going_on v (from visit bound) → Forward bound o v → Left visit bound o v
  left_by o stop e w = e
  left_by o (go es p) e w = (e, w.0, w.1)

  pub left : (o : ℕ) (v : Visit A) → v ≡ visit o → Left visit bound o v
  left o v e = left_by o v (rw e (from_step visit bound forward o)) (rw e (forward o))

module _ {A : Type 0} (visit : ℕ → Visit A) (g top : ℕ) (costs : (o : ℕ) → Costs g top o (visit o)) where
  after-bound : (o : ℕ) (f : ℕ → List A) (v : Visit A) → Costs g top o v → o ≤ top → ((p : ℕ) → p ≤ top → p + g * length (f p) ≤ top) → o + g * length (going_on v f) ≤ top
  after-bound o f stop w ho h = simp mul-zero (omega arith)
  after-bound o f (go es p) w ho h = simp (length-append, mul-add) (omega (arith, h p w.1))

  pub walk-bound : (k o : ℕ) → o ≤ top → o + g * length (walk visit k o) ≤ top
  unfolding walk
  walk-bound zero o h = simp mul-zero (omega arith)
  walk-bound (suc k) o h = after-bound o (walk visit k) (visit o) (costs o) h (walk-bound k)

-- two walks that agree wherever the first one comes agree
abbrev pub Stays : {A : Type 0} → (ℕ → Type 0) → Visit A → Type 0
Stays G stop = Unit {0}
Stays G (go es p) = G p

module _ {A : Type 0} (visit visit' : ℕ → Visit A) (G : ℕ → Type 0) (agree : (o : ℕ) → G o → visit o ≡ visit' o) (stays : (o : ℕ) → G o → Stays G (visit o)) where
  after-along : (f g : ℕ → List A) (v : Visit A) → Stays G v → ((p : ℕ) → G p → f p ≡ g p) → going_on v f ≡ going_on v g
  after-along f g stop w h = refl
  after-along f g (go es p) w h = ap (λ (l : List A). es ++ l) (h p w)

  pub walk-along : (k o : ℕ) → G o → walk visit k o ≡ walk visit' k o
  unfolding walk
  walk-along zero o x = refl
  walk-along (suc k) o x =
      after-along (walk visit k) (walk visit' k) (visit o) (stays o x) (walk-along k)
      ∙ ap (λ (v : Visit A). going_on v (walk visit' k)) (agree o x)

-- what holds of all that any visit finds holds of all that a walk finds
abbrev pub Finds : {A : Type 0} → (A → Type 0) → Visit A → Type 0
Finds P stop = Unit {0}
Finds P (go es p) = All P es

module _ {A : Type 0} (P : A → Type 0) where
  pub all_append : (xs ys : List A) → All P xs → All P ys → All P (xs ++ ys)
  all_append [] ys h k = k
  all_append (x ∷ xs) ys h k = (h.0, all_append xs ys h.1 k)

  after-all : (f : ℕ → List A) (v : Visit A) → Finds P v → ((p : ℕ) → All P (f p)) → All P (going_on v f)
  after-all f stop w h = tt
  after-all f (go es p) w h = all_append es (f p) w (h p)

  pub walk-all : (visit : ℕ → Visit A) → ((o : ℕ) → Finds P (visit o)) → (k o : ℕ) → All P (walk visit k o)
  unfolding walk
  walk-all visit h zero o = tt
  walk-all visit h (suc k) o = after-all (walk visit k) (visit o) (h o) (walk-all visit h k)
