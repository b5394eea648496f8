-- Facts of a choice by a test, from its two cases. Assumes nothing.
use mathlib.Core.Path.{◌≡◌, refl}
use mathlib.Core.Bool.{Bool, true, false, cond, true≢false, false≢true, ◌||◌, ◌&&◌}

-- what holds of each choice, where its test led to it, holds of the choice
pub cond_cases : {A : Type 0} (P : A → Type 0) (b : Bool) {x y : A} → (b ≡ true → P x) → (b ≡ false → P y) → P (cond b x y)
cond_cases P true h k = h refl
cond_cases P false h k = k refl

-- a choice between two that are the same
pub cond_same : {A : Type 0} (b : Bool) (x : A) → x ≡ cond b x x
cond_same b x = cond_cases (λ y. x ≡ y) b (λ _. refl) (λ _. refl)

-- a relation of two choices by one test
pub cond-two : {A B : Type 0} (R : A → B → Type 0) (b : Bool) {x y : A} {x' y' : B}
    → (b ≡ true → R x x') → (b ≡ false → R y y') → R (cond b x y) (cond b x' y')
cond-two R true h k = h refl
cond-two R false h k = k refl

-- both tests of an `||` that fails fail
pub or_left : (a b : Bool) → (a || b) ≡ false → a ≡ false
or_left true b e = e
or_left false b e = refl

pub or_right : (a b : Bool) → (a || b) ≡ false → b ≡ false
or_right true b e = absurd (true≢false e)
or_right false b e = e

-- both tests of an `&&` that holds hold
pub and_left : (a b : Bool) → (a && b) ≡ true → a ≡ true
and_left true b e = refl
and_left false b e = e

pub and_right : (a b : Bool) → (a && b) ≡ true → b ≡ true
and_right true b e = e
and_right false b e = absurd (false≢true e)

-- an `&&` whose second test fails wherever the first holds
pub and-false : (a b : Bool) → (a ≡ true → b ≡ false) → (a && b) ≡ false
and-false true b h = h refl
and-false false b h = refl
