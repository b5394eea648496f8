-- The bytes of a code point by its size, and how many they are. Assumes nothing.
use Prim.Native.Nat.{ℕ, ◌+◌, ◌/◌, ◌≤◌, ◌<◌}
use mathlib.Core.Path.{◌≡◌}
use mathlib.Core.List.{List, [], ◌∷◌}
use native.Mathlib.Omega.{arith}
use borrow.Author.Tests.{lt-ltb, le-ltb}
use lib.ListN.{length}
use lib.Dec.{ltb}
use Rattle.base.proofs.ChoiceLaws.{cond_cases}
use Rattle.utf16.specs.Utf8.{trail, utf8}

pub utf8-one : (c : ℕ) → c < 0x80 → utf8 c ≡ c ∷ []
unfolding utf8
utf8-one c h = simp (lt-ltb c 0x80 h)

pub utf8-four : (c : ℕ) → 0x10000 ≤ c → utf8 c ≡ (0xF0 + c / 0x40000) ∷ trail (c / 0x1000) ∷ trail (c / 0x40) ∷ trail c ∷ []
unfolding utf8
utf8-four c g = simp (le-ltb c 0x80 (omega arith), le-ltb c 0x800 (omega arith), le-ltb c 0x10000 g)

-- four bytes at most, and three below U+10000
pub utf8-most : (c : ℕ) → length (utf8 c) ≤ 4
unfolding utf8
utf8-most c =
    let P : List ℕ → Type 0 = λ bs. length bs ≤ 4 in
    cond_cases P (ltb c 0x80) (λ _. omega arith) λ _.
    cond_cases P (ltb c 0x800) (λ _. omega arith) λ _.
    cond_cases P (ltb c 0x10000) (λ _. omega arith) λ _. omega arith

pub utf8-small : (c : ℕ) → c < 0x10000 → length (utf8 c) ≤ 3
unfolding utf8
utf8-small c h =
    let P : List ℕ → Type 0 = λ bs. length bs ≤ 3 in
    cond_cases P (ltb c 0x80) (λ _. omega arith) λ _.
    cond_cases P (ltb c 0x800) (λ _. omega arith) λ _.
    rw (lt-ltb c 0x10000 h) (omega arith)

-- and one at least
pub utf8-least : (c : ℕ) → 1 ≤ length (utf8 c)
unfolding utf8
utf8-least c =
    let P : List ℕ → Type 0 = λ bs. 1 ≤ length bs in
    cond_cases P (ltb c 0x80) (λ _. omega arith) λ _.
    cond_cases P (ltb c 0x800) (λ _. omega arith) λ _.
    cond_cases P (ltb c 0x10000) (λ _. omega arith) λ _. omega arith
