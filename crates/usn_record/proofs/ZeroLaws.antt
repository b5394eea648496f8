-- Zero words passed four at a time, and what a reader makes of them: where it goes on past each zero word as from before it, it goes on past
-- them all so. Assumes nothing.
use Prim.Native.Nat.{ℕ, ◌+◌, ◌-◌, ◌%◌, ◌≤◌}
use mathlib.Core.Path.{◌≡◌, refl, sym, ap, ◌∙◌}
use mathlib.Core.List.{List}
use native.Mathlib.Omega.{arith}
use lib.Bits.{bit_or, or_add_and, and_le_l, and_le_r}
use lib.ListN.{length}
use Rattle.usn_record.specs.Bytes.{le_at}
use Rattle.usn_record.specs.Zeros.{ZeroWords, none, word, PastZeros}
use Rattle.usn_record.proofs.ByteLaws.{read_join}

-- both parts of an `|` that is 0 are 0
or-zero : (a b : ℕ) → bit_or a b ≡ 0 → (a ≡ 0) × (b ≡ 0)
or-zero a b e = omega (arith, or_add_and a b, and_le_l a b, and_le_r a b)

module _ (s : List ℕ) where
  pub past-none : (o : ℕ) → PastZeros s o o
  past-none o = record { forward = omega arith; words = none refl }

  past_word : {o p : ℕ} (q : ℕ) → q ≡ p + 8 → q ≤ length s → le_at 8 s p ≡ 0 → PastZeros s o p → PastZeros s o q
  past_word {o} {p} q e h z k = record { forward = omega (arith, k.forward); words = word k.words (omega arith) z e }

  -- four words of which none has a bit, as a, b, c and d were read
  pub past-four : {o p a b c d : ℕ} → PastZeros s o p → p + 32 ≤ length s → a ≡ le_at 8 s p → b ≡ le_at 8 s (p + 8) → c ≡ le_at 8 s (p + 16) → d ≡ le_at 8 s (p + 24)
      → bit_or (bit_or a b) (bit_or c d) ≡ 0 → PastZeros s o (p + 32)
  past-four {o} {p} {a} {b} {c} {d} k h ea eb ec ed z =
      let x = or-zero (bit_or a b) (bit_or c d) z in
      let y = or-zero a b x.0 in
      let w = or-zero c d x.1 in
      past_word (p + 32) (omega arith) h (sym ed ∙ w.1)
      (past_word (p + 24) (omega arith) (omega arith) (sym ec ∙ w.0)
      (past_word (p + 16) (omega arith) (omega arith) (sym eb ∙ y.1)
      (past_word (p + 8) refl (omega arith) (sym ea ∙ y.0) k)))

  -- the words lie inside, and are whole
  words_inside : {o p : ℕ} → ZeroWords s o p → o ≤ length s → p ≤ length s
  words_inside (none e) h = omega arith
  words_inside (word k l z e) h = omega arith

  pub past-inside : {o p : ℕ} → PastZeros s o p → o ≤ length s → p ≤ length s
  past-inside k h = words_inside k.words h

  words-whole : {o p : ℕ} → ZeroWords s o p → (o ≤ p) × ((p - o) % 8 ≡ 0)
  words-whole (none e) = omega arith
  words-whole (word k l z e) = omega (arith, words-whole k)

  pub past-whole : {o p : ℕ} → PastZeros s o p → (p - o) % 8 ≡ 0
  past-whole k = (words-whole k.words).1

  -- the length field of a zero word is 0
  pub zero-length : (o : ℕ) → o + 8 ≤ length s → le_at 8 s o ≡ 0 → le_at 4 s o ≡ 0
  zero-length o h e = omega (arith, read_join 4 s o {a = le_at 4 s o} {b = le_at 4 s (o + 4)} h refl refl)

  -- f is what a reader finds from an offset on
  module _ {A : Type 0} (f : ℕ → A) (pass : (q : ℕ) → q + 8 ≤ length s → le_at 4 s q ≡ 0 → f (q + 8) ≡ f q) where
    words-passed : {o p : ℕ} → ZeroWords s o p → f p ≡ f o
    words-passed (none e) = ap f e
    words-passed (word {q = q} k h z e) = ap f e ∙ pass q h (zero-length q h z) ∙ words-passed k

    pub zeros-passed : {o p : ℕ} → PastZeros s o p → f p ≡ f o
    zeros-passed k = words-passed k.words
