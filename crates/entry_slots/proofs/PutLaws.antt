-- An entry in a slot: it is read back, and the other slots stay as they were. Assumes nothing.
use Prim.Native.Nat.{ℕ, zero, suc, ◌+◌, ◌*◌, ◌≤◌, ◌<◌}
use mathlib.Core.Path.{◌≡◌, refl, ◌∙◌}
use mathlib.Core.List.{List, [], ◌∷◌}
use mathlib.Core.Bool.{Bool, true, false}
use native.Mathlib.Omega.{arith}
use native.Mathlib.Nat.{add-zero}
use borrow.Author.Tests.{ltb-true, ltb-false}
use lib.ListN.{length, get_or, set, length-set}
use lib.Seq.{sets, length-sets, get_or-set_same, get_or-set_other}
use lib.Dec.{ltb}
use Rattle.entry_slots.specs.Slots.{stride, key_at, info_at, slot_words, put_at}
use Rattle.entry_slots.specs.declared.EntryKey.{EntryKey}
use Rattle.entry_slots.specs.declared.EntryInfo.{EntryInfo}

-- stores of a row leave what is before and after it, and are read back
pub sets-before : (vs l : List ℕ) (a p : ℕ) → p < a → get_or (sets l a vs) p 0 ≡ get_or l p 0
sets-before [] l a p h = refl
sets-before (v ∷ vs) l a p h = sets-before vs (set l a v) (suc a) p (omega arith) ∙ get_or-set_other l a p v 0 (omega arith)

pub sets-after : (vs l : List ℕ) (a p : ℕ) → a + length vs ≤ p → get_or (sets l a vs) p 0 ≡ get_or l p 0
sets-after [] l a p h = refl
sets-after (v ∷ vs) l a p h = sets-after vs (set l a v) (suc a) p (omega arith) ∙ get_or-set_other l a p v 0 (omega arith)

pub sets-at : (vs l : List ℕ) (a r : ℕ) → r < length vs → a + length vs ≤ length l → get_or (sets l a vs) (a + r) 0 ≡ get_or vs r 0
sets-at [] l a r h g = absurd (omega arith)
sets-at (v ∷ vs) l a zero h g = rw (add-zero a) (sets-before vs (set l a v) (suc a) a (omega arith) ∙ get_or-set_same l a v 0 (omega arith))
sets-at (v ∷ vs) l a (suc r) h g =
    let e : a + suc r ≡ suc a + r = omega arith in
    rw e (sets-at vs (set l a v) (suc a) r (omega arith) (omega (arith, length-set l a v)))

pub length-put : (s : List ℕ) (j : ℕ) (k : EntryKey) (e : EntryInfo) → length (put_at s j k e) ≡ length s
unfolding put_at
length-put s j k e = length-sets s (j * stride) (slot_words k e)

-- words after the slot are left alone
pub put-after : (s : List ℕ) (j : ℕ) (k : EntryKey) (e : EntryInfo) (p : ℕ) → j * stride + stride ≤ p → get_or (put_at s j k e) p 0 ≡ get_or s p 0
unfolding put_at
put-after s j k e p h = sets-after (slot_words k e) s (j * stride) p h

module _ (s : List ℕ) (j : ℕ) (k : EntryKey) (e : EntryInfo) (room : j * stride + stride ≤ length s) where
  -- word r of the slot, at q
  word : (q r : ℕ) → q ≡ j * stride + r → r < stride → get_or (put_at s j k e) q 0 ≡ get_or (slot_words k e) r 0
  unfolding put_at
  word q r at h = rw at (sets-at (slot_words k e) s (j * stride) r h room)

  pub put-key : key_at (put_at s j k e) j ≡ k
  put-key = λ z. record { entry = word (j * stride) 0 (omega arith) (omega arith) z; sequence = word (j * stride + 1) 1 (omega arith) (omega arith) z }

  pub put-info : info_at (put_at s j k e) j ≡ e
  put-info =
      let p : ℕ = j * stride in
      λ z. record {
        parent = record { entry = word (p + 2) 2 (omega arith) (omega arith) z; sequence = word (p + 2 + 1) 3 (omega arith) (omega arith) z };
        name = record {
          source = word (p + 4) 4 (omega arith) (omega arith) z;
          offset = word (p + 4 + 1) 5 (omega arith) (omega arith) z;
          length = word (p + 4 + 2) 6 (omega arith) (omega arith) z;
        };
      }

module _ (s : List ℕ) (j : ℕ) (k : EntryKey) (e : EntryInfo) (i : ℕ) (other : i ≡ j → ⊥) where
  word-other : (p : ℕ) → i * stride ≤ p → p < i * stride + stride → get_or (put_at s j k e) p 0 ≡ get_or s p 0
  unfolding put_at
  word-other p h g = go (ltb i j) refl
    where
      go : (x : Bool) → ltb i j ≡ x → get_or (sets s (j * stride) (slot_words k e)) p 0 ≡ get_or s p 0
      go true x = let l : i < j = ltb-true i j x in sets-before (slot_words k e) s (j * stride) p (omega arith)
      go false x = let l : j ≤ i = ltb-false i j x in sets-after (slot_words k e) s (j * stride) p (omega arith)

  pub put-key-other : key_at (put_at s j k e) i ≡ key_at s i
  put-key-other = λ z. record { entry = word-other (i * stride) (omega arith) (omega arith) z; sequence = word-other (i * stride + 1) (omega arith) (omega arith) z }

  pub put-info-other : info_at (put_at s j k e) i ≡ info_at s i
  put-info-other =
      let p : ℕ = i * stride in
      λ z. record {
        parent = record { entry = word-other (p + 2) (omega arith) (omega arith) z; sequence = word-other (p + 2 + 1) (omega arith) (omega arith) z };
        name = record {
          source = word-other (p + 4) (omega arith) (omega arith) z;
          offset = word-other (p + 4 + 1) (omega arith) (omega arith) z;
          length = word-other (p + 4 + 2) (omega arith) (omega arith) z;
        };
      }
