-- The text of a chain's end: its parts, written one after the other, and its length. Assumes nothing.
use Prim.Native.Nat.{ℕ, ◌+◌, ◌/◌, ◌≤◌, ◌<◌}
use mathlib.Core.Path.{◌≡◌, refl, ap, ◌∙◌}
use mathlib.Core.List.{List, [], ◌∷◌, ◌++◌}
use mathlib.Core.Bool.{Bool, true, false}
use native.Mathlib.Omega.{arith}
use borrow.Author.Tests.{ltb-true, ltb-false}
use lib.ListN.{length, length-append}
use lib.Dec.{ltb}
use Rattle.utf16.specs.Decimal.{decimal}
use Rattle.utf16.proofs.DecimalLaws.{decimal-one, decimal-next, decimal-most}
use Rattle.utf16.proofs.PutLaws.{Put, put_as, put-room, put_then}
use Rattle.entry_slots.specs.declared.EntryKey.{EntryKey}
use Rattle.chain.specs.declared.ChainEnd.{ChainEnd}
use Rattle.chain.specs.declared.ChainEnd.TheVariants.{Root, Unknown, Unresolved}
use Rattle.path_text.specs.Text.{unknown_word, unresolved_word, key_text, end_text}

-- two parts of a text: the first has room, what it leaves is room for the second, and both together are the text
module _ (l : List ℕ) (i : ℕ) (us vs : List ℕ) {ts : List ℕ} (e : ts ≡ us ++ vs) where
  pub first-room : i + length ts ≤ length l → i + length us ≤ length l
  first-room h = omega (arith, ap length e, length-append us vs)

  pub second-room : {m : List ℕ} {a : ℕ} → Put l m i a us → i + length ts ≤ length l → a + length vs ≤ length m
  second-room p h = put-room l i us vs p (rw e at h)

  pub both-put : {m n : List ℕ} {a r : ℕ} → Put l m i a us → Put m n a r vs → Put l n i r ts
  both-put p q = put_as l i e (put_then l i us vs p q)

-- a key: its entry, a colon, its sequence, a bracket
abbrev after_colon : EntryKey → List ℕ
after_colon k = decimal k.sequence ++ (0x29 ∷ [])

abbrev after_entry : EntryKey → List ℕ
after_entry k = (0x3A ∷ []) ++ after_colon k

key-parts : (k : EntryKey) → key_text k ≡ decimal k.entry ++ after_entry k
unfolding key_text
key-parts k = refl

module _ (l : List ℕ) (i : ℕ) (k : EntryKey) (h : i + length (key_text k) ≤ length l) where
  pub key-entry : i + length (decimal k.entry) ≤ length l
  key-entry = first-room l i (decimal k.entry) (after_entry k) (key-parts k) h

  module _ {m : List ℕ} {a : ℕ} (p : Put l m i a (decimal k.entry)) where
    after-entry : a + length (after_entry k) ≤ length m
    after-entry = second-room l i (decimal k.entry) (after_entry k) (key-parts k) p h

    pub key-colon : a < length m
    key-colon = omega (arith, after-entry)

    module _ {n : List ℕ} {b : ℕ} (q : Put m n a b (0x3A ∷ [])) where
      after-colon : b + length (after_colon k) ≤ length n
      after-colon = second-room m a (0x3A ∷ []) (after_colon k) refl q after-entry

      pub key-sequence : b + length (decimal k.sequence) ≤ length n
      key-sequence = first-room n b (decimal k.sequence) (0x29 ∷ []) refl after-colon

      module _ {o : List ℕ} {d : ℕ} (r : Put n o b d (decimal k.sequence)) where
        pub key-bracket : d < length o
        key-bracket = omega (arith, second-room n b (decimal k.sequence) (0x29 ∷ []) refl r after-colon)

        pub key-put : {z : List ℕ} {w : ℕ} → Put o z d w (0x29 ∷ []) → Put l z i w (key_text k)
        key-put s =
            both-put l i (decimal k.entry) (after_entry k) (key-parts k) p
            (both-put m a (0x3A ∷ []) (after_colon k) refl q (both-put n b (decimal k.sequence) (0x29 ∷ []) refl r s))

-- a number has at most two digits more than a tenth of it
pub decimal-tenth : (n : ℕ) → length (decimal n) ≤ n / 10 + 2
decimal-tenth n = go (ltb n 10) refl
  where
    go : (b : Bool) → ltb n 10 ≡ b → length (decimal n) ≤ n / 10 + 2
    go true e = omega (arith, ap length (decimal-one n (ltb-true n 10 e)))
    go false e = omega (arith, decimal-next n (ltb-false n 10 e), decimal-most (n / 10))

pub key-long : (k : EntryKey) → length (key_text k) ≡ length (decimal k.entry) + 1 + length (decimal k.sequence) + 1
unfolding key_text
key-long k = omega (arith, length-append (decimal k.entry) (after_entry k), length-append (decimal k.sequence) (0x29 ∷ []))

-- an end, by its cases
pub end-root : {x : ChainEnd} → x ≡ Root → end_text x ≡ 0x2E ∷ []
unfolding end_text
end-root e = rw e

pub end-unknown : {x : ChainEnd} {k : EntryKey} → x ≡ Unknown k → end_text x ≡ unknown_word ++ key_text k
unfolding end_text
end-unknown e = rw e

pub end-unresolved : {x : ChainEnd} {k : EntryKey} → x ≡ Unresolved k → end_text x ≡ unresolved_word ++ key_text k
unfolding end_text
end-unresolved e = rw e

pub unknown-long : {x : ChainEnd} {k : EntryKey} → x ≡ Unknown k → length (end_text x) ≡ 8 + length (key_text k)
unknown-long {x} {k} e = ap length (end-unknown e) ∙ length-append unknown_word (key_text k)

pub unresolved-long : {x : ChainEnd} {k : EntryKey} → x ≡ Unresolved k → length (end_text x) ≡ 11 + length (key_text k)
unresolved-long {x} {k} e = ap length (end-unresolved e) ∙ length-append unresolved_word (key_text k)
