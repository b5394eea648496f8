-- Keys nested under 5:5, as many as the depth and one more: the first path begins with the root, the second with UNRESOLVED(5:5). The slots of
-- the table are read by a law, and not one by one. Assumes nothing.
use Prim.Native.Nat.{ℕ, zero, suc, ◌+◌, ◌*◌, ◌/◌, ◌≤◌, ◌<◌}
use mathlib.Core.Path.{◌≡◌, refl, ap, sym, ◌∙◌}
use mathlib.Core.List.{List, [], ◌∷◌, ◌++◌, append_assoc, append-nil}
use mathlib.Core.Bool.{Bool, true, false, cond, ◌&&◌}
use native.Mathlib.Omega.{arith}
use native.Mathlib.Nat.{le_refl}
use borrow.Author.Tests.{ne_eqb, eqb-true, eqb-false, le-ltb}
use lib.ListN.{length, get_or, get_or-append}
use lib.Seq.{get_or-append-add}
use lib.Dec.{eqb}
use Rattle.base.specs.Lists.{every, rows}
use Rattle.base.specs.Outcome.{Outcome, answered, outcome_words}
use Rattle.usn_record.specs.Bytes.{le, le_at}
use Rattle.utf16.specs.Utf16.{alone, code_points, units_at}
use Rattle.utf16.specs.Utf8.{utf8}
use Rattle.utf16.specs.Text.{decoded}
use Rattle.utf16.specs.Decimal.{digits}
use Rattle.entry_slots.specs.Names.{lengths, inside, all_inside}
use Rattle.entry_slots.specs.Slots.{same_key, key_at, info_at, slot_name, find_from}
use Rattle.entry_slots.specs.declared.EntryKey.{EntryKey}
use Rattle.entry_slots.specs.declared.EntryInfo.{EntryInfo}
use Rattle.entry_slots.specs.declared.NamePlace.{NamePlace}
use Rattle.std.specs.Prelude.{Some}
use Rattle.entry_slots.proofs.FindLaws.{same_self}
use Rattle.chain.specs.declared.ChainEnd.TheVariants.{Root, Unresolved}
use Rattle.chain.specs.Chain.{Chain, bare, under, is_root, chain}
use Rattle.chain.proofs.CallLaws.{traced}
use Rattle.chain.proofs.PlaceLaws.{flatten-more}
use Rattle.path_text.specs.Text.{unresolved_word, key_text, end_text, place_text, step_text, names_text, path_text}
use Rattle.path_text.specs.Decoding.{with_text}
use Rattle.path.specs.Sample.{key, journal_a, slot_a, nested, nested_table, last_key, path_says, times_a}

-- word c of slot j
slot-word : (e n j c i : ℕ) → i ≡ j * 7 + c → j < n → c < 7 → get_or (nested e n) i 0 ≡ get_or (slot_a (key (suc (e + j)) 5) (key (e + j) 5)) c 0
unfolding nested
slot-word e zero j c i z h g = absurd (omega arith)
slot-word e (suc n) zero c i z h g =
    let x : i ≡ c = omega arith in
    let y : e ≡ e + zero = omega arith in
    ap (λ (m : ℕ). get_or (nested e (suc n)) m 0) x
    ∙ get_or-append (slot_a (key (suc e) 5) (key e 5)) (nested (suc e) n) 0 c g
    ∙ ap (λ (d : ℕ). get_or (slot_a (key (suc d) 5) (key d 5)) c 0) y
slot-word e (suc n) (suc j) c i z h g =
    let x : i ≡ 7 + (j * 7 + c) = omega arith in
    let y : suc e + j ≡ e + suc j = omega arith in
    ap (λ (m : ℕ). get_or (nested e (suc n)) m 0) x
    ∙ get_or-append-add (slot_a (key (suc e) 5) (key e 5)) (nested (suc e) n) (j * 7 + c) 0
    ∙ slot-word (suc e) n j c (j * 7 + c) refl (omega arith) g
    ∙ ap (λ (d : ℕ). get_or (slot_a (key (suc d) 5) (key d 5)) c 0) y

module _ (e n j : ℕ) (h : j < n) where
  word : (c i : ℕ) → i ≡ j * 7 + c → c < 7 → get_or (nested e n) i 0 ≡ get_or (slot_a (key (suc (e + j)) 5) (key (e + j) 5)) c 0
  word c i z g = slot-word e n j c i z h g

  key-nested : key_at (nested e n) j ≡ key (suc (e + j)) 5
  key-nested =
      let p : get_or (nested e n) (j * 7) 0 ≡ suc (e + j) = word 0 _ (omega arith) (omega arith) in
      let q : get_or (nested e n) (j * 7 + 1) 0 ≡ 5 = word 1 _ (omega arith) (omega arith) in
      λ z. record { entry = p z; sequence = q z }

  info-nested : ◌≡◌ {A = EntryInfo} (info_at (nested e n) j) (record { parent = key (e + j) 5; name = record { source = 0; offset = 0; length = 2 } })
  info-nested =
      let p : get_or (nested e n) (j * 7 + 2) 0 ≡ e + j = word 2 _ (omega arith) (omega arith) in
      let q : get_or (nested e n) (j * 7 + 2 + 1) 0 ≡ 5 = word 3 _ (omega arith) (omega arith) in
      let r : get_or (nested e n) (j * 7 + 4) 0 ≡ 0 = word 4 _ (omega arith) (omega arith) in
      let s : get_or (nested e n) (j * 7 + 4 + 1) 0 ≡ 0 = word 5 _ (omega arith) (omega arith) in
      let t : get_or (nested e n) (j * 7 + 4 + 2) 0 ≡ 2 = word 6 _ (omega arith) (omega arith) in
      λ z. record { parent = record { entry = p z; sequence = q z }; name = record { source = r z; offset = s z; length = t z } }

-- keys of other entries are not the same
other-entry : (a b : EntryKey) → (a.entry ≡ b.entry → ⊥) → false ≡ same_key a b
unfolding same_key
other-entry a b h = rw (ne_eqb _ _ h)

-- the key after j others stands in slot j
find-nested : (e n a m j : ℕ) → a + m ≡ n → a ≤ j → j < n → find_from (nested e n) (key (suc (e + j)) 5) a m ≡ Some j
unfolding find_from
find-nested e n a zero j z x h = absurd (omega arith)
find-nested e n a (suc m) j z x h =
    ap (λ (k : EntryKey). cond (same_key k (key (suc (e + j)) 5)) (Some a) (find_from (nested e n) (key (suc (e + j)) 5) (a + 1) m)) (key-nested e n a (omega arith))
    ∙ go (eqb a j) refl (find-nested e n (a + 1) m j (omega arith))
  where
    go : (b : Bool) → eqb a j ≡ b → (a + 1 ≤ j → j < n → find_from (nested e n) (key (suc (e + j)) 5) (a + 1) m ≡ Some j)
        → cond (same_key (key (suc (e + a)) 5) (key (suc (e + j)) 5)) (Some a) (find_from (nested e n) (key (suc (e + j)) 5) (a + 1) m) ≡ Some j
    go true y ih = let s : a ≡ j = eqb-true a j y in rw (s, same_self (key (suc (e + j)) 5))
    go false y ih =
        let s : a ≡ j → ⊥ = eqb-false a j y in
        rw (← other-entry (key (suc (e + a)) 5) (key (suc (e + j)) 5) (λ w. s (omega arith))) (ih (omega arith) h)

-- the place of the name a
abbrev place_a : NamePlace
place_a = record { source = 0; offset = 0; length = 2 }

up-nested : (n l j : ℕ) → j < n → chain (nested_table n) (suc l) (key (suc (5 + j)) 5) ≡ under (chain (nested_table n) l (key (5 + j) 5)) place_a
unfolding chain is_root
up-nested n l j h =
    rw (ne_eqb (suc (5 + j)) 5 (λ w. omega arith), find-nested 5 n 0 n j (omega arith) (omega arith) h)
    (ap (λ (x : EntryInfo). under (chain (nested_table n) l x.parent) x.name) (info-nested 5 n j h))

-- the chain of the key after j others, with l levels left
unfoldable climbed : ℕ → ℕ → Chain
climbed zero j = bare (Unresolved (key (5 + j) 5))
climbed (suc l) zero = bare Root
climbed (suc l) (suc j) = under (climbed l j) place_a

climb : (n l j : ℕ) → j ≤ n → chain (nested_table n) l (key (5 + j) 5) ≡ climbed l j
unfolding chain is_root climbed
climb n zero j h = refl
climb n (suc l) zero h = refl
climb n (suc l) (suc j) h =
    let y : 5 + suc j ≡ suc (5 + j) = omega arith in
    ap (λ (d : ℕ). chain (nested_table n) (suc l) (key d 5)) y
    ∙ up-nested n l j (omega arith)
    ∙ ap (λ (c : Chain). under c place_a) (climb n l j (omega arith))

-- there are as many slots as keys, and the names of all lie in the journal
length-nested : (e n : ℕ) → length (nested e n) ≡ n * 7
unfolding nested
length-nested e zero = refl
length-nested e (suc n) = omega (arith, length-nested (suc e) n)

all-inside : (n a m : ℕ) → a + m ≡ n → all_inside (lengths 2 0) (rows (slot_name (nested 5 n)) a m) ≡ true
unfolding rows every inside
all-inside n a zero z = refl
all-inside n a (suc m) z =
    ap (λ (x : EntryInfo). inside (lengths 2 0) x.name && all_inside (lengths 2 0) (rows (slot_name (nested 5 n)) (a + 1) m)) (info-nested 5 n a (omega arith))
    ∙ all-inside n (a + 1) m (omega arith)

-- the text of the names, and how many bytes they take
times_more : (j : ℕ) → times_a j ++ (0x5C ∷ 0x61 ∷ []) ≡ times_a (suc j)
unfolding times_a
times_more zero = refl
times_more (suc j) = ap (λ (l : List ℕ). 0x5C ∷ 0x61 ∷ l) (times_more j)

length-times : (j : ℕ) → length (times_a j) ≡ 2 * j
unfolding times_a
length-times zero = refl
length-times (suc j) = omega (arith, length-times j)

text-under : (c : Chain) → path_text journal_a [] (under c place_a) ≡ path_text journal_a [] c ++ (0x5C ∷ 0x61 ∷ [])
unfolding path_text step_text place_text decoded code_points alone utf8 units_at le_at le
text-under c =
    ap (λ (l : List ℕ). end_text c.end ++ l) (flatten-more (step_text journal_a []) c.places place_a)
    ∙ sym (append_assoc (end_text c.end) (names_text journal_a [] c.places) (0x5C ∷ 0x61 ∷ []))

-- the text of a chain of j names, by its end
text-climbed : (l j d : ℕ) → l ≡ d + j → path_text journal_a [] (climbed l j) ≡ path_text journal_a [] (climbed d 0) ++ times_a j
unfolding climbed times_a
text-climbed l zero d z =
    let e : l ≡ d = omega (arith, z) in
    ap (λ (m : ℕ). path_text journal_a [] (climbed m 0)) e ∙ sym (append-nil (path_text journal_a [] (climbed d 0)))
text-climbed zero (suc j) d z = absurd (omega arith)
text-climbed (suc l) (suc j) d z =
    text-under (climbed l j)
    ∙ ap (λ (t : List ℕ). t ++ (0x5C ∷ 0x61 ∷ [])) (text-climbed l j d (omega arith))
    ∙ append_assoc (path_text journal_a [] (climbed d 0)) (times_a j) (0x5C ∷ 0x61 ∷ [])
    ∙ ap (λ (t : List ℕ). path_text journal_a [] (climbed d 0) ++ t) (times_more j)

text-root : path_text journal_a [] (climbed 1 0) ≡ 0x2E ∷ []
unfolding climbed path_text end_text
text-root = refl

text-unresolved : path_text journal_a [] (climbed 0 0) ≡ unresolved_word ++ (0x35 ∷ 0x3A ∷ 0x35 ∷ 0x29 ∷ [])
unfolding climbed path_text end_text key_text digits
text-unresolved = refl

-- a text that has room is told
told : (c : Chain) (room : ℕ) {t : List ℕ} → path_text journal_a [] c ≡ t → length t ≤ room
    → outcome_words (path_text journal_a []) (with_text (path_text journal_a []) room (answered c)) ≡ 0 ∷ t
told c room e h = rw (le-ltb room (length (path_text journal_a [] c)) (omega (arith, h, ap length e))) (ap (λ (l : List ℕ). 0 ∷ l) e)

-- what a path of n nested keys says, by the chain that is climbed
says : (n room : ℕ) → n ≤ length (nested 5 n) / 7 → {t : List ℕ} → path_text journal_a [] (climbed 257 n) ≡ t → length t ≤ room
    → path_says (nested_table n) (last_key n) room ≡ 0 ∷ t
unfolding path_says
says n room u e h =
    ap (λ (o : Outcome Chain). outcome_words (path_text journal_a []) (with_text (path_text journal_a []) room o))
    (traced (lengths 2 0) (nested_table n) (omega arith) (omega arith) u 256 (last_key n) (all-inside n 0 n (omega arith)) ∙ ap answered (climb n 257 n (le_refl n)))
    ∙ told (climbed 257 n) room e h

-- 256 names under 5:5 begin with the root
pub nested-256 : path_says (nested_table 256) (last_key 256) 513 ≡ 0 ∷ 0x2E ∷ times_a 256
nested-256 =
    says 256 513 (rw (length-nested 5 256) (le_refl 256))
    (text-climbed 257 256 1 refl ∙ ap (λ (t : List ℕ). t ++ times_a 256) text-root)
    (omega (arith, length-times 256))

-- 257 names begin with UNRESOLVED(5:5)
pub nested-257 : path_says (nested_table 257) (last_key 257) 529 ≡ 0 ∷ (unresolved_word ++ (0x35 ∷ 0x3A ∷ 0x35 ∷ 0x29 ∷ times_a 257))
nested-257 =
    says 257 529 (rw (length-nested 5 257) (le_refl 257))
    (text-climbed 257 257 0 refl ∙ ap (λ (t : List ℕ). t ++ times_a 257) text-unresolved)
    (omega (arith, length-times 257))
