-- A text is shown from its front, one byte at a time. Assumes nothing.
use Prim.Native.Nat.{ℕ, zero, suc, ◌+◌, ◌≤◌, ◌<◌}
use mathlib.Core.Path.{◌≡◌, refl, ap, sym, ◌∙◌}
use mathlib.Core.List.{List, [], ◌∷◌, ◌++◌, map, append_assoc}
use native.Mathlib.Numerals.{add-one}
use native.Mathlib.Omega.{arith}
use lib.ListN.{length, set, get_or, take, drop, take-append-drop}
use lib.Seq.{sets}
use Rattle.base.specs.Lists.{overwrite}
use Rattle.base.proofs.ListLaws.{sets-front}
use Rattle.usn_fields.specs.Line.{shown_byte, shown_to}

pub shown-none : (l : List ℕ) → l ≡ shown_to 0 l
unfolding shown_to
shown-none [] = refl
shown-none (x ∷ l) = refl

pub shown-length : (i : ℕ) (l : List ℕ) → length (shown_to i l) ≡ length l
unfolding shown_to
shown-length zero l = refl
shown-length (suc i) [] = refl
shown-length (suc i) (x ∷ l) = ap suc (shown-length i l)

-- the next byte is still as it was, and is shown
shown-more : (i : ℕ) (l : List ℕ) → i < length l → set (shown_to i l) i (shown_byte (get_or (shown_to i l) i 0)) ≡ shown_to (suc i) l
unfolding shown_to
shown-more zero [] h = absurd (omega arith)
shown-more zero (x ∷ l) h = refl
shown-more (suc i) [] h = absurd (omega arith)
shown-more (suc i) (x ∷ l) h = ap (λ (m : List ℕ). shown_byte x ∷ m) (shown-more i l (omega (arith, h)))

-- the same as code does it: m is what the text has become, and b the byte that was found for its place
pub shown-next : (i : ℕ) (l : List ℕ) {m : List ℕ} {b : ℕ} → i < length l → m ≡ shown_to i l → b ≡ shown_byte (get_or m i 0) → set m i b ≡ shown_to (i + 1) l
shown-next i l h e f = rw (f, e) (shown-more i l h ∙ ap (λ (k : ℕ). shown_to k l) (sym (add-one i)))

shown-whole : (i : ℕ) (l : List ℕ) → length l ≤ i → shown_to i l ≡ map shown_byte l
unfolding shown_to
shown-whole zero [] h = refl
shown-whole zero (x ∷ l) h = absurd (omega arith)
shown-whole (suc i) [] h = refl
shown-whole (suc i) (x ∷ l) h = ap (λ (m : List ℕ). shown_byte x ∷ m) (shown-whole i l (omega (arith, h)))

-- a front that is shown as far as it goes, before what it left
pub shown-all : (l : List ℕ) (n : ℕ) {i : ℕ} {m : List ℕ} → m ≡ shown_to i (take n l) → length (take n l) ≤ i → m ++ drop n l ≡ shown_to n l
unfolding shown_to
shown-all l n {i} e h = rw (e ∙ shown-whole i (take n l) h) refl

pub length-shown : (l : List ℕ) → length (map shown_byte l) ≡ length l
length-shown [] = refl
length-shown (x ∷ l) = ap suc (length-shown l)

-- a text in front of the first m bytes of another, which then is shown as far as it goes
shown-over : (t l : List ℕ) → shown_to (length t) (t ++ l) ≡ map shown_byte t ++ l
unfolding shown_to
shown-over [] l = refl
shown-over (x ∷ t) l = ap (λ (m : List ℕ). shown_byte x ∷ m) (shown-over t l)

drop-rest : (n m : ℕ) (l : List ℕ) → n ≤ m → drop n (take m l) ++ drop m l ≡ drop n l
drop-rest zero m l h = take-append-drop m l
drop-rest (suc n) zero l h = absurd (omega arith)
drop-rest (suc n) (suc m) [] h = refl
drop-rest (suc n) (suc m) (x ∷ l) h = drop-rest n m l (omega (arith, h))

pub shown-front : (m : ℕ) (l t : List ℕ) → length t ≤ m → m ≤ length l → shown_to (length t) (overwrite (take m l) t ++ drop m l) ≡ sets l 0 (map shown_byte t)
shown-front m l t h k =
    ap (shown_to (length t)) (append_assoc t (drop (length t) (take m l)) (drop m l) ∙ ap (λ (r : List ℕ). t ++ r) (drop-rest (length t) m l h))
    ∙ shown-over t (drop (length t) l)
    ∙ ap (λ (k : ℕ). map shown_byte t ++ drop k l) (sym (length-shown t))
    ∙ sym (sets-front l (map shown_byte t) (omega (arith, length-shown t)))
