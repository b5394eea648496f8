-- The text of units by their first code point, of ASCII, and its length: one to three bytes a unit. Assumes nothing.
use Prim.Native.Nat.{ℕ, zero, suc, ◌+◌, ◌*◌, ◌/◌, ◌≤◌, ◌<◌}
use mathlib.Core.Path.{◌≡◌, refl, ap, sym, ◌∙◌}
use mathlib.Core.List.{List, [], ◌∷◌, ◌++◌}
use mathlib.Core.Bool.{Bool, true, false}
use native.Mathlib.Omega.{arith}
use native.Mathlib.Nat.{add-zero}
use lib.ListN.{length, length-append, get_or, drop}
use lib.Seq.{take-append_seam}
use Rattle.base.specs.Lists.{overwrite}
use Rattle.base.specs.Places.{part}
use Rattle.usn_record.proofs.ByteLaws.{read-lt}
use Rattle.utf16.specs.Utf16.{is_pair, joined, alone, code_points, units_at}
use Rattle.utf16.specs.Utf8.{utf8}
use Rattle.utf16.specs.Text.{decoded, name_text}
use Rattle.utf16.proofs.Utf16Laws.{alone-small, points-pair, points-alone, points-below, units-length, units-part}
use Rattle.utf16.proofs.Utf8Laws.{utf8-one, utf8-four, utf8-most, utf8-small, utf8-least}

pub text-none : decoded [] ≡ []
unfolding decoded code_points
text-none = refl

-- the first code point's bytes, and then the rest's
text-first : (c : ℕ) (us rest : List ℕ) → code_points us ≡ c ∷ code_points rest → decoded us ≡ utf8 c ++ decoded rest
unfolding decoded
text-first c us rest e = rw e

pub text-last : (u : ℕ) → decoded (u ∷ []) ≡ utf8 (alone u) ++ decoded []
unfolding code_points
text-last u = text-first (alone u) (u ∷ []) [] refl

pub text-alone : (u v : ℕ) (us : List ℕ) → is_pair u v ≡ false → decoded (u ∷ (v ∷ us)) ≡ utf8 (alone u) ++ decoded (v ∷ us)
text-alone u v us e = text-first (alone u) (u ∷ (v ∷ us)) (v ∷ us) (points-alone u v us e)

pub text-pair : (u v : ℕ) (us : List ℕ) → is_pair u v ≡ true → decoded (u ∷ (v ∷ us)) ≡ utf8 (joined u v) ++ decoded us
text-pair u v us e = text-first (joined u v) (u ∷ (v ∷ us)) us (points-pair u v us e)

pub text-ascii : (u : ℕ) (us : List ℕ) → u < 0x80 → decoded (u ∷ us) ≡ utf8 u ++ decoded us
text-ascii u us h = text-first u (u ∷ us) us (points-below u us (omega arith))

-- ASCII is decoded to itself
pub decode-ascii : (us : List ℕ) → ((i : ℕ) → get_or us i 0 < 0x80) → decoded us ≡ us
decode-ascii [] h = text-none
decode-ascii (u ∷ us) h = text-ascii u us (h 0) ∙ rw (utf8-one u (h 0)) (ap (λ (bs : List ℕ). u ∷ bs) (decode-ascii us (λ i. h (suc i))))

-- at most three bytes a unit
append-most : {xs : List ℕ} (ys zs : List ℕ) {k n : ℕ} → xs ≡ ys ++ zs → length ys ≤ k → length zs ≤ n → length xs ≤ k + n
append-most ys zs e h g = omega (arith, ap length e, length-append ys zs)

alone-most : (u : ℕ) → u < 0x10000 → length (utf8 (alone u)) ≤ 3
alone-most u h = utf8-small (alone u) (alone-small u h)

pub text-most : (us : List ℕ) → ((i : ℕ) → get_or us i 0 < 0x10000) → length (decoded us) ≤ 3 * length us
text-most [] h = rw text-none (omega arith)
text-most (u ∷ []) h = append-most (utf8 (alone u)) (decoded []) {n = 0} (text-last u) (alone-most u (h 0)) (rw text-none (omega arith))
text-most (u ∷ (v ∷ us)) h = go (is_pair u v) refl (text-most us (λ i. h (suc (suc i)))) (text-most (v ∷ us) (λ i. h (suc i)))
  where
    go : (b : Bool) → is_pair u v ≡ b → length (decoded us) ≤ 3 * length us → length (decoded (v ∷ us)) ≤ 3 * suc (length us)
        → length (decoded (u ∷ (v ∷ us))) ≤ 3 * suc (suc (length us))
    go true e g k = omega (arith, append-most (utf8 (joined u v)) (decoded us) (text-pair u v us e) (utf8-most (joined u v)) g)
    go false e g k = omega (arith, append-most (utf8 (alone u)) (decoded (v ∷ us)) (text-alone u v us e) (alone-most u (h 0)) k)

-- at least one byte a unit
append-least : {xs : List ℕ} (ys zs : List ℕ) {k n : ℕ} → xs ≡ ys ++ zs → k ≤ length ys → n ≤ length zs → k + n ≤ length xs
append-least ys zs e h g = omega (arith, ap length e, length-append ys zs)

pair-least : (u v : ℕ) → 2 ≤ length (utf8 (joined u v))
pair-least u v = omega (arith, ap length (utf8-four (joined u v) (omega arith)))

pub text-least : (us : List ℕ) → length us ≤ length (decoded us)
text-least [] = omega arith
text-least (u ∷ []) = append-least (utf8 (alone u)) (decoded []) {n = 0} (text-last u) (utf8-least (alone u)) (omega arith)
text-least (u ∷ (v ∷ us)) = go (is_pair u v) refl (text-least us) (text-least (v ∷ us))
  where
    go : (b : Bool) → is_pair u v ≡ b → length us ≤ length (decoded us) → suc (length us) ≤ length (decoded (v ∷ us))
        → suc (suc (length us)) ≤ length (decoded (u ∷ (v ∷ us)))
    go true e g k = omega (arith, append-least (utf8 (joined u v)) (decoded us) (text-pair u v us e) (pair-least u v) g)
    go false e g k = omega (arith, append-least (utf8 (alone u)) (decoded (v ∷ us)) (text-alone u v us e) (utf8-least (alone u)) k)

pub name-least : (s : List ℕ) (o n : ℕ) → n / 2 ≤ length (name_text s o n)
name-least s o n = rw (units-length s o (n / 2)) at (text-least (units_at s o (n / 2)))

-- units of bytes are below 10000h
pub units_small : (s : List ℕ) → ((i : ℕ) → get_or s i 0 < 256) → (o n i : ℕ) → get_or (units_at s o n) i 0 < 0x10000
unfolding units_at
units_small s b o zero i = omega arith
units_small s b o (suc n) zero = read-lt 2 s o b
units_small s b o (suc n) (suc i) = units_small s b (o + 2) n i

pub name-most : (s : List ℕ) → ((i : ℕ) → get_or s i 0 < 256) → (o n : ℕ) → length (name_text s o n) ≤ 3 * (n / 2)
name-most s b o n = rw (units-length s o (n / 2)) at (text-most (units_at s o (n / 2)) (units_small s b o (n / 2)))

pub name-room : (s : List ℕ) → ((i : ℕ) → get_or s i 0 < 256) → (o n room : ℕ) → 3 * (n / 2) ≤ room → length (name_text s o n) ≤ room
name-room s b o n room h = omega (arith, name-most s b o n)

-- the name at the front of a part is the whole's
pub name-part : (s : List ℕ) (o n : ℕ) → o + n ≤ length s → name_text (part s o n) 0 n ≡ name_text s o n
name-part s o n h = ap decoded (units-part s o n 0 (n / 2) h (omega arith) ∙ ap (λ (m : ℕ). units_at s m (n / 2)) (add-zero o))

-- and that of bytes written over the front of a list is theirs
pub name-front : (l vs : List ℕ) (n : ℕ) → length vs ≡ n → name_text (overwrite l vs) 0 n ≡ name_text vs 0 n
name-front l vs n e =
    let m : List ℕ = overwrite l vs in
    let g : part m 0 n ≡ vs = rw (← e) (take-append_seam vs (drop (length vs) l)) in
    sym (name-part m 0 n (omega (arith, length-append vs (drop (length vs) l), e))) ∙ ap (λ (s : List ℕ). name_text s 0 n) g
