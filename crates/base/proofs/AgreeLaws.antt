-- Agreement of two byte lists on a range: smaller ranges, and parts. Assumes nothing.
use Prim.Native.Nat.{ℕ, ◌+◌, ◌-◌, ◌≤◌, ◌<◌}
use mathlib.Core.Path.{◌≡◌, refl, sym, ◌∙◌}
use mathlib.Core.Bool.{Bool, true, false}
use mathlib.Core.List.{List}
use native.Mathlib.Nat.{add-sub_cancel_left}
use native.Mathlib.Omega.{arith}
use lib.ListN.{length, get_or, take, drop, length-take, length-drop, get_or-eq_default}
use lib.Seq.{get_or-take, get_or-drop, ext_get_or}
use lib.Dec.{ltb}
use borrow.Author.Tests.{ltb-true, ltb-false}
use Rattle.base.specs.Places.{part}
use Rattle.base.specs.Agree.{Agree}

pub agree-in : {s t : List ℕ} {lo hi : ℕ} (lo' hi' : ℕ) → Agree s t lo hi → lo ≤ lo' → hi' ≤ hi → Agree s t lo' hi'
agree-in lo' hi' a h k = record { long = a.long; at = λ i l u. a.at i (omega arith) (omega arith) }

-- the byte at i of a part, and the length of a part that lies inside
pub part_in : (s : List ℕ) (o n i : ℕ) → i < n → get_or (part s o n) i 0 ≡ get_or s (o + i) 0
part_in s o n i h = rw (get_or-take, get_or-drop)

pub part_out : (s : List ℕ) (o n i : ℕ) → n ≤ i → get_or (part s o n) i 0 ≡ 0
part_out s o n i h = get_or-eq_default (part s o n) 0 (simp length-take (omega arith))

pub part_length : (s : List ℕ) (o n : ℕ) → o + n ≤ length s → length (part s o n) ≡ n
part_length s o n h = simp (length-take, length-drop) (omega arith)

-- the part that code lends as &s[o..e] with e = o + n
pub part-lent : (s : List ℕ) (o n : ℕ) → take (o + n - o) (drop o s) ≡ part s o n
part-lent s o n = rw add-sub_cancel_left

-- parts of two lists that have the same elements are the same
pub part_same : (s t : List ℕ) (o p n : ℕ) → o + n ≤ length s → p + n ≤ length t → ((i : ℕ) → i < n → get_or s (o + i) 0 ≡ get_or t (p + i) 0)
    → part s o n ≡ part t p n
part_same s t o p n a b h =
    let e : length (part s o n) ≡ n = part_length s o n a in
    ext_get_or 0 (part s o n) (part t p n) (e ∙ sym (part_length t p n b))
    (λ i k. let l : i < n = omega arith in part_in s o n i l ∙ h i l ∙ sym (part_in t p n i l))

-- lists that agree have parts that agree
module _ {s t : List ℕ} {lo hi : ℕ} (o n m : ℕ) (a : Agree s t lo hi) (h : lo ≤ o) (k : o + m ≤ hi) where
  inside : (i : ℕ) → i < m → (b : Bool) → ltb i n ≡ b → get_or (part t o n) i 0 ≡ get_or (part s o n) i 0
  inside i u true e =
      let x : get_or t (o + i) 0 ≡ get_or s (o + i) 0 = a.at (o + i) (omega arith) (omega arith) in
      cc (part_in t o n i (ltb-true _ _ e), part_in s o n i (ltb-true _ _ e))
  inside i u false e = cc (part_out t o n i (ltb-false _ _ e), part_out s o n i (ltb-false _ _ e))

  pub agree-part : Agree (part s o n) (part t o n) 0 m
  agree-part = record { long = simp (length-take, length-drop, a.long); at = λ i _ u. inside i u (ltb i n) refl }
