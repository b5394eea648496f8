-- The first code point of a name's units, by the units read. Assumes nothing.
use Prim.Native.Nat.{ℕ, suc, ◌+◌, ◌-◌, ◌*◌, ◌≤◌, ◌<◌}
use mathlib.Core.Path.{◌≡◌, ap, ◌∙◌}
use mathlib.Core.List.{List, ◌++◌}
use mathlib.Core.Bool.{true, false}
use native.Mathlib.Omega.{arith}
use lib.ListN.{length, length-append}
use Rattle.usn_record.specs.Bytes.{le_at}
use Rattle.utf16.specs.Utf16.{is_pair, joined, alone, units_at}
use Rattle.utf16.specs.Utf8.{utf8}
use Rattle.utf16.specs.Text.{decoded}
use Rattle.utf16.specs.First.{First}
use Rattle.utf16.specs.declared.code_point.CodePoint.{CodePoint}
use Rattle.utf16.proofs.Utf16Laws.{Pair, pair-units, alone-small}
use Rattle.utf16.proofs.TextLaws.{text-last, text-alone, text-pair, text-ascii}

module _ (s : List ℕ) (o : ℕ) where
  -- the text of one unit, and of more
  one_unit : decoded (units_at s o 1) ≡ utf8 (alone (le_at 2 s o)) ++ decoded (units_at s (o + 2) 0)
  unfolding units_at
  one_unit = text-last (le_at 2 s o)

  unit-alone : (n : ℕ) → is_pair (le_at 2 s o) (le_at 2 s (o + 2)) ≡ false
      → decoded (units_at s o (suc (suc n))) ≡ utf8 (alone (le_at 2 s o)) ++ decoded (units_at s (o + 2) (suc n))
  unfolding units_at
  unit-alone n e = text-alone (le_at 2 s o) (le_at 2 s (o + 2)) (units_at s (o + 2 + 2) n) e

  unit-pair : (n : ℕ) → is_pair (le_at 2 s o) (le_at 2 s (o + 2)) ≡ true
      → decoded (units_at s o (suc (suc n))) ≡ utf8 (joined (le_at 2 s o) (le_at 2 s (o + 2))) ++ decoded (units_at s (o + 4) n)
  unfolding units_at
  unit-pair n e =
      let next : o + 4 ≡ o + 2 + 2 = omega arith in
      rw next (text-pair (le_at 2 s o) (le_at 2 s (o + 2)) (units_at s (o + 2 + 2) n) e)

  unit-ascii : (n : ℕ) → le_at 2 s o < 0x80 → decoded (units_at s o (suc n)) ≡ utf8 (le_at 2 s o) ++ decoded (units_at s (o + 2) n)
  unfolding units_at
  unit-ascii n h = text-ascii (le_at 2 s o) (units_at s (o + 2) n) h

  module _ (n : ℕ) {u : ℕ} (first : u ≡ le_at 2 s o) where
    pub first-ascii : 1 ≤ n → u < 0x80 → First s o n (record { code = u; units = 1 })
    first-ascii g h =
        let count : n ≡ suc (n - 1) = omega arith in
        record {
          some = omega arith;
          within = g;
          valid = omega arith;
          text = ap (λ (k : ℕ). decoded (units_at s o k)) count ∙ unit-ascii (n - 1) (rw first at h) ∙ rw first;
        }

    pub first-last : {c : ℕ} → 1 ≤ n → n < 2 → u < 0x10000 → c ≡ alone u → First s o n (record { code = c; units = 1 })
    first-last {c} g h small e =
        let count : n ≡ 1 = omega arith in
        record {
          some = omega arith;
          within = g;
          valid = rw e (omega (arith, alone-small u small));
          text = rw (count, e, first) one_unit;
        }

    module _ {v : ℕ} (more : 2 ≤ n) (second : v ≡ le_at 2 s (o + 2)) where
      count : n ≡ suc (suc (n - 2))
      count = omega arith

      pub first_alone : {c : ℕ} → u < 0x10000 → is_pair u v ≡ false → c ≡ alone u → First s o n (record { code = c; units = 1 })
      first_alone {c} small p e =
          let less : n - 1 ≡ suc (n - 2) = omega arith in
          record {
            some = omega arith;
            within = omega arith;
            valid = rw e (omega (arith, alone-small u small));
            text = ap (λ (k : ℕ). decoded (units_at s o k)) count ∙ unit-alone (n - 2) (rw (first, second) at p) ∙ rw (less, e, first);
          }

      pub first-pair : is_pair u v ≡ true → First s o n (record { code = joined u v; units = 2 })
      first-pair p =
          let b : Pair u v = pair-units u v p in
          record {
            some = omega arith;
            within = more;
            valid = omega arith;
            text = ap (λ (k : ℕ). decoded (units_at s o k)) count ∙ unit-pair (n - 2) (rw (first, second) at p) ∙ rw (first, second);
          }

-- what is left of the text after the first code point
module _ {s : List ℕ} {o n : ℕ} {p : CodePoint} (h : First s o n p) where
  pub first-length : length (decoded (units_at s o n)) ≡ length (utf8 p.code) + length (decoded (units_at s (o + 2 * p.units) (n - p.units)))
  first-length = ap length h.text ∙ length-append (utf8 p.code) _
