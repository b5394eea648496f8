-- The loops over a name: what is counted or written, with the text of the units left, is the whole text. Assumes nothing.
use Prim.Native.Nat.{ℕ, zero, suc, ◌+◌, ◌-◌, ◌*◌, ◌/◌, ◌≤◌, ◌<◌}
use mathlib.Core.Path.{◌≡◌, refl, ap, sym, ◌∙◌}
use mathlib.Core.List.{List, [], ◌∷◌}
use mathlib.Core.Bool.{true}
use native.Mathlib.Omega.{arith}
use native.Mathlib.Numerals.{towards_suc}
use lib.ListN.{length, get_or, set}
use lib.Seq.{sets, length-sets}
use Rattle.base.proofs.ListLaws.{sets-append}
use Rattle.usn_record.specs.Bytes.{le_at}
use Rattle.utf16.specs.Utf16.{units_at}
use Rattle.utf16.specs.Utf8.{utf8}
use Rattle.utf16.specs.Text.{decoded, name_text}
use Rattle.utf16.specs.Ascii.{four_units, four_ascii}
use Rattle.utf16.specs.First.{First}
use Rattle.utf16.specs.declared.code_point.CodePoint.{CodePoint}
use Rattle.utf16.proofs.Utf8Laws.{utf8-one}
use Rattle.utf16.proofs.TextLaws.{text-none, name-most}
use Rattle.utf16.proofs.FirstLaws.{first-ascii, first-length}
use Rattle.utf16.proofs.PutLaws.{Put, put_as, sets_over}
use Rattle.utf16.proofs.AsciiLaws.{Four, four-units, Units, eight-units}

-- no unit is left
units-none : (s : List ℕ) (o n : ℕ) → n ≤ 0 → decoded (units_at s o n) ≡ []
unfolding units_at
units-none s o n h = let z : n ≡ 0 = omega arith in rw z text-none

-- A loop over the name of size bytes at offset has left so many units at o, and has counted sum bytes.
pub record Counting (s : List ℕ) (offset size o left sum : ℕ) : Type 0 where
  pub inside : o + 2 * left ≤ length s
  pub count : sum + length (decoded (units_at s o left)) ≡ length (name_text s offset size)

pub counting-start : (s : List ℕ) (offset size : ℕ) → offset + size ≤ length s → Counting s offset size offset (size / 2) 0
counting-start s offset size h = record { inside = omega arith; count = omega arith }

module _ {s : List ℕ} {offset size o left sum : ℕ} (w : Counting s offset size o left sum) where
  pub counting-point : {p : CodePoint} (k : ℕ) → First s o left p → k ≡ length (utf8 p.code)
      → Counting s offset size (o + 2 * p.units) (left - p.units) (sum + k)
  counting-point k h e = record { inside = omega (arith, w.inside, h.within); count = omega (arith, w.count, first-length h) }

  -- a unit of ASCII is a byte
  pub counting-ascii : {u : ℕ} → u ≡ le_at 2 s o → 0 < left → u < 0x80 → Counting s offset size (o + 2) (left - 1) (sum + 1)
  counting-ascii {u} e some h = counting-point 1 (first-ascii s o left e some h) (sym (ap length (utf8-one u h)))

  -- the count stays small
  pub counting-most : ((i : ℕ) → get_or s i 0 < 256) → sum ≤ 3 * (size / 2)
  counting-most bytes = omega (arith, w.count, name-most s bytes offset size)

  pub counting-end : left ≤ 0 → sum ≡ length (name_text s offset size)
  counting-end h = omega (arith, w.count, ap length (units-none s o left h))

-- A loop over the n units at offset has left so many at o: the text was l₀ and is l, and the next byte goes to i.
pub record Putting (s : List ℕ) (offset n : ℕ) (l₀ : List ℕ) (at : ℕ) (l : List ℕ) (o left i : ℕ) : Type 0 where
  pub inside : o + 2 * left ≤ length s
  pub same : length l ≡ length l₀
  pub count : i + length (decoded (units_at s o left)) ≡ at + length (decoded (units_at s offset n))
  pub ends : sets l i (decoded (units_at s o left)) ≡ sets l₀ at (decoded (units_at s offset n))

module _ {s : List ℕ} {offset n : ℕ} {l₀ : List ℕ} {at : ℕ} {l : List ℕ} {o left i : ℕ} (w : Putting s offset n l₀ at l o left i) where
  -- the first code point that is left has room
  pub putting-room : {p : CodePoint} → First s o left p → at + length (decoded (units_at s offset n)) ≤ length l₀ → i + length (utf8 p.code) ≤ length l
  putting-room h room = omega (arith, w.same, w.count, first-length h)

  pub putting-point : {p : CodePoint} {l' : List ℕ} {j : ℕ} → First s o left p → Put l l' i j (utf8 p.code)
      → Putting s offset n l₀ at l' (o + 2 * p.units) (left - p.units) j
  putting-point {p} h k =
      record {
        inside = omega (arith, w.inside, h.within);
        same = ap length k.text_after ∙ length-sets l i (utf8 p.code) ∙ w.same;
        count = omega (arith, w.count, k.value, first-length h);
        ends = rw (k.text_after, k.value) (sym (sets-append l i (utf8 p.code) _) ∙ ap (sets l i) (sym h.text) ∙ w.ends);
      }

  -- a unit of ASCII is a byte
  module _ {u : ℕ} (e : u ≡ le_at 2 s o) (some : 0 < left) (h : u < 0x80) where
    pub ascii-room : at + length (decoded (units_at s offset n)) ≤ length l₀ → i < length l
    ascii-room room = omega (arith, putting-room (first-ascii s o left e some h) room, ap length (utf8-one u h))

    pub putting-ascii : Putting s offset n l₀ at (set l i u) (o + 2) (left - 1) (i + 1)
    putting-ascii = putting-point (first-ascii s o left e some h) (put_as l i (utf8-one u h) (record { value = refl; text_after = refl }))

  -- a write that the text of the units left covers
  putting-over : (us : List ℕ) → length us ≤ length (decoded (units_at s o left)) → Putting s offset n l₀ at (sets l i us) o left i
  putting-over us h =
      record {
        inside = w.inside;
        same = length-sets l i us ∙ w.same;
        count = w.count;
        ends = sets_over l i us (decoded (units_at s o left)) h ∙ w.ends;
      }

  pub putting-end : left ≤ 0 → Put l₀ l at i (decoded (units_at s offset n))
  putting-end h =
      let e = units-none s o left h in
      record { value = omega (arith, w.count, ap length e); text_after = ap (sets l i) (sym e) ∙ w.ends }

-- Four units of ASCII are four bytes. A step over the first k of them may write all four: the bytes past the step are the next ones.
module _ {s : List ℕ} {offset n : ℕ} {l₀ : List ℕ} {at : ℕ} {l : List ℕ} {o left i : ℕ} (w : Putting s offset n l₀ at l o left i) where
  module _ {a b c d : ℕ} (some : 4 ≤ left) (p : (a ≡ le_at 2 s o) × (a < 0x80)) (q : (b ≡ le_at 2 s (o + 2)) × (b < 0x80))
      (r : (c ≡ le_at 2 s (o + 2 + 2)) × (c < 0x80)) (t : (d ≡ le_at 2 s (o + 2 + 2 + 2)) × (d < 0x80)) where
    one : Putting s offset n l₀ at (set l i a) (o + 2) (left - 1) (i + 1)
    one = putting-ascii w p.0 (omega arith) p.1

    two : Putting s offset n l₀ at (set (set l i a) (i + 1) b) (o + 2 + 2) (left - 1 - 1) (i + 1 + 1)
    two = putting-ascii one q.0 (omega arith) q.1

    three : Putting s offset n l₀ at (set (set (set l i a) (i + 1) b) (i + 1 + 1) c) (o + 2 + 2 + 2) (left - 1 - 1 - 1) (i + 1 + 1 + 1)
    three = putting-ascii two r.0 (omega arith) r.1

    four : Putting s offset n l₀ at (set (set (set (set l i a) (i + 1) b) (i + 1 + 1) c) (i + 1 + 1 + 1) d) (o + 2 + 2 + 2 + 2) (left - 1 - 1 - 1 - 1) (i + 1 + 1 + 1 + 1)
    four = putting-ascii three t.0 (omega arith) t.1

    ahead : (k : ℕ) → 1 ≤ k → k ≤ 4 → Putting s offset n l₀ at (sets l i (a ∷ b ∷ c ∷ d ∷ [])) (o + 2 * k) (left - k) (i + k)
    ahead zero g h = absurd (omega arith)
    ahead (suc zero) g h = simp towards_suc (simp towards_suc at (putting-over one (b ∷ c ∷ d ∷ []) (omega (arith, one.count, four.count))))
    ahead (suc (suc zero)) g h =
        let less : left - 2 ≡ left - 1 - 1 = omega arith in
        rw less (simp towards_suc (simp towards_suc at (putting-over two (c ∷ d ∷ []) (omega (arith, two.count, four.count)))))
    ahead (suc (suc (suc zero))) g h =
        let less : left - 3 ≡ left - 1 - 1 - 1 = omega arith in
        rw less (simp towards_suc (simp towards_suc at (putting-over three (d ∷ []) (omega (arith, three.count, four.count)))))
    ahead (suc (suc (suc (suc zero)))) g h =
        let less : left - 4 ≡ left - 1 - 1 - 1 - 1 = omega arith in
        rw less (simp towards_suc (simp towards_suc at four))
    ahead (suc (suc (suc (suc (suc k))))) g h = absurd (omega arith)

  -- the same for units that are read at once
  module _ {x : ℕ} (bytes : (k : ℕ) → get_or s k 0 < 256) (some : 4 ≤ left) (e : x ≡ le_at 8 s o) (h : four_ascii x ≡ true) where
    four-stored : (k : ℕ) → 1 ≤ k → k ≤ 4 → Putting s offset n l₀ at (sets l i (four_units x)) (o + 2 * k) (left - k) (i + k)
    four-stored =
        let u : Units s o x = eight-units s o bytes (omega (arith, w.inside)) e in
        let f : Four x = four-units x h in
        ahead some (u.first, f.first) (u.second, f.second) (u.third, f.third) (u.fourth, f.fourth)

    pub four-room : at + length (decoded (units_at s offset n)) ≤ length l₀ → i + 4 ≤ length l
    four-room room = omega (arith, (four-stored 4 (omega arith) (omega arith)).count, w.same)

    pub putting-four : {m : List ℕ} (k : ℕ) {rest : ℕ} → 1 ≤ k → k ≤ 4 → rest ≡ left - k → m ≡ sets l i (four_units x) → Putting s offset n l₀ at m (o + 2 * k) rest (i + k)
    putting-four k g j f p = rw (f, p) (four-stored k g j)
