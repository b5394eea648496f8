-- The record at an offset: a whole one is listed, the same bytes elsewhere hold the same record, and what is read of it is its fixed part
-- where it is accepted and its first 8 bytes where it is not. Assumes nothing.
use Prim.Native.Nat.{ℕ, ◌+◌, ◌*◌, ◌/◌, ◌≤◌}
use mathlib.Core.Path.{◌≡◌, refl, sym, ap, ◌∙◌}
use mathlib.Core.List.{List, [], ◌∷◌}
use mathlib.Core.Logic.{◌⊎◌, inl, inr}
use mathlib.Core.Bool.{Bool, true, false, cond, ◌&&◌, ◌||◌}
use native.Mathlib.Omega.{arith}
use lib.ListN.{length, length-take}
use lib.Dec.{ltb, eqb}
use borrow.Author.Tests.{le-ltb, ne_eqb}
use Rattle.base.specs.Outcome.{Outcome, refused, answered}
use Rattle.base.specs.Places.{part}
use Rattle.base.specs.Agree.{Agree}
use Rattle.base.specs.Refusals.{domain}
use Rattle.base.proofs.ChoiceLaws.{cond_cases, cond-two}
use Rattle.base.proofs.AgreeLaws.{agree-part, part_length}
use Rattle.usn_record.specs.Bytes.{le_at}
use Rattle.usn_record.specs.Layout.{Layout, layout_of, v2, v3}
use Rattle.usn_record.specs.Fields.{filename_of}
use Rattle.usn_record.specs.Record.{max_record, record_of, parsed, as_listed, listed}
use Rattle.usn_record.specs.Names.{fixed_of, name_past, name_at}
use Rattle.usn_record.specs.declared.UsnRecord.{UsnRecord}
use Rattle.usn_record.proofs.ByteLaws.{read-part, read-agree}
use Rattle.usn_record.proofs.RecordLaws.{accepts, FieldsInside, v2-inside, v3-inside, part-accepted, major-of}
use Rattle.usn_record.proofs.NameLaws.{fixed-low, listed-agrees}

-- a record of version 2 or 3 stands at o: n bytes, as its length field says, from its fixed part to the largest, and they end inside
pub record WholeRecord (s : List ℕ) (o n : ℕ) : Type 0 where
  pub size : n ≡ le_at 4 s o
  pub inside : o + n ≤ length s
  pub fixed : fixed_of (le_at 2 s (o + 4)) ≤ n
  pub most : n ≤ max_record
  pub version : (le_at 2 s (o + 4) ≡ 2) ⊎ (le_at 2 s (o + 4) ≡ 3)

-- the layout of a version has its fields in its fixed part
layout-inside : (v : ℕ) → FieldsInside (layout_of v)
layout-inside v = cond_cases FieldsInside (eqb v 2) (λ _. v2-inside) (λ _. v3-inside)

layout-fixed : (v : ℕ) → (layout_of v).fixed ≡ fixed_of v
layout-fixed v = by (eqb v 2)
  where
    by : (t : Bool) → ◌≡◌ {A = ℕ} (cond t v2 v3).fixed (cond t v2.fixed v3.fixed)
    by true = refl
    by false = refl

module _ {s : List ℕ} {o n : ℕ} (w : WholeRecord s o n) where
  -- its version's parser accepts it
  pub whole-parsed : parsed (layout_of (le_at 2 s (o + 4))) (part s o n) ≡ answered (record_of (layout_of (le_at 2 s (o + 4))) (part s o n))
  whole-parsed =
      let v = le_at 2 s (o + 4) in
      part-accepted (layout_of v) (layout-inside v) s o w.size w.inside (rw (layout-fixed v) w.fixed) w.most

  -- and so it is listed: taken by its offset alone, it is what the layout makes of its bytes
  pub whole-listed : listed s o ≡ answered (record_of (layout_of (le_at 2 s (o + 4))) (part s o n))
  unfolding listed
  whole-listed = by w.version
    where
      header : o + 8 ≤ length s
      header = omega (arith, w.inside, w.fixed, fixed-low (le_at 2 s (o + 4)))

      by : ((le_at 2 s (o + 4) ≡ 2) ⊎ (le_at 2 s (o + 4) ≡ 3)) → listed s o ≡ answered (record_of (layout_of (le_at 2 s (o + 4))) (part s o n))
      by (inl e) = simp (le-ltb _ _ header, sym w.size, le-ltb _ _ w.inside, e, rw e at whole-parsed)
      by (inr e) = simp (le-ltb _ _ header, sym w.size, le-ltb _ _ w.inside, e, rw e at whole-parsed)

-- the name of a record of n bytes at o, by the name's offset k and length m as they are read there
record-name : (l : Layout) → FieldsInside l → l.name_in_record ≡ false → (s : List ℕ) (o n : ℕ) → o + n ≤ length s → l.fixed ≤ n
    → {k m : ℕ} → k ≡ le_at 2 s (o + l.name_offset) → m ≡ le_at 2 s (o + l.name_length) → 2 ≤ m → k + m ≤ n
    → (record_of l (part s o n)).filename ≡ record { offset = k; length = m / 2 * 2 }
unfolding record_of filename_of
record-name l i f s o n b h ek em two e =
    simp (
      f,
      part_length s o n b,
      read-part s o n 2 l.name_offset b (omega (arith, i.name_offset)),
      sym ek,
      read-part s o n 2 l.name_length b (omega (arith, i.name_length)),
      sym em,
      le-ltb _ _ two,
      le-ltb _ _ e,
    )

name-past : (l : Layout) (s : List ℕ) (o k m : ℕ) → (record_of l s).filename ≡ record { offset = k; length = m / 2 * 2 } → fixed_of l.major ≤ k → 2 ≤ m
    → name_past o (answered (record_of l s)) ≡ record { offset = o + k; length = m / 2 * 2 } ∷ []
name-past l s o k m e f two = rw (e, major-of l s) (simp (le-ltb _ _ f, ne_eqb (m / 2 * 2) 0 (λ z. omega arith)))

-- a whole record's name that is past the fixed part, has a unit and ends inside the record
pub whole-name : {s : List ℕ} {o n : ℕ} → WholeRecord s o n → {k m : ℕ} → k ≡ le_at 2 s (o + (layout_of (le_at 2 s (o + 4))).name_offset)
    → m ≡ le_at 2 s (o + (layout_of (le_at 2 s (o + 4))).name_length) → fixed_of (le_at 2 s (o + 4)) ≤ k → 2 ≤ m → k + m ≤ n
    → name_at s o ≡ record { offset = o + k; length = m / 2 * 2 } ∷ []
unfolding name_at
whole-name {s} {o} {n} w {k} {m} ek em f two e = by w.version
  where
    by : ((le_at 2 s (o + 4) ≡ 2) ⊎ (le_at 2 s (o + 4) ≡ 3)) → name_past o (listed s o) ≡ record { offset = o + k; length = m / 2 * 2 } ∷ []
    by (inl v) =
        let is : listed s o ≡ answered (record_of v2 (part s o n)) = rw v at (whole-listed w) in
        rw is (name-past v2 (part s o n) o k m (record-name v2 v2-inside refl s o n w.inside (rw v at w.fixed) (rw v at ek) (rw v at em) two e) (rw v at f) two)
    by (inr v) =
        let is : listed s o ≡ answered (record_of v3 (part s o n)) = rw v at (whole-listed w) in
        rw is (name-past v3 (part s o n) o k m (record-name v3 v3-inside refl s o n w.inside (rw v at w.fixed) (rw v at ek) (rw v at em) two e) (rw v at f) two)

-- the same n bytes at o of s and at p of t
pub listed-moved : (s t : List ℕ) (o p : ℕ) {n : ℕ} → n ≡ le_at 4 s o → n ≡ le_at 4 t p → le_at 2 s (o + 4) ≡ le_at 2 t (p + 4)
    → o + 8 ≤ length s → p + 8 ≤ length t → o + n ≤ length s → p + n ≤ length t → part s o n ≡ part t p n → listed s o ≡ listed t p
unfolding listed
listed-moved s t o p e f v a b c d q = simp (sym e, sym f, v, le-ltb _ _ a, le-ltb _ _ b, le-ltb _ _ c, le-ltb _ _ d, q)

-- how much of a record is read, by its version and what is said of it
abbrev pub reach_of : ℕ → Outcome UsnRecord → ℕ
reach_of version (refused m) = 8
reach_of version (answered r) = fixed_of version

never : {r : UsnRecord} {m : ℕ} → ◌≡◌ {A = Outcome UsnRecord} (answered r) (refused m) → ⊥
never e = let z : ◌≡◌ {A = ℕ} 0 1 = cc in omega arith

-- a slice that is refused is refused by its length and its length field
parsed-refused : (l : Layout) {s t : List ℕ} {m : ℕ} → Agree s t 0 8 → parsed l s ≡ refused m → parsed l t ≡ parsed l s
unfolding parsed
parsed-refused l {s} {t} {m} a =
    let x : le_at 4 t 0 ≡ le_at 4 s 0 = read-agree 4 0 a (omega arith) (omega arith) in
    let R : Outcome UsnRecord → Outcome UsnRecord → Type 0 = λ p q. p ≡ refused m → q ≡ p in
    rw (a.long, x)
    (cond-two R (ltb domain (length s)) (λ _ _. refl) λ _.
    cond-two R (ltb (length s) l.fixed) (λ _ _. refl) λ _.
    cond-two R (ltb (le_at 4 s 0) l.fixed || ltb max_record (le_at 4 s 0)) (λ _ _. refl) λ _.
    cond-two R (l.length_in_slice && ltb (length s) (le_at 4 s 0)) (λ _ _. refl) λ _ e. absurd (never e))

as-refused : (l : Layout) {s t : List ℕ} {m : ℕ} → Agree s t 0 8 → (x : Outcome UsnRecord) → parsed l s ≡ x → as_listed x ≡ refused m → parsed l t ≡ x
as-refused l a (refused k) e h = parsed-refused l a e ∙ e
as-refused l a (answered r) e h = absurd (never h)

listed-refused : {s t : List ℕ} (o : ℕ) {m : ℕ} → Agree s t o (o + 8) → listed s o ≡ refused m → listed t o ≡ listed s o
unfolding listed
listed-refused {s} {t} o {m} a =
    let version = le_at 2 s (o + 4) in
    let n = le_at 4 s o in
    let x : le_at 4 t o ≡ n = read-agree 4 o a (omega arith) (omega arith) in
    let y : le_at 2 t (o + 4) ≡ version = read-agree 2 (o + 4) a (omega arith) (omega arith) in
    let b : Agree (part s o n) (part t o n) 0 8 = agree-part o n 8 a (omega arith) (omega arith) in
    let R : Outcome UsnRecord → Outcome UsnRecord → Type 0 = λ p q. p ≡ refused m → q ≡ p in
    rw (a.long, x, y)
    (cond-two R (ltb (length s) (o + 8)) (λ _ _. refl) λ _.
    cond-two R (ltb (length s) (o + n)) (λ _ _. refl) λ _.
    cond-two R (eqb version 2) (λ _ h. ap as_listed (as-refused v2 b (parsed v2 (part s o n)) refl h)) λ _.
    cond-two R (eqb version 3) (λ _ h. ap as_listed (as-refused v3 b (parsed v3 (part s o n)) refl h)) λ _ _. refl)

listed_by : {s t : List ℕ} (o : ℕ) (x : Outcome UsnRecord) → listed s o ≡ x → Agree s t o (o + reach_of (le_at 2 s (o + 4)) x) → listed t o ≡ listed s o
listed_by o (refused m) e a = listed-refused o a e
listed_by o (answered r) e a = listed-agrees o a

pub listed-reads : {s t : List ℕ} (o : ℕ) → Agree s t o (o + reach_of (le_at 2 s (o + 4)) (listed s o)) → listed t o ≡ listed s o
listed-reads {s} o a = listed_by o (listed s o) refl a

-- an accepted record has room for its version's fixed part
abbrev Fixed : ℕ → ℕ → Outcome UsnRecord → Type 0
Fixed n version (refused m) = Unit {0}
Fixed n version (answered r) = fixed_of version ≤ n

parsed-fixed : (s : List ℕ) (o n : ℕ) (l : Layout) (version : ℕ) → fixed_of version ≡ l.fixed → (x : Outcome UsnRecord) → parsed l (part s o n) ≡ x
    → Fixed n version (as_listed x)
parsed-fixed s o n l version e (refused m) q = tt
parsed-fixed s o n l version e (answered r) q = let a = (accepts l (part s o n) r q).0 in rw e (omega (arith, simp length-take at a.whole))

listed_has : (s : List ℕ) (o : ℕ) → Fixed (le_at 4 s o) (le_at 2 s (o + 4)) (listed s o)
unfolding listed
listed_has s o =
    let n = le_at 4 s o in
    let v = le_at 2 s (o + 4) in
    let P : Outcome UsnRecord → Type 0 = Fixed n v in
    cond_cases P (ltb (length s) (o + 8)) (λ _. tt) λ _.
    cond_cases P (ltb (length s) (o + n)) (λ _. tt) λ _.
    cond_cases P (eqb v 2) (λ e. parsed-fixed s o n v2 v (rw e) (parsed v2 (part s o n)) refl) λ e.
    cond_cases P (eqb v 3) (λ _. parsed-fixed s o n v3 v (rw e) (parsed v3 (part s o n)) refl) λ _. tt

pub listed-fixed : (s : List ℕ) (o : ℕ) {r : UsnRecord} → listed s o ≡ answered r → fixed_of (le_at 2 s (o + 4)) ≤ le_at 4 s o
listed-fixed s o e = rw e at (listed_has s o)
