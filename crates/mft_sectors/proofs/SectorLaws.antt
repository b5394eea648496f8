-- The ends of an entry's sectors: the ways out of the array's tests, reads of the restored entry, and the homes of its bytes. Assumes nothing.
use Prim.Native.Nat.{ℕ, zero, suc, ◌+◌, ◌-◌, ◌*◌, ◌/◌, ◌%◌, ◌≤◌, ◌<◌}
use mathlib.Core.Path.{◌≡◌, refl, ap, sym, ◌∙◌}
use mathlib.Core.List.{List, [], ◌∷◌, ◌++◌}
use mathlib.Core.Bool.{Bool, true, false, ◌&&◌}
use native.Mathlib.Omega.{arith}
use native.Mathlib.Nat.{zero-add}
use lib.ListN.{length, get_or, get_or-eq_default}
use lib.Seq.{ext_get_or}
use lib.Dec.{ltb, leb, eqb}
use Rattle.std.specs.List.{range_with_len, list_all}
use Rattle.std.proofs.lemmas.List.Folds.{list_all-append}
use borrow.Author.Tests.{ltb-true, ltb-false, leb-true, eqb-true, lt-ltb, le-ltb, le-leb, eq-eqb}
use Rattle.base.specs.Agree.{Agree}
use Rattle.base.proofs.ChoiceLaws.{and_left, and_right}
use Rattle.base.proofs.RowLaws.{length-rows, rows_at}
use Rattle.usn_record.specs.Bytes.{le_at}
use Rattle.usn_record.proofs.ByteLaws.{read-agree, read_byte, read_past}
use Rattle.mft_sectors.specs.SectorEnds.{sector, body, array_of, ending, sound, home, restored_by}

-- what a sound array says
pub record Sound (e : List ℕ) : Type 0 where
  pub numbers : (array_of e).count ≡ length e / sector + 1
  pub even : (array_of e).offset % 2 ≡ 0
  pub begins : 48 ≤ (array_of e).offset
  pub before : (array_of e).offset + 2 * (array_of e).count ≤ le_at 2 e 20
  pub inside : (array_of e).offset + 2 * (array_of e).count ≤ body
  pub ends : ending (length e / sector) (le_at 2 e (array_of e).offset) e ≡ true

pub sound-says : (e : List ℕ) → sound e ≡ true → Sound e
unfolding sound
sound-says e h =
    let a = array_of e in
    let end = a.offset + 2 * a.count in
    let t1 = eqb a.count (length e / sector + 1) in
    let t2 = t1 && eqb (a.offset % 2) 0 in
    let t3 = t2 && leb 48 a.offset in
    let t4 = t3 && leb end (le_at 2 e 20) in
    let t5 = t4 && leb end body in
    let e5 : t5 ≡ true = and_left t5 (ending (length e / sector) (le_at 2 e a.offset) e) h in
    let e4 : t4 ≡ true = and_left t4 (leb end body) e5 in
    let e3 : t3 ≡ true = and_left t3 (leb end (le_at 2 e 20)) e4 in
    let e2 : t2 ≡ true = and_left t2 (leb 48 a.offset) e3 in
    record {
      numbers = eqb-true _ _ (and_left t1 (eqb (a.offset % 2) 0) e2);
      even = eqb-true _ _ (and_right t1 (eqb (a.offset % 2) 0) e2);
      begins = leb-true _ _ (and_right t2 (leb 48 a.offset) e3);
      before = leb-true _ _ (and_right t3 (leb end (le_at 2 e 20)) e4);
      inside = leb-true _ _ (and_right t4 (leb end body) e5);
      ends = and_right t5 (ending (length e / sector) (le_at 2 e a.offset) e) h;
    }

-- and it is what makes it sound
pub says-sound : (e : List ℕ) → Sound e → sound e ≡ true
unfolding sound
says-sound e s =
    simp (eq-eqb _ _ s.numbers, eq-eqb _ _ s.even, le-leb _ _ s.begins, le-leb _ _ s.before, le-leb _ _ s.inside, s.ends)

and-true : (b : Bool) → (b && true) ≡ b
and-true true = refl
and-true false = refl

range_more : (a n : ℕ) → range_with_len a (suc n) ≡ range_with_len a n ++ ((a + n) ∷ [])
range_more a zero = let z : a + 0 ≡ a = omega arith in rw z
range_more a (suc n) = let z : a + 1 + n ≡ a + suc n = omega arith in ap (λ (xs : List ℕ). a ∷ xs) (rw z at (range_more (a + 1) n))

-- a test of each of the first n sectors in turn
pub ending-all : (n value : ℕ) (e : List ℕ) → list_all (λ k. eqb (le_at 2 e (sector * k + body)) value) (range_with_len 0 n) ≡ ending n value e
unfolding ending
ending-all zero value e = refl
ending-all (suc n) value e =
    let test : ℕ → Bool = λ k. eqb (le_at 2 e (sector * k + body)) value in
    ap (list_all test) (range_more 0 n)
    ∙ list_all-append test (range_with_len 0 n) ((0 + n) ∷ [])
    ∙ rw (ending-all n value e, zero-add n) (ap (λ (b : Bool). ending n value e && b) (and-true (test n)))

-- a byte of the body is at home where it stands; the end of a sector is in the array
pub home-body : (a i : ℕ) → i % sector < body → home a i ≡ i
unfolding home
home-body a i h = simp (lt-ltb _ _ h)

pub home-end : (a i : ℕ) → body ≤ i % sector → home a i ≡ a + 2 * (i / sector + 1) + (i % sector - body)
unfolding home
home-end a i h = simp (le-ltb _ _ h)

-- a read of one byte, wherever it is
pub byte-is : (s : List ℕ) (o : ℕ) → le_at 1 s o ≡ get_or s o 0
byte-is s o = by (ltb o (length s)) refl
  where
    by : (b : Bool) → ltb o (length s) ≡ b → le_at 1 s o ≡ get_or s o 0
    by true f = let h : o < length s = ltb-true o (length s) f in sym (read_byte s o (omega arith))
    by false f = let h : length s ≤ o = ltb-false o (length s) f in read_past 1 s o (omega arith) ∙ sym (get_or-eq_default s 0 h)

module _ (a : ℕ) (e : List ℕ) where
  pub length-restored : length (restored_by a e) ≡ length e
  unfolding restored_by
  length-restored = length-rows (λ i. get_or e (home a i) 0) 0 (length e)

  pub restored_at : (i : ℕ) → i < length e → get_or (restored_by a e) i 0 ≡ get_or e (home a i) 0
  unfolding restored_by
  restored_at i h = rows_at (λ i. get_or e (home a i) 0) 0 (length e) i 0 h ∙ ap (λ (k : ℕ). get_or e (home a k) 0) (zero-add i)

  -- away from the ends of sectors the restored entry is the entry
  body_same : (i : ℕ) → i % sector < body → (b : Bool) → ltb i (length e) ≡ b → get_or (restored_by a e) i 0 ≡ get_or e i 0
  body_same i h true f = restored_at i (ltb-true _ _ f) ∙ ap (λ (k : ℕ). get_or e k 0) (home-body a i h)
  body_same i h false f =
      let k : length e ≤ i = ltb-false i (length e) f in
      get_or-eq_default (restored_by a e) 0 (rw length-restored k) ∙ sym (get_or-eq_default e 0 k)

  pub body-agrees : (o w : ℕ) → o % sector + w ≤ body → Agree e (restored_by a e) o (o + w)
  body-agrees o w h = record { long = length-restored; at = λ i l u. body_same i (omega arith) (ltb i (length e)) refl }

  -- so a read there is one of the entry
  pub read-body : (w o : ℕ) → o % sector + w ≤ body → le_at w e o ≡ le_at w (restored_by a e) o
  read-body w o h = sym (read-agree w o (body-agrees o w h) (omega arith) (omega arith))

  -- and a read of one byte is one of its home
  pub read-home : (i : ℕ) {h : ℕ} → i < length e → h ≡ home a i → le_at 1 e h ≡ le_at 1 (restored_by a e) i
  read-home i l f = byte-is e _ ∙ ap (λ (k : ℕ). get_or e k 0) f ∙ sym (restored_at i l) ∙ sym (byte-is (restored_by a e) i)

-- where every byte is what its home holds, nothing is restored: so for an entry whose stored and true sector ends agree
pub restored-none : (a : ℕ) (e : List ℕ) → ((i : ℕ) → i < length e → get_or e (home a i) 0 ≡ get_or e i 0) → restored_by a e ≡ e
restored-none a e h = ext_get_or 0 (restored_by a e) e (length-restored a e) (λ i l. let u : i < length e = rw length-restored at l in restored_at a e i u ∙ h i u)

-- the home of a byte of an entry with a sound array lies in the entry
pub home-inside : (e : List ℕ) → length e % sector ≡ 0 → Sound e → (i : ℕ) → i < length e → home (array_of e).offset i < length e
home-inside e whole s i u = by (ltb (i % sector) body) refl
  where
    by : (b : Bool) → ltb (i % sector) body ≡ b → home (array_of e).offset i < length e
    by true f = rw (home-body (array_of e).offset i (ltb-true _ _ f)) u
    by false f =
        let k : body ≤ i % sector = ltb-false _ _ f in
        rw (home-end (array_of e).offset i k) (omega (arith, s.inside, s.numbers))
