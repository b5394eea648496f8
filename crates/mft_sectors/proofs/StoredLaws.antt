-- The bytes of a stored place: the ways out of the test whether it lies in an entry, how many bytes there are, that a place which meets no sector's
-- end is read as it is, and that a byte which is restored is the image's at its home. Assumes nothing.
use Prim.Native.Nat.{ℕ, zero, suc, ◌+◌, ◌-◌, ◌*◌, ◌/◌, ◌%◌, ◌≤◌, ◌<◌}
use mathlib.Core.Path.{◌≡◌, refl, ap, sym, ◌∙◌}
use mathlib.Core.List.{List, ◌++◌}
use mathlib.Core.Bool.{Bool, true, false, ◌&&◌}
use native.Mathlib.Omega.{arith}
use native.Mathlib.Nat.{div-mul-le_self, suc-mul, zero-mul}
use Rattle.std.proofs.lemmas.List.{length-take-le}
use lib.Seq.{ext_get_or}
use lib.ListN.{length, get_or, take, drop, get_or-eq_default}
use lib.Dec.{ltb, leb}
use borrow.Author.Tests.{ltb-true, ltb-false, leb-true}
use Rattle.base.specs.Lists.{overwrite}
use Rattle.base.specs.Places.{part}
use Rattle.base.specs.declared.Place.{Place}
use Rattle.base.proofs.AgreeLaws.{part_in, part_out, part_length, part-lent, part_same}
use Rattle.base.proofs.ChoiceLaws.{cond_cases, and_left, and_right}
use Rattle.usn_record.specs.Bytes.{le_at}
use Rattle.mft_sectors.specs.Signature.{has_signature}
use Rattle.mft_sectors.specs.SectorEnds.{sector, body, array_of, sound, home, restored_by, restored}
use Rattle.mft_sectors.specs.Stored.{entry_start, entry_around, in_entry, image_bytes}
use Rattle.mft_sectors.proofs.SectorLaws.{sound-says, byte-is, home-body, length-restored, restored_at, home-inside}

-- the entry begins at or before the place
pub start-before : (size i : ℕ) → entry_start size i ≤ i
start-before size i = div-mul-le_self i size

-- the entry around a place, as code lends it
abbrev lent : ℕ → List ℕ → Place → List ℕ
lent size s p = take (entry_start size p.offset + size - entry_start size p.offset) (drop (entry_start size p.offset) s)

-- what a place in an entry says
pub record Inside (size : ℕ) (s : List ℕ) (p : Place) : Type 0 where
  pub whole : entry_start size p.offset + size ≤ length s
  pub ends : p.offset + p.length ≤ entry_start size p.offset + size
  pub begins : has_signature (entry_around size s p) ≡ true
  pub array : sound (entry_around size s p) ≡ true

pub inside-says : (size : ℕ) (s : List ℕ) (p : Place) → in_entry size s p ≡ true → Inside size s p
unfolding in_entry
inside-says size s p h =
    let o = entry_start size p.offset in
    let e = entry_around size s p in
    let t1 = leb (o + size) (length s) in
    let t2 = t1 && leb (p.offset + p.length) (o + size) in
    let t3 = t2 && has_signature e in
    let e3 : t3 ≡ true = and_left t3 (sound e) h in
    let e2 : t2 ≡ true = and_left t2 (has_signature e) e3 in
    record {
      whole = leb-true _ _ (and_left t1 (leb (p.offset + p.length) (o + size)) e2);
      ends = leb-true _ _ (and_right t1 (leb (p.offset + p.length) (o + size)) e2);
      begins = and_right t2 (has_signature e) e3;
      array = and_right t3 (sound e) h;
    }

-- a place that lies in an entry: its bytes, their number, and where each is stored
module _ (size : ℕ) (s : List ℕ) (p : Place) (h : in_entry size s p ≡ true) where
  abbrev o : ℕ
  o = entry_start size p.offset

  abbrev e : List ℕ
  e = entry_around size s p

  pub from-entry : image_bytes size s p ≡ part (restored e) (p.offset - o) p.length
  unfolding image_bytes
  from-entry = simp h

  -- it is no longer than an entry
  pub place_short : p.length ≤ size
  place_short = let q = inside-says size s p h in omega (arith, q.ends, start-before size p.offset)

  entry-long : length e ≡ size
  entry-long = part_length s o size (inside-says size s p h).whole

  pub ends-in : p.offset - o + p.length ≤ length e
  ends-in = omega (arith, (inside-says size s p h).ends, start-before size p.offset, entry-long)

  pub entry-bytes : length (image_bytes size s p) ≡ p.length
  entry-bytes = ap length from-entry ∙ part_length (restored e) (p.offset - o) p.length (rw length-restored ends-in)

  pub decoded-byte : size % sector ≡ 0 → (i : ℕ) → i < p.length
      → get_or (image_bytes size s p) i 0 ≡ get_or s (o + home (array_of e).offset (p.offset - o + i)) 0
  decoded-byte sectors i u =
      let a = (array_of e).offset in
      let q = inside-says size s p h in
      let k : p.offset - o + i < length e = omega (arith, ends-in) in
      ap (λ (x : List ℕ). get_or x i 0) from-entry
      ∙ part_in (restored e) (p.offset - o) p.length i u
      ∙ restored_at a e (p.offset - o + i) k
      ∙ part_in s o size (home a (p.offset - o + i)) (omega (arith, home-inside e (rw entry-long sectors) (sound-says e q.array) (p.offset - o + i) k, entry-long))

-- how many bytes there are for a place inside the image
pub image-bytes : (size : ℕ) (s : List ℕ) (p : Place) → p.offset + p.length ≤ length s → length (image_bytes size s p) ≡ p.length
unfolding image_bytes
image-bytes size s p l = by (in_entry size s p) refl
  where
    by : (b : Bool) → in_entry size s p ≡ b → length (image_bytes size s p) ≡ p.length
    by true h = entry-bytes size s p h
    by false h = simp h (part_length s p.offset p.length l)

-- a place that lies in no entry is read as it is
pub as-stored : (size : ℕ) (s : List ℕ) (p : Place) → in_entry size s p ≡ false → image_bytes size s p ≡ part s p.offset p.length
unfolding image_bytes
as-stored size s p h = simp h

-- entries of whole sectors begin with a sector
whole-sectors : (size : ℕ) → size % sector ≡ 0 → (k : ℕ) → k * size % sector ≡ 0
whole-sectors size h zero = rw zero-mul refl
whole-sectors size h (suc k) = let g : k * size % sector ≡ 0 = whole-sectors size h k in rw (suc-mul k size) (omega arith)

-- and so is one that meets no sector's end
pub plain-bytes : (size : ℕ) → size % sector ≡ 0 → (s : List ℕ) (p : Place) → p.offset + p.length ≤ length s → p.offset % sector + p.length ≤ body
    → image_bytes size s p ≡ part s p.offset p.length
plain-bytes size sectors s p l u = by (in_entry size s p) refl
  where
    o : ℕ
    o = entry_start size p.offset

    e : List ℕ
    e = entry_around size s p

    at : in_entry size s p ≡ true → (i : ℕ) → i < p.length → get_or (restored e) (p.offset - o + i) 0 ≡ get_or s (p.offset + i) 0
    at h i k =
        let z : o % sector ≡ 0 = whole-sectors size sectors (p.offset / size) in
        let b : o ≤ p.offset = start-before size p.offset in
        let q = inside-says size s p h in
        let n : length e ≡ size = part_length s o size q.whole in
        let j : p.offset - o + i < length e = omega (arith, ends-in size s p h) in
        let w : o + (p.offset - o + i) ≡ p.offset + i = omega arith in
        restored_at (array_of e).offset e (p.offset - o + i) j
        ∙ ap (λ (m : ℕ). get_or e m 0) (home-body (array_of e).offset (p.offset - o + i) (omega arith))
        ∙ part_in s o size (p.offset - o + i) (omega arith)
        ∙ ap (λ (m : ℕ). get_or s m 0) w

    by : (b : Bool) → in_entry size s p ≡ b → image_bytes size s p ≡ part s p.offset p.length
    by true h = from-entry size s p h ∙ part_same (restored e) s (p.offset - o) p.offset p.length (rw length-restored (ends-in size s p h)) l (at h)
    by false h = as-stored size s p h

-- what is below 256 everywhere in the image is so in these bytes
abbrev Bytes : List ℕ → Type 0
Bytes s = (i : ℕ) → get_or s i 0 < 256

part_small : (s : List ℕ) (o n : ℕ) → Bytes s → Bytes (part s o n)
part_small s o n h i = by (ltb i n) refl
  where
    by : (b : Bool) → ltb i n ≡ b → get_or (part s o n) i 0 < 256
    by true f = rw (part_in s o n i (ltb-true _ _ f)) (h (o + i))
    by false f = rw (part_out s o n i (ltb-false _ _ f)) (omega arith)

restored-small : (a : ℕ) (e : List ℕ) → Bytes e → Bytes (restored_by a e)
restored-small a e h i = by (ltb i (length e)) refl
  where
    by : (b : Bool) → ltb i (length e) ≡ b → get_or (restored_by a e) i 0 < 256
    by true f = rw (restored_at a e i (ltb-true _ _ f)) (h (home a i))
    by false f =
        let k : length e ≤ i = ltb-false _ _ f in
        let l : length (restored_by a e) ≤ i = rw (length-restored a e) k in
        rw (get_or-eq_default (restored_by a e) 0 l) (omega arith)

pub image-bytes-small : (size : ℕ) (s : List ℕ) (p : Place) → ((i : ℕ) → get_or s i 0 < 256) → (i : ℕ) → get_or (image_bytes size s p) i 0 < 256
unfolding image_bytes
image-bytes-small size s p h =
    let o = entry_start size p.offset in
    let e = entry_around size s p in
    cond_cases Bytes (in_entry size s p)
    (λ _. part_small (restored e) (p.offset - o) p.length (restored-small (array_of e).offset e (part_small s o size h)))
    (λ _. part_small s p.offset p.length h)

-- what a copy of so many bytes of s leaves at the front of a lent list, by each byte
pub copied : (s : List ℕ) (from count : ℕ) (l xs : List ℕ) {n : ℕ} → from + count ≤ length s → count ≤ length l → length xs ≡ length (take count l)
    → length (take count l) ≤ n → ((j : ℕ) → j < n → get_or xs j 0 ≡ le_at 1 s (from + j)) → xs ++ drop count l ≡ overwrite l (part s from count)
copied s from count l xs h k f i g =
    let n : length (take count l) ≡ count = length-take-le count l k in
    let m : length (part s from count) ≡ count = part_length s from count h in
    let q : xs ≡ part s from count =
    ext_get_or 0 xs (part s from count) (f ∙ n ∙ sym m) (λ j u. g j (omega arith) ∙ byte-is s (from + j) ∙ sym (part_in s from count j (omega arith))) in
    rw (q, m)

-- a place in an entry, which code lends: it ends inside, and what is copied is what the place is decoded from
module _ (size : ℕ) (s : List ℕ) (p : Place) (h : in_entry size s p ≡ true) where
  pub ends-lent : {r : List ℕ} → r ≡ restored (lent size s p) → p.offset - entry_start size p.offset + p.length ≤ length r
  ends-lent f = rw (f, length-restored, part-lent s (entry_start size p.offset) size) (ends-in size s p h)

  pub restored-put : (l : List ℕ) {m r : List ℕ} → r ≡ restored (lent size s p)
      → m ≡ overwrite l (part r (p.offset - entry_start size p.offset) p.length) → m ≡ overwrite l (image_bytes size s p)
  restored-put l f g = rw (from-entry size s p h) (rw (f, part-lent s (entry_start size p.offset) size) at g)
