-- The homes of the bytes of an entry with a sound array, from its first attribute on: where they lie, that no two bytes share one, and what two
-- entries have in common that differ in the homes of a name alone. Assumes nothing.
use Prim.Native.Nat.{ℕ, zero, suc, ◌+◌, ◌-◌, ◌*◌, ◌/◌, ◌%◌, ◌≤◌, ◌<◌}
use mathlib.Core.Path.{◌≡◌, refl, sym, ◌∙◌}
use mathlib.Core.List.{List}
use mathlib.Core.Bool.{Bool, true, false}
use native.Mathlib.Omega.{arith}
use lib.ListN.{length, get_or, get_or-eq_default}
use lib.Dec.{ltb, eqb}
use borrow.Author.Tests.{ltb-true, ltb-false}
use Rattle.base.specs.Agree.{Agree}
use Rattle.base.specs.Lists.{rows}
use Rattle.base.specs.Masked.{Within, Apart}
use Rattle.base.specs.Places.{place_from}
use Rattle.base.specs.declared.Place.{Place}
use Rattle.base.proofs.ChoiceLaws.{cond_cases}
use Rattle.base.proofs.RowLaws.{apart-rows}
use Rattle.usn_record.specs.Bytes.{le_at}
use Rattle.usn_record.proofs.ByteLaws.{read-agree}
use Rattle.mft_sectors.specs.SectorEnds.{sector, body, array_of, ending, sound, home, restored_by, restored}
use Rattle.mft_sectors.specs.Homes.{homes}
use Rattle.mft_sectors.proofs.SectorLaws.{Sound, home-body, home-end, length-restored, restored_at}

-- where a home lies: past the array's first number, at no sector's end, and inside the entry
pub record Home (e : List ℕ) (h : ℕ) : Type 0 where
  pub past : (array_of e).offset + 2 ≤ h
  pub plain : h % sector < body
  pub inside : h < length e

module _ (e : List ℕ) (whole : length e % sector ≡ 0) (s : Sound e) where
  abbrev a : ℕ
  a = (array_of e).offset

  -- the home of i is i before the array's end or past it, or it lies in the array
  place : (i : ℕ) → le_at 2 e 20 ≤ i → i < length e → (b : Bool) → ltb (i % sector) body ≡ b → Home e (home a i)
  place i l u true f =
      let k : i % sector < body = ltb-true _ _ f in
      rw (home-body a i k) (record { past = omega (arith, s.before, s.numbers); plain = k; inside = u })
  place i l u false f =
      let k : body ≤ i % sector = ltb-false _ _ f in
      rw (home-end a i k) (record { past = omega arith; plain = omega (arith, s.inside, s.numbers); inside = omega (arith, s.inside, s.numbers) })

  pub home-lies : (i : ℕ) → le_at 2 e 20 ≤ i → i < length e → Home e (home a i)
  home-lies i l u = place i l u (ltb (i % sector) body) refl

  -- no two bytes have one home
  one : (i j : ℕ) → le_at 2 e 20 ≤ i → i < length e → le_at 2 e 20 ≤ j → j < length e
      → (b c : Bool) → ltb (i % sector) body ≡ b → ltb (j % sector) body ≡ c → home a i ≡ home a j → i ≡ j
  one i j l u m v true true f g h = sym (home-body a i (ltb-true _ _ f)) ∙ h ∙ home-body a j (ltb-true _ _ g)
  one i j l u m v false false f g h =
      let p : body ≤ i % sector = ltb-false _ _ f in
      let q : body ≤ j % sector = ltb-false _ _ g in
      let z = sym (home-end a i p) ∙ h ∙ home-end a j q in
      omega arith
  one i j l u m v true false f g h =
      let q : body ≤ j % sector = ltb-false _ _ g in
      let z = sym (home-body a i (ltb-true _ _ f)) ∙ h ∙ home-end a j q in
      absurd (omega (arith, s.before, s.numbers))
  one i j l u m v false true f g h =
      let p : body ≤ i % sector = ltb-false _ _ f in
      let z = sym (home-end a i p) ∙ h ∙ home-body a j (ltb-true _ _ g) in
      absurd (omega (arith, s.before, s.numbers))

  pub home-one : (i j : ℕ) → le_at 2 e 20 ≤ i → i < length e → le_at 2 e 20 ≤ j → j < length e → home a i ≡ home a j → i ≡ j
  home-one i j l u m v = one i j l u m v (ltb (i % sector) body) (ltb (j % sector) body) refl refl

-- j is no home of a byte of the place p, counted from o
pub homes-apart : (e : List ℕ) (o j : ℕ) (p : Place) → ((i : ℕ) → p.offset ≤ i → i < p.offset + p.length → o + home (array_of e).offset i ≡ j → ⊥)
    → Apart (homes e o (place_from o p)) j
unfolding rows
homes-apart e o j p h =
    cond_cases (λ (q : Place). Apart (homes e o q) j) (eqb p.length 0) (λ _. tt)
    (λ _.
    apart-rows (λ i. record { offset = o + home (array_of e).offset (i - o); length = 1 }) (o + p.offset) p.length j
    (λ k l u w. h (k - o) (omega arith) (omega arith) (omega (arith, w.from, w.to))))

-- sectors that end alike
pub ending-same : (e d : List ℕ) (n value : ℕ) → ((k : ℕ) → k < n → le_at 2 d (sector * k + body) ≡ le_at 2 e (sector * k + body))
    → ending n value d ≡ ending n value e
unfolding ending
ending-same e d zero value h = refl
ending-same e d (suc n) value h = rw (ending-same e d n value (λ k l. h k (omega arith)), h n (omega arith))

-- entries at o that differ in the homes alone of the bytes of the place p, which lies past the first attribute and inside
module _ (e d : List ℕ) (long : length d ≡ length e) (whole : length e % sector ≡ 0) (s : Sound e) (o : ℕ) (p : Place)
    (begins : le_at 2 e 20 ≤ p.offset) (ends : p.offset + p.length ≤ length e)
    (m : (i : ℕ) → Apart (homes e o (place_from o p)) (o + i) → get_or d i 0 ≡ get_or e i 0) where
  -- they agree where no home lies
  pub no-home : (i : ℕ) → (Home e i → ⊥) → get_or d i 0 ≡ get_or e i 0
  no-home i h =
      m i (homes-apart e o (o + i) p λ j l u z.
      let q : home (array_of e).offset j ≡ i = omega arith in
      h (rw q at (home-lies e whole s j (omega arith) (omega arith))))

  pub same-front : Agree e d 0 48
  same-front = record { long = long; at = λ i _ u. no-home i (λ h. omega (arith, h.past, s.begins)) }

  same-value : le_at 2 d (array_of e).offset ≡ le_at 2 e (array_of e).offset
  same-value =
      let g : Agree e d (array_of e).offset ((array_of e).offset + 2) = record { long = long; at = λ i _ u. no-home i (λ h. omega (arith, h.past)) } in
      read-agree 2 (array_of e).offset g (omega arith) (omega arith)

  same_end : (k : ℕ) → le_at 2 d (sector * k + body) ≡ le_at 2 e (sector * k + body)
  same_end k =
      let g : Agree e d (sector * k + body) (sector * k + body + 2) = record { long = long; at = λ i l u. no-home i (λ h. omega (arith, h.plain)) } in
      read-agree 2 (sector * k + body) g (omega arith) (omega arith)

  read : (w i : ℕ) → i + w ≤ 48 → le_at w d i ≡ le_at w e i
  read w i h = read-agree w i same-front (omega arith) (omega arith)

  -- so their arrays are alike
  pub same-sound : sound d ≡ sound e
  unfolding sound
  same-sound =
      rw (
        long,
        read 2 4 (omega arith),
        read 2 6 (omega arith),
        read 2 20 (omega arith),
        same-value,
        ending-same e d (length e / sector) (le_at 2 e (array_of e).offset) (λ k _. same_end k),
      )

  -- and the restored entries agree from the first attribute on outside the name
  restored-byte : (i : ℕ) → le_at 2 e 20 ≤ i → (Within p i → ⊥) → (b : Bool) → ltb i (length e) ≡ b
      → get_or (restored_by (array_of e).offset d) i 0 ≡ get_or (restored_by (array_of e).offset e) i 0
  restored-byte i l h true f =
      let u : i < length e = ltb-true _ _ f in
      restored_at (array_of e).offset d i (omega arith)
      ∙ m (home (array_of e).offset i) (homes-apart e o (o + home (array_of e).offset i) p λ j l' u' z.
      let q : home (array_of e).offset j ≡ home (array_of e).offset i = omega arith in
      let r : j ≡ i = home-one e whole s j i (omega arith) (omega arith) l u q in
      h (record { from = omega arith; to = omega arith }))
      ∙ sym (restored_at (array_of e).offset e i u)
  restored-byte i l h false f =
      let u : length e ≤ i = ltb-false _ _ f in
      get_or-eq_default (restored_by (array_of e).offset d) 0 (rw length-restored (omega arith))
      ∙ sym (get_or-eq_default (restored_by (array_of e).offset e) 0 (rw length-restored u))

  pub same-restored : (i : ℕ) → le_at 2 e 20 ≤ i → (Within p i → ⊥) → get_or (restored d) i 0 ≡ get_or (restored e) i 0
  same-restored i l h = rw (read 2 4 (omega arith)) (restored-byte i l h (ltb i (length e)) refl)
