-- Laws of a record's fields: a reference from its halves, and where a name lies. Assumes nothing.
use Prim.Native.Nat.{ℕ, ◌+◌, ◌*◌, ◌/◌, ◌%◌, ◌^◌, ◌≤◌, ◌<◌}
use mathlib.Core.Path.{◌≡◌, refl, sym, ap, ◌∙◌}
use mathlib.Core.List.{List}
use mathlib.Core.Bool.{Bool, true, false, cond, ◌||◌}
use native.Mathlib.Nat.{add-zero}
use native.Mathlib.Omega.{arith}
use lib.ListN.{length}
use lib.Dec.{ltb}
use borrow.Author.Tests.{ltb-false}
use Rattle.base.specs.declared.Place.{Place}
use Rattle.base.proofs.ChoiceLaws.{cond_cases, or_right}
use Rattle.usn_record.specs.Bytes.{le_at}
use Rattle.usn_record.specs.Fields.{reference_of, filename_of}
use Rattle.usn_record.specs.declared.fields.Reference.{Reference}
use Rattle.usn_record.proofs.ByteLaws.{read_join, read_past}

-- a reference put together from its halves
module _ (low high : ℕ) (h : low < 2 ^ 64) where
  entry-half : low % 2 ^ 48 ≡ (low + high * 2 ^ 64) % 2 ^ 48
  entry-half = omega arith

  sequence-half : low / 2 ^ 48 ≡ (low + high * 2 ^ 64) / 2 ^ 48 % 2 ^ 16
  sequence-half = omega arith

  high_half : high ≡ (low + high * 2 ^ 64) / 2 ^ 64
  high_half = omega arith

  pub sequenced-halves : {q : Bool} → q ≡ true
      → ◌≡◌ {A = Reference} (record { entry = low % 2 ^ 48; sequence = low / 2 ^ 48; high = high }) (reference_of q (low + high * 2 ^ 64))
  unfolding reference_of
  sequenced-halves e = rw e (cc (entry-half, sequence-half, high_half))

  pub plain-halves : {q : Bool} → q ≡ false
      → ◌≡◌ {A = Reference} (record { entry = low % 2 ^ 48; sequence = 0; high = high }) (reference_of q (low + high * 2 ^ 64))
  unfolding reference_of
  plain-halves e = rw e (cc (entry-half, high_half))

-- the reference that two reads of 8 bytes spell where it is 16 bytes wide and inside, none where it runs past the end, and one where it is not wide
module _ (s : List ℕ) (o : ℕ) {a : ℕ} (ea : a ≡ le_at 8 s o) {r : Reference} (q : Bool) {w : Bool} where
  pub wide-reference : w ≡ true → o + 16 ≤ length s → {b : ℕ} → b ≡ le_at 8 s (o + 8) → r ≡ reference_of q (a + b * 2 ^ 64)
      → r ≡ reference_of q (le_at (cond w 16 8) s o)
  wide-reference ew h eb e = e ∙ ap (reference_of q) (read_join 8 s o h ea eb ∙ rw ew)

  pub past-reference : w ≡ true → length s < o + 16 → r ≡ reference_of q (0 + 0 * 2 ^ 64) → r ≡ reference_of q (le_at (cond w 16 8) s o)
  past-reference ew h e = e ∙ ap (reference_of q) (sym (read_past 16 s o h) ∙ rw ew)

  pub narrow-reference : w ≡ false → r ≡ reference_of q (a + 0 * 2 ^ 64) → r ≡ reference_of q (le_at (cond w 16 8) s o)
  narrow-reference ew e = e ∙ ap (reference_of q) (add-zero a ∙ ea ∙ rw ew)

-- a name: empty at 0, or of an even length at least 2, at its offset, and inside
abbrev pub NameAt : ℕ → ℕ → Place → Type 0
NameAt end o p = (p.offset + p.length ≤ end) × (p.length % 2 ≡ 0) × (0 < p.length → p.offset ≡ o)

pub filename-lies : (end o n : ℕ) → NameAt end o (filename_of end o n)
unfolding filename_of
filename-lies end o n =
    cond_cases (NameAt end o) (ltb n 2 || ltb end (o + n)) (λ _. (omega arith, refl, λ h. absurd (omega arith)))
    (λ e. (omega (arith, ltb-false end (o + n) (or_right (ltb n 2) (ltb end (o + n)) e)), omega arith, λ _. refl))
