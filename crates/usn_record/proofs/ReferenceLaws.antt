-- The references at an offset as they are read for each version, and past the end; those of a listed record are its own. Assumes nothing.
use Prim.Native.Nat.{ℕ, ◌+◌, ◌*◌, ◌^◌, ◌≤◌}
use mathlib.Core.Path.{◌≡◌, refl, sym, ap, ◌∙◌}
use mathlib.Core.List.{List}
use mathlib.Core.Bool.{cond, false}
use native.Mathlib.Omega.{arith}
use lib.ListN.{length}
use lib.Dec.{ltb, eqb}
use borrow.Author.Tests.{ne_eqb, ltb-false}
use Rattle.base.specs.Outcome.{Outcome, refused, answered}
use Rattle.base.specs.Places.{part}
use Rattle.base.proofs.ChoiceLaws.{cond_cases}
use Rattle.base.proofs.AgreeLaws.{part_length}
use Rattle.usn_record.specs.Bytes.{le_at}
use Rattle.usn_record.specs.Layout.{Layout, v2, v3}
use Rattle.usn_record.specs.Fields.{reference_of}
use Rattle.usn_record.specs.Record.{record_of, parsed, as_listed, listed}
use Rattle.usn_record.specs.References.{references_by, references_at, references_of}
use Rattle.usn_record.specs.declared.UsnRecord.{UsnRecord}
use Rattle.usn_record.specs.declared.fields.Reference.{Reference}
use Rattle.usn_record.specs.declared.references.References.{References}
use Rattle.usn_record.proofs.ByteLaws.{read_past, read-part}
use Rattle.usn_record.proofs.RecordLaws.{accepts, FieldsInside, v2-inside, v3-inside}

-- by the version that was read there
module _ (s : List ℕ) (o : ℕ) {v : ℕ} (e : v ≡ le_at 2 s (o + 4)) {x : References} where
  pub references-v2 : v ≡ 2 → x ≡ references_by v2 s o → x ≡ references_at s o
  unfolding references_at
  references-v2 h f = f ∙ simp (sym e, h)

  pub references-v3 : (v ≡ 2 → ⊥) → x ≡ references_by v3 s o → x ≡ references_at s o
  unfolding references_at
  references-v3 h f = f ∙ simp (sym e, ne_eqb v 2 h)

module _ (s : List ℕ) (o : ℕ) {a b : Reference} where
  pub references-read : (l : Layout) → a ≡ reference_of l.sequenced (le_at l.reference s (o + l.file)) → b ≡ reference_of l.sequenced (le_at l.reference s (o + l.parent))
      → ◌≡◌ {A = References} (record { file = a; parent = b }) (references_by l s o)
  unfolding references_by
  references-read l e f = rw (e, f)

  pub read-nothing : length s ≤ o → a ≡ reference_of false (0 + 0 * 2 ^ 64) → b ≡ reference_of false (0 + 0 * 2 ^ 64)
      → ◌≡◌ {A = References} (record { file = a; parent = b }) (references_at s o)
  unfolding references_at references_by
  read-nothing h ea eb =
      simp (read_past 2 s (o + 4) (omega arith), read_past 16 s (o + 8) (omega arith), read_past 16 s (o + 24) (omega arith), ea, eb)

-- the references at o of s are those of the record, where there is one
module _ (s : List ℕ) (o : ℕ) where
  abbrev Has : References → Outcome UsnRecord → Type 0
  Has a x = (r : UsnRecord) → x ≡ answered r → a ≡ references_of r

  has-none : (a : References) (n : ℕ) → Has a (refused n)
  has-none a n r e = absurd (let z : ◌≡◌ {A = ℕ} 0 1 = cc in omega arith)

  part-references : (l : Layout) → FieldsInside l → (n : ℕ) → o + n ≤ length s → l.fixed ≤ n → references_by l s o ≡ references_of (record_of l (part s o n))
  unfolding references_by record_of
  part-references l i n b f =
      rw (read-part s o n l.reference l.file b (omega (arith, i.file)), read-part s o n l.reference l.parent b (omega (arith, i.parent)))

  parsed-references : (l : Layout) → FieldsInside l → (n : ℕ) → o + n ≤ length s → (x : Outcome UsnRecord) → parsed l (part s o n) ≡ x
      → Has (references_by l s o) (as_listed x)
  parsed-references l i n b (refused m) e = has-none (references_by l s o) _
  parsed-references l i n b (answered r) e = λ q h.
      let a = accepts l (part s o n) r e in
      let y : r ≡ q = cc in
      part-references l i n b (omega (arith, part_length s o n b, a.0.whole)) ∙ ap references_of (sym a.1 ∙ y)

  pub listed-references : (r : UsnRecord) → listed s o ≡ answered r → references_at s o ≡ references_of r
  unfolding listed references_at
  listed-references =
      let n = le_at 4 s o in
      let v = le_at 2 s (o + 4) in
      let P : Outcome UsnRecord → Type 0 = Has (references_by (cond (eqb v 2) v2 v3) s o) in
      cond_cases P (ltb (length s) (o + 8)) (λ _. has-none _ _) λ _.
      cond_cases P (ltb (length s) (o + n)) (λ _. has-none _ _) λ b.
      cond_cases P (eqb v 2) (λ e. rw e (parsed-references v2 v2-inside n (ltb-false _ _ b) (parsed v2 (part s o n)) refl)) λ e.
      cond_cases P (eqb v 3) (λ _. rw e (parsed-references v3 v3-inside n (ltb-false _ _ b) (parsed v3 (part s o n)) refl)) λ _. has-none _ _
