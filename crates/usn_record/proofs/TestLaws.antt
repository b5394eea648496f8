-- Whether a record is listed, by its length and version alone: the part that its parser is handed is as long as its length field, so only the
-- tests of that length can refuse it. Holds of any layout. Assumes nothing.
use Prim.Native.Nat.{ℕ, ◌+◌, ◌-◌, ◌≤◌}
use mathlib.Core.Path.{◌≡◌, refl, sym, ap, ◌∙◌}
use mathlib.Core.List.{List}
use mathlib.Core.Bool.{Bool, true, false, true≢false}
use native.Mathlib.Omega.{arith}
use lib.ListN.{length, take, drop}
use lib.Dec.{leb}
use borrow.Author.Tests.{le-leb, leb-true}
use Rattle.base.specs.Outcome.{Outcome, refused, answered}
use Rattle.base.specs.Places.{part}
use Rattle.base.proofs.ChoiceLaws.{and_left, and_right}
use Rattle.base.proofs.AgreeLaws.{part_length, part-lent}
use Rattle.usn_record.specs.Bytes.{le_at}
use Rattle.usn_record.specs.Layout.{Layout}
use Rattle.usn_record.specs.Record.{max_record, parsed, as_listed, listed, is_answered, fits_record}
use Rattle.usn_record.specs.declared.UsnRecord.{UsnRecord}
use Rattle.usn_record.proofs.RecordLaws.{Accepts, accepts, accepted, FieldsInside, part-length-field, part-accepts}

-- a refusal's number does not matter
answered-listed : (x : Outcome UsnRecord) → is_answered (as_listed x) ≡ is_answered x
answered-listed (refused m) = refl
answered-listed (answered r) = refl

module _ (l : Layout) (k : FieldsInside l) (s : List ℕ) (o : ℕ) {n : ℕ} (e : n ≡ le_at 4 s o) (b : o + n ≤ length s) where
  fits-accepts : fits_record l.fixed n ≡ true → Accepts l (part s o n)
  unfolding fits_record
  fits-accepts h =
      part-accepts l k s o e b (leb-true _ _ (and_left (leb l.fixed n) (leb n max_record) h))
      (leb-true _ _ (and_right (leb l.fixed n) (leb n max_record) h))

  accepts-fits : Accepts l (part s o n) → fits_record l.fixed n ≡ true
  unfolding fits_record
  accepts-fits h =
      let f : l.fixed ≤ n = omega (arith, part_length s o n b, h.whole) in
      let m : n ≤ max_record = omega (arith, part-length-field l k s o e b f, h.most) in
      simp (le-leb _ _ f, le-leb _ _ m)

  parsed-tested : (x : Outcome UsnRecord) → parsed l (part s o n) ≡ x → (r : Bool) → r ≡ fits_record l.fixed n → r ≡ is_answered x
  parsed-tested (answered u) p true q = refl
  parsed-tested (answered u) p false q = absurd (true≢false (sym (accepts-fits (accepts l (part s o n) u p).0) ∙ sym q))
  parsed-tested (refused m) p true q =
      absurd (let h = accepted l (part s o n) (fits-accepts (sym q)) ∙ p in let z : ◌≡◌ {A = ℕ} 0 1 = cc in omega arith)
  parsed-tested (refused m) p false q = refl

  -- so a test of the length tells whether a record is listed where its version has this layout
  pub fits-tested : {r : Bool} → r ≡ fits_record l.fixed n → as_listed (parsed l (take (o + n - o) (drop o s))) ≡ listed s o
      → r ≡ is_answered (listed s o)
  fits-tested {r} q p =
      parsed-tested (parsed l (part s o n)) refl r q ∙ sym (answered-listed (parsed l (part s o n)))
      ∙ ap (λ t. is_answered (as_listed (parsed l t))) (sym (part-lent s o n)) ∙ ap is_answered p
