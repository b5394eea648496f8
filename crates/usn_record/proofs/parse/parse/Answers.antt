-- Each refusal by the tests that led to it; the record is put together from what its reads gave.
use borrow.Author.Rules.{sfits_of}
use native.Mathlib.Omega.{arith}
use mathlib.Core.Path.{sym, ap, ◌∙◌}
use mathlib.Core.Bool.{true≢false}
use mir.Syntax.{w64}
use mir.ValLaws.{to_z-of_z}
use Rattle.base.specs.Outcome.{answered}
use Rattle.usn_record.proofs.RecordLaws.{refused-above-domain, refused-short-slice, refused-below-fixed, refused-above-most, refused-past-slice, accepted, assembled}
use Rattle.usn_record.proofs.parse.parse.Goals as goal
use Rattle.usn_record.proofs.parse.parse.Goals.{else-LENGTH_IN_SLICE-via-then-LENGTH_IN_SLICE+else-size-length, else-LENGTH_IN_SLICE-via-else-LENGTH_IN_SLICE}

pub returns-then-size-gt-DOMAIN : goal.returns-then-size-gt-DOMAIN
returns-then-size-gt-DOMAIN g c = refused-above-domain _ _ (omega arith)

pub returns-then-size-fixed : goal.returns-then-size-fixed
returns-then-size-fixed g c = rw g.V.Version.is_made (refused-short-slice _ _ (omega arith) (omega arith))

pub returns-then-length-fixed : goal.returns-then-length-fixed
returns-then-length-fixed g c = rw g.V.Version.is_made (refused-below-fixed _ _ (omega arith) (omega arith) (omega arith))

pub returns-then-length-gt-USN_MAX_RECORD_SIZE : goal.returns-then-length-gt-USN_MAX_RECORD_SIZE
returns-then-length-gt-USN_MAX_RECORD_SIZE g c = rw g.V.Version.is_made (refused-above-most _ _ (omega arith) (omega arith) (omega arith) (omega arith))

pub returns-then-size-length : goal.returns-then-size-length
returns-then-size-length g c = rw g.V.Version.is_made (refused-past-slice _ _ (omega arith) (omega arith) (omega arith) (omega arith) (sym c.LENGTH_IN_SLICE.ensures ∙ c.if-LENGTH_IN_SLICE.true) (omega arith))

pub returns : goal.returns
returns g c = rw (g.V.Version.is_made, ← c.PARENT_REFERENCE.ensures, ← c.USN-tail.ensures, ← c.LENGTH_IN_SLICE.ensures, ← c.MAJOR.ensures)
    (ap answered
    (assembled _ _
    c.le_u32-record_length.ensures
    c.read_reference-file.ensures
    c.read_reference-above.ensures
    c.le_u64-time.ensures
    c.le_u64.ensures
    c.signed.ensures
    (to_z-of_z w64 _ (sfits_of c.signed.type_inv))
    c.filetime_to_timestamp.ensures
    c.le_u32.ensures
    c.le_u16.ensures
    c.le_u16-2.ensures
    c.filename_place.ensures
    c.le_u32-2.ensures
    c.le_u32-3.ensures
    c.le_u32-4.ensures
    c.le_u16-3.ensures
    c.signed-2.ensures
    (to_z-of_z w64 _ (sfits_of c.signed-2.type_inv)))
    ∙ accepted _ _
    (record {
      small = omega arith;
      whole = omega arith;
      least = omega arith;
      most = omega arith;
      held = λ k. elim c.else-LENGTH_IN_SLICE.branch [ else-LENGTH_IN_SLICE-via-then-LENGTH_IN_SLICE+else-size-length w ↦ omega arith | else-LENGTH_IN_SLICE-via-else-LENGTH_IN_SLICE w ↦ absurd (true≢false (sym k ∙ w.if-LENGTH_IN_SLICE.false)) ];
    }))
