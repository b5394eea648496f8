-- The numbers of a line, one part written after the other. Assumes nothing.
use Prim.Native.Nat.{ℕ, ◌≤◌}
use mathlib.Core.Path.{◌≡◌}
use mathlib.Core.List.{List, ◌++◌}
use native.Mathlib.Omega.{arith}
use lib.ListN.{length}
use lib.Seq.{sets}
use lib.IntN.{ℤ}
use Rattle.usn_record.specs.declared.UsnRecord.{UsnRecord}
use Rattle.utf16.proofs.PutLaws.{Put, put_then}
use Rattle.usn_fields.specs.Line.{pair, signed_field, hex_field, numbers}
use Rattle.usn_fields.proofs.FieldLaws.{Filled, put-of}

-- one part, and then the others
after : (k : ℕ) (l : List ℕ) (i : ℕ) (us vs : List ℕ) {m o : List ℕ} {r q : ℕ} → Filled k l m i r us → Put m o r q vs → Put l o i q (us ++ vs)
after k l i us vs f p = put_then l i us vs (put-of k l i us f) p

-- a signed number arrives as its bits, read back
pub numbers-put : (l : List ℕ) (offset : ℕ) (r : UsnRecord) {z : ℤ} {m₁ m₂ m₃ m₄ m₅ m₆ : List ℕ} {q₁ q₂ q₃ q₄ q₅ q₆ : ℕ}
    → Filled 42 l m₁ 0 q₁ (pair offset r.major_version)
    → Filled 42 m₁ m₂ q₁ q₂ (pair r.mft_entry r.mft_sequence)
    → Filled 42 m₂ m₃ q₂ q₃ (pair r.parent_mft_entry r.parent_mft_sequence)
    → z ≡ r.usn → Filled 22 m₃ m₄ q₃ q₄ (signed_field z)
    → Filled 42 m₄ m₅ q₄ q₅ (pair r.timestamp.seconds r.timestamp.nanoseconds)
    → Filled 9 m₅ m₆ q₅ q₆ (hex_field r.reason)
    → record { value : q₆ ≡ length (numbers offset r); text_after : m₆ ≡ sets l 0 (numbers offset r); upper_bound : q₆ ≤ 199 }
unfolding numbers
numbers-put l offset r {z} {m₁} {m₂} {m₃} {m₄} {m₅} {m₆} {q₁} {q₂} {q₃} {q₄} {q₅} {q₆} a b c e d f g =
    let time = pair r.timestamp.seconds r.timestamp.nanoseconds in
    let reason = hex_field r.reason in
    let usn = signed_field r.usn in
    let parent = pair r.parent_mft_entry r.parent_mft_sequence in
    let file = pair r.mft_entry r.mft_sequence in
    let d' : Filled 22 m₃ m₄ q₃ q₄ usn = rw e at d in
    let p : Put l m₆ 0 q₆ (numbers offset r) =
    after 42 l 0 (pair offset r.major_version) (file ++ (parent ++ (usn ++ (time ++ reason)))) a
    (after 42 m₁ q₁ file (parent ++ (usn ++ (time ++ reason))) b
    (after 42 m₂ q₂ parent (usn ++ (time ++ reason)) c
    (after 22 m₃ q₃ usn (time ++ reason) d'
    (after 42 m₄ q₄ time reason f (put-of 9 m₅ q₅ reason g))))) in
    record {
      value = omega (arith, p.value);
      text_after = p.text_after;
      upper_bound = omega (arith, a.upper_bound, b.upper_bound, c.upper_bound, d.upper_bound, f.upper_bound, g.upper_bound);
    }
