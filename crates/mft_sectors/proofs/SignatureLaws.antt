-- The signature, byte by byte: the ways out of its test, and that entries which agree at their front have it alike. Assumes nothing.
use Prim.Native.Nat.{ℕ, ◌+◌, ◌≤◌}
use mathlib.Core.Path.{◌≡◌, refl}
use mathlib.Core.List.{List, [], ◌∷◌}
use lib.ListN.{get_or}
use Rattle.std.specs.List.{starts_with}
use mathlib.Core.Bool.{true, ◌&&◌}
use native.Mathlib.Omega.{arith}
use lib.Dec.{eqb}
use Rattle.std.proofs.lemmas.Bool.Decides.{nat_tests}
use Rattle.base.specs.Agree.{Agree}
use Rattle.usn_record.specs.Bytes.{le_at}
use Rattle.usn_record.proofs.ByteLaws.{read-agree}
use Rattle.mft_sectors.specs.Signature.{signature, has_signature}
use Rattle.mft_sectors.specs.SectorEnds.{restored_by}
use Rattle.mft_sectors.proofs.SectorLaws.{byte-is, read-body}

flip : (a b : ℕ) → eqb a b ≡ eqb b a
flip a b = grind (arith, nat_tests)

-- a slice that starts with the signature's bytes
pub signature_starts : (e : List ℕ) → starts_with eqb e signature ≡ has_signature e
unfolding has_signature
signature_starts e = rw (byte-is e 0, byte-is e 1, byte-is e 2, byte-is e 3) (by e)
  where
    by : (e : List ℕ) → starts_with eqb e signature ≡ (eqb (get_or e 0 0) 0x46 && (eqb (get_or e 1 0) 0x49 && (eqb (get_or e 2 0) 0x4C && (eqb (get_or e 3 0) 0x45 && true))))
    by [] = refl
    by (a ∷ []) = cc (flip 0x46 a)
    by (a ∷ (b ∷ [])) = cc (flip 0x46 a, flip 0x49 b)
    by (a ∷ (b ∷ (c ∷ []))) = cc (flip 0x46 a, flip 0x49 b, flip 0x4C c)
    by (a ∷ (b ∷ (c ∷ (d ∷ rest)))) = cc (flip 0x46 a, flip 0x49 b, flip 0x4C c, flip 0x45 d)

-- entries with the same first bytes
pub signature-same : (e d : List ℕ) (n : ℕ) → 4 ≤ n → Agree e d 0 n → has_signature d ≡ has_signature e
unfolding has_signature
signature-same e d n k g =
    let read : (i : ℕ) → i + 1 ≤ 4 → le_at 1 d i ≡ le_at 1 e i = λ i h. read-agree 1 i g (omega arith) (omega arith) in
    rw (read 0 (omega arith), read 1 (omega arith), read 2 (omega arith), read 3 (omega arith))

-- the restored entry has the entry's signature
pub signature-restored : (a : ℕ) (e : List ℕ) → has_signature (restored_by a e) ≡ has_signature e
unfolding has_signature
signature-restored a e = cc (read-body a e 1 0 (omega arith), read-body a e 1 1 (omega arith), read-body a e 1 2 (omega arith), read-body a e 1 3 (omega arith))
