-- What a read puts behind the first bytes of a buffer. Assumes nothing.
use Prim.Native.Nat.{ℕ, ◌+◌, ◌-◌, ◌≤◌}
use mathlib.Core.Path.{◌≡◌, sym, ap, ◌∙◌}
use mathlib.Core.List.{List, ◌++◌}
use native.Mathlib.Omega.{arith}
use lib.ListN.{length, length-append, take, drop}
use lib.Seq.{length-take-le, take-append-add}
use Rattle.std.proofs.lemmas.List.{take-append-le}
use borrow.Rule.Slice.PartMut.{put_mid}

module _ (buffer behind : List ℕ) (n more : ℕ) (h : n ≤ length buffer) (k : more ≤ length behind) where
  abbrev after : List ℕ
  after = put_mid n (length buffer - n) buffer behind

  abbrev rest : List ℕ
  rest = drop (length buffer - n) (drop n buffer)

  pub read_fits : n + more ≤ length after
  read_fits = omega (arith, length-append (take n buffer) (behind ++ rest), length-append behind rest, length-take-le n buffer h, k)

  pub read_joins : take (n + more) after ≡ take n buffer ++ take more behind
  read_joins =
      ap (λ (j : ℕ). take (j + more) after) (sym (length-take-le n buffer h))
      ∙ take-append-add (take n buffer) (behind ++ rest) more
      ∙ ap (λ (l : List ℕ). take n buffer ++ l) (take-append-le more behind rest k)
