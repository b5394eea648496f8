-- What a start leaves in the words of an index: nothing where it is refused, and otherwise the index of the first table. Assumes nothing.
use Prim.Native.Nat.{ℕ}
use mathlib.Core.Path.{◌≡◌}
use mathlib.Core.List.{List}
use native.Mathlib.Omega.{arith}
use lib.ListN.{length}
use Rattle.base.specs.Outcome.{Outcome, refused, answered, map_outcome}
use Rattle.entry_slots.specs.Table.{Table}
use Rattle.entry_slots.specs.Index.{heads_of, nexts_of, heads_after, nexts_after}
use Rattle.entry_table.proofs.SeedLaws.{index-then}
use Rattle.rewind.specs.Starting.{Tables, started, begun}
use Rattle.rewind.specs.Promise.{Starts, first_out, Begins}
use Rattle.std.specs.Prelude.{Result, Err}
use Rattle.base.specs.Refusals.{number_of}
use Rattle.base.specs.declared.refusal.Refusal.{Refusal}
use Rattle.rewind.specs.declared.Rewind.{Rewind}

module _ (journal image l : List ℕ) (t : Table) (words heads nexts : List ℕ) where
  refused-first : {k : ℕ} → refused k ≡ map_outcome begun (started journal image l t words) → first_out journal image l t words heads nexts ≡ refused k
  refused-first {k} e = go (started journal image l t words) e
    where
      go : (p : Outcome Tables) → refused k ≡ map_outcome begun p → map_outcome (λ (ts : Tables). ts.first) p ≡ refused k
      go (refused m) f = cc
      go (answered ts) f = let z : ◌≡◌ {A = ℕ} 0 1 = cc in absurd (omega arith)

  pub refused-begins : {k : Refusal} {s w : List ℕ} → Starts journal image l t words (Err k) s w → Begins journal image l t words heads nexts (Err k) s w heads nexts
  refused-begins c = let e = refused-first c.answer in record { start = c; heads-are = rw e; nexts-are = rw e }

  pub begun-begins : {ts : Tables} → started journal image l t words ≡ answered ts → {h₁ n₁ : List ℕ} → h₁ ≡ heads_of (length heads) t → n₁ ≡ nexts_of (length heads) t nexts
      → {p : Outcome Table} → p ≡ answered ts.first → {h n : List ℕ} → h ≡ heads_after p h₁ → n ≡ nexts_after (length h₁) p n₁
      → {r : Result Rewind Refusal} {s w : List ℕ} → Starts journal image l t words r s w → Begins journal image l t words heads nexts r s w h n
  begun-begins e eh en g x y c =
      let both = index-then (length heads) t nexts eh en g x y in
      record { start = c; heads-are = rw e both.0; nexts-are = rw e both.1 }
