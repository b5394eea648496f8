-- The loop that fills a list: what was counted and written, with what is still to come, is the whole. Assumes nothing.
use Prim.Native.Nat.{ℕ, ◌+◌, ◌*◌, ◌/◌, ◌≤◌}
use mathlib.Core.Path.{◌≡◌, refl, ap, ◌∙◌}
use mathlib.Core.List.{List, [], ◌∷◌}
use native.Mathlib.Omega.{arith}
use lib.ListN.{length}
use Rattle.base.specs.Lists.{flatten, overwrite}
use Rattle.base.proofs.ListLaws.{Writing, writing-end}
use Rattle.mft_carver.specs.Entry.{Event, rejected}
use Rattle.mft_carver.specs.Carve.{entries, rejections, stats_of, entry_stride, entry_words}
use Rattle.mft_carver.specs.Step.{event_by}
use Rattle.mft_carver.specs.declared.MftCarvingStats.{MftCarvingStats}
use Rattle.mft_carver.specs.declared.step.Candidate.{Candidate}
use Rattle.mft_carver.proofs.RunLaws.{candidates-add-up}

-- counters are equal by their parts
stats-are : (x : MftCarvingStats) (size : ℕ) (es : List Event) → x.bytes_scanned ≡ size → x.candidates_examined ≡ length es
    → x.entries_carved ≡ length (entries es) → x.rejected ≡ rejections es → x ≡ stats_of size es
stats-are x size es a b c d =
    let y : MftCarvingStats =
    record {
      bytes_scanned = x.bytes_scanned;
      candidates_examined = x.candidates_examined;
      entries_carved = x.entries_carved;
      rejected = x.rejected;
    } in
    let same : y ≡ stats_of size es = rw (a, b, c, d) in
    same

-- a candidate by what it is
pub met-as : {k c : Candidate} {es rest : List Event} → es ≡ event_by k ∷ rest → k ≡ c → es ≡ event_by c ∷ rest
met-as {rest = rest} e i = e ∙ ap (λ (c : Candidate). event_by c ∷ rest) i

-- Of all candidates of a run over so many bytes those of todo are still to come: the list was l₀ and is l, and the others were counted in x.
pub record Filling (size : ℕ) (all todo : List Event) (l₀ l : List ℕ) (x : MftCarvingStats) : Type 0 where
  pub written : Writing entry_words entry_stride l₀ l (entry_stride * x.entries_carved) (entries todo) (entries all)
  pub bytes : x.bytes_scanned ≡ size
  pub candidates : x.candidates_examined + length todo ≡ length all
  pub refusals : x.rejected + rejections todo ≡ rejections all

module _ {size : ℕ} {all todo : List Event} {l₀ l : List ℕ} {x : MftCarvingStats} (f : Filling size all todo l₀ l x) where
  -- no counter is above the number of all
  pub filling-candidates : {c : Event} {rest : List Event} → todo ≡ c ∷ rest → x.candidates_examined + 1 ≤ length all
  filling-candidates e = omega (arith, f.candidates, ap length e)

  pub filling-rejections : {o : ℕ} {rest : List Event} → todo ≡ rejected o ∷ rest → x.rejected + 1 ≤ length all
  filling-rejections e = omega (arith, f.refusals, ap rejections e, candidates-add-up all)

  -- where nothing is left, the counters and the list are those of the whole
  module _ (e : todo ≡ []) where
    pub filling-counters : x ≡ stats_of size all
    filling-counters =
        stats-are x size all f.bytes
        (omega (arith, f.candidates, ap length e))
        (omega (arith, f.written.count, ap length (ap entries e)))
        (omega (arith, f.refusals, ap rejections e))

    pub filling-list : length (entries all) ≤ length l₀ / entry_stride → l ≡ overwrite l₀ (flatten entry_words (entries all))
    filling-list h = writing-end entry_words entry_stride (λ _. refl) f.written (ap entries e) h
