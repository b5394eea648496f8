-- The loop that fills a list: what was counted and written, with what is still to come, is the whole. Assumes nothing.
use Prim.Native.Nat.{ℕ, ◌+◌, ◌*◌, ◌/◌, ◌≤◌}
use mathlib.Core.Path.{◌≡◌, refl, ap, ◌∙◌}
use mathlib.Core.List.{List, [], ◌∷◌}
use native.Mathlib.Omega.{arith}
use lib.ListN.{length}
use Rattle.base.specs.Lists.{flatten, overwrite, place_words}
use Rattle.base.proofs.ListLaws.{Writing, writing-end}
use Rattle.usn_carver.specs.Events.{structure, time, Event, rejected, records, structures, times, stats_of}
use Rattle.usn_carver.specs.Step.{event_by, event_of}
use Rattle.usn_carver.specs.declared.CarvingStats.{CarvingStats}
use Rattle.usn_carver.specs.declared.step.Candidate.{Candidate}
use Rattle.usn_carver.specs.declared.step.Fate.{Fate}
use Rattle.usn_carver.proofs.RunLaws.{candidates-add-up}

-- counters are equal by their parts
stats-are : (x : CarvingStats) (size : ℕ) (es : List Event) → x.bytes_scanned ≡ size → x.candidates_examined ≡ length es
    → x.records_carved ≡ length (records es) → x.rejected_timestamp ≡ times es → x.rejected_structure ≡ structures es → x ≡ stats_of size es
stats-are x size es a b c d e =
    let y : CarvingStats =
    record {
      bytes_scanned = x.bytes_scanned;
      candidates_examined = x.candidates_examined;
      records_carved = x.records_carved;
      rejected_timestamp = x.rejected_timestamp;
      rejected_structure = x.rejected_structure;
    } in
    let same : y ≡ stats_of size es = rw (a, b, c, d, e) in
    same

-- a candidate by its fate
pub met-as : (k : Candidate) {f : Fate} {es rest : List Event} → es ≡ event_of k ∷ rest → k.fate ≡ f → es ≡ event_by k.offset k.version f ∷ rest
met-as k {rest = rest} e i = e ∙ ap (λ (f : Fate). event_by k.offset k.version f ∷ rest) i

-- Of all candidates of a run over so many bytes those of todo are still to come: the list was l₀ and is l, and the others were counted in x.
pub record Filling (size : ℕ) (all todo : List Event) (l₀ l : List ℕ) (x : CarvingStats) : Type 0 where
  pub written : Writing place_words 2 l₀ l (2 * x.records_carved) (records todo) (records all)
  pub bytes : x.bytes_scanned ≡ size
  pub candidates : x.candidates_examined + length todo ≡ length all
  pub structure : x.rejected_structure + structures todo ≡ structures all
  pub time : x.rejected_timestamp + times todo ≡ times all

module _ {size : ℕ} {all todo : List Event} {l₀ l : List ℕ} {x : CarvingStats} (f : Filling size all todo l₀ l x) where
  -- no counter is above the number of all
  module _ {c : Event} {rest : List Event} (e : todo ≡ c ∷ rest) where
    pub filling-candidates : x.candidates_examined + 1 ≤ length all
    filling-candidates = omega (arith, f.candidates, ap length e)

  pub filling-structures : {o v : ℕ} {rest : List Event} → todo ≡ rejected structure o v ∷ rest → x.rejected_structure + 1 ≤ length all
  filling-structures e = omega (arith, f.structure, ap structures e, candidates-add-up all)

  pub filling-times : {o v : ℕ} {rest : List Event} → todo ≡ rejected time o v ∷ rest → x.rejected_timestamp + 1 ≤ length all
  filling-times e = omega (arith, f.time, ap times e, candidates-add-up all)

  -- where nothing is left, the counters and the list are those of the whole
  module _ (e : todo ≡ []) where
    pub filling-counters : x ≡ stats_of size all
    filling-counters =
        stats-are x size all f.bytes
        (omega (arith, f.candidates, ap length e))
        (omega (arith, f.written.count, ap length (ap records e)))
        (omega (arith, f.time, ap times e))
        (omega (arith, f.structure, ap structures e))

    pub filling-places : length (records all) ≤ length l₀ / 2 → l ≡ overwrite l₀ (flatten place_words (records all))
    filling-places h = writing-end place_words 2 (λ _. refl) f.written (ap records e) h
