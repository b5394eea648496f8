-- Two runs of the whole call: an accepted one by the two runs of its list; a refused one lists nothing, so that nothing differs. Assumes nothing.
use Prim.Native.Nat.{ℕ, ◌/◌}
use mathlib.Core.Path.{◌≡◌, refl, ap, ◌∙◌}
use mathlib.Core.List.{List}
use lib.ListN.{length}
use lib.Dec.{ltb, leb}
use Rattle.base.specs.Lists.{flatten, place_words, list_after, All}
use Rattle.base.specs.Masked.{Masked, places_of}
use Rattle.base.specs.Outcome.{Outcome, refused, answered, map_outcome}
use Rattle.base.specs.Refusals.{domain}
use Rattle.base.specs.declared.Place.{Place}
use Rattle.base.proofs.ChoiceLaws.{cond_cases}
use Rattle.base.proofs.MaskedLaws.{masked-none}
use Rattle.usn_record.specs.Record.{listed}
use Rattle.usn_record.specs.Names.{name_at}
use Rattle.usn_scan.specs.Scan.{scanned}
use Rattle.usn_scan.specs.Outcome.{scan, scan_answer, scan_list, listing}
use Rattle.usn_scan.proofs.TwoRunLaws.{Alike, scan-two-runs}

-- an answer is all the records
scan-answers : (s : List ℕ) (words : ℕ) (ps : List Place) → scan s words ≡ answered ps → ps ≡ scanned s
unfolding scan
scan-answers s words ps =
    let P : Outcome (List Place) → Type 0 = λ x. x ≡ answered ps → ps ≡ scanned s in
    cond_cases P (ltb domain (length s)) (λ _ e. cc) λ _.
    cond_cases P (leb (length (scanned s)) (words / 2)) (λ _ e. cc) (λ _ e. cc)

module _ (s t : List ℕ) (words : ℕ) where
  scan-same : length t ≡ length s → scanned t ≡ scanned s → scan t words ≡ scan s words
  unfolding scan
  scan-same l e = rw (l, e)

  by-outcome : (x : Outcome (List Place)) → scan s words ≡ x → Masked s t (places_of (λ p. name_at s p.offset) (listing x))
      → (scan t words ≡ x) × All (Alike s t) (listing x)
  by-outcome (refused n) e m = (ap (λ (b : List ℕ). scan b words) (masked-none s t m) ∙ e, tt)
  by-outcome (answered ps) e m =
      let q : ps ≡ scanned s = scan-answers s words ps e in
      let r = scan-two-runs s t (rw q at m) in
      (scan-same m.long r.0 ∙ e, rw q r.1)

  pub outcome-two-runs : Masked s t (places_of (λ p. name_at s p.offset) (listing (scan s words)))
      → (scan t words ≡ scan s words) × All (λ p. listed t p.offset ≡ listed s p.offset) (listing (scan s words))
  outcome-two-runs = by-outcome (scan s words) refl

-- so is the call's: its answer, every word of the list that it leaves, and the record at each listed place
pub call-two-runs : (s t l : List ℕ) → Masked s t (places_of (λ p. name_at s p.offset) (listing (scan s (length l))))
    → (scan_answer t (length l) ≡ scan_answer s (length l)) × (scan_list t l ≡ scan_list s l)
    × All (λ p. listed t p.offset ≡ listed s p.offset) (listing (scan s (length l)))
call-two-runs s t l m =
    let r = outcome-two-runs s t (length l) m in
    (ap (map_outcome length) r.0, ap (λ (x : Outcome (List Place)). list_after (flatten place_words) x l) r.0, r.1)
