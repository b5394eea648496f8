-- A record that is passed without its path, and where a listing begins. Assumes nothing.
use Prim.Native.Nat.{ℕ, ◌*◌, ◌/◌, ◌≤◌}
use mathlib.Core.Path.{◌≡◌, refl, ap, sym, ◌∙◌}
use mathlib.Core.List.{List, []}
use native.Mathlib.Omega.{arith}
use borrow.Author.Tests.{le-ltb, le-leb}
use lib.ListN.{length, take}
use lib.Seq.{take-append_seam}
use Rattle.base.specs.Lists.{overwrite, place_words}
use Rattle.base.specs.Outcome.{Outcome, refused, answered, outcome, map_outcome}
use Rattle.base.proofs.ListLaws.{length-flatten}
use Rattle.usn_scan.specs.Scan.{scanned}
use Rattle.usn_scan.specs.Outcome.{scan}
use Rattle.usn_scan.specs.Promise.{Scans}
use Rattle.std.specs.Prelude.{Result, Ok, Err}
use Rattle.base.specs.Refusals.{domain, number_of}
use Rattle.base.specs.declared.refusal.Refusal.{Refusal}
use Rattle.chain.specs.declared.ResolvedPath.{ResolvedPath}
use Rattle.usn_scan.proofs.ScanLaws.{scan-bound}
use Rattle.entry_slots.specs.Table.{table}
use Rattle.rewind.specs.Starting.{Tables, started, begun, forward_after}
use Rattle.rewind.specs.Stepping.{state_of}
use Rattle.rewind.specs.Promise.{ChainSteps, Starts}
use Rattle.rewind.specs.declared.Rewind.{Rewind}
use Rattle.rewind.specs.declared.Step.{Step}
use Rattle.usn_lines.specs.Listing.{standing, standing_at, onward, list_of, begins}
use Rattle.usn_lines.specs.Promise.{Passes, Begins}

-- a step without text
pub passed : (journal records words : List ℕ) (r : Rewind) {list : List ℕ} {a : Step ResolvedPath} {words' list' : List ℕ}
    → ChainSteps journal [] records words r list a words' list' → Passes (onward journal records (standing words r)) a.rewind words'
unfolding onward
passed journal records words r c = record { state = c.state; forward = c.forward }

-- the start of a rewind, by what it answers
module _ (journal records first words : List ℕ) {a : Result Rewind Refusal} {first' words' : List ℕ} (p : Starts journal [] records (table first 0) words a first' words') where
  by-outcome : (o : Outcome Tables) (r : Rewind) → outcome a ≡ map_outcome begun o → words' ≡ forward_after o words
      → ((ts : Tables) → o ≡ answered ts → r ≡ begun ts) → ((n : ℕ) → o ≡ refused n → r ≡ state_of 0 0) → Passes (standing_at words o) r words'
  by-outcome (refused n) r e f g h = record { state = h n refl; forward = f }
  by-outcome (answered ts) r e f g h = record { state = g ts refl; forward = f }

  outcome-is : Outcome Tables
  outcome-is = started journal [] records (table first 0) words

  pub start-refused : {k : Refusal} → a ≡ Err k → Passes (begins journal records first words) (record { used = 0; position = 0 }) words'
  unfolding begins outcome-is
  start-refused {k} e =
      by-outcome outcome-is (state_of 0 0) p.answer p.forward
      (λ ts f. let both : refused (number_of k) ≡ answered (begun ts) = sym (ap outcome e) ∙ p.answer ∙ ap (map_outcome begun) f in let z : ◌≡◌ {A = ℕ} 0 1 = cc in absurd (omega arith))
      (λ m f. refl)

  pub start-begun : {r : Rewind} → a ≡ Ok r → Passes (begins journal records first words) r words'
  unfolding begins outcome-is
  start-begun {r} e =
      by-outcome outcome-is r p.answer p.forward
      (λ ts f. let both : answered r ≡ answered (begun ts) = sym (ap outcome e) ∙ p.answer ∙ ap (map_outcome begun) f in let same : r ≡ begun ts = cc in same)
      (λ k f. let both : answered r ≡ refused k = sym (ap outcome e) ∙ p.answer ∙ ap (map_outcome begun) f in let z : ◌≡◌ {A = ℕ} 0 1 = cc in absurd (omega arith))

-- the scan of a journal of at most 65536 bytes, into a list of 2048 words
module _ (journal list : List ℕ) (h : (length journal ≤ 65536) × (length list ≡ 2048)) {a : Result ℕ Refusal} {list' : List ℕ} (p : Scans journal list a list') where
  few : length (scanned journal) ≤ length list / 2
  few = omega (arith, scan-bound journal, h.0, h.1)

  scan-is : scan journal (length list) ≡ answered (scanned journal)
  unfolding scan
  scan-is =
      let small : length journal ≤ domain = omega (arith, h.0) in
      rw (le-ltb domain (length journal) small, le-leb (length (scanned journal)) (length list / 2) few)

  pub scan-never : {k : Refusal} → a ≡ Err k → ⊥
  scan-never {k} e =
      let both : refused (number_of k) ≡ answered (length (scanned journal)) = sym (ap outcome e) ∙ p.answer ∙ ap (map_outcome length) scan-is in
      let z : ◌≡◌ {A = ℕ} 0 1 = cc in
      absurd (omega arith)

  module _ {n : ℕ} (e : a ≡ Ok n) where
    pub scan-count : n ≡ length (scanned journal)
    scan-count =
        let both : answered n ≡ answered (length (scanned journal)) = sym (ap outcome e) ∙ p.answer ∙ ap (map_outcome length) scan-is in
        let same : n ≡ length (scanned journal) = cc in
        same

    list_length : length (list_of journal) ≡ 2 * length (scanned journal)
    unfolding list_of
    list_length = length-flatten place_words 2 (λ q. refl) (scanned journal)

    list-is : list' ≡ overwrite list (list_of journal)
    unfolding list_of
    list-is = p.places ∙ rw scan-is

    pub scan-list : take (2 * n) list' ≡ list_of journal
    scan-list =
        let sized : 2 * n ≡ length (list_of journal) = omega (arith, scan-count, list_length) in
        ap (λ (l : List ℕ). take (2 * n) l) list-is ∙ ap (λ (k : ℕ). take k (overwrite list (list_of journal))) sized ∙ take-append_seam (list_of journal) _

    pub scan-most : 2 * n ≤ 2048
    scan-most = omega (arith, few, scan-count, h.1)

    pub scan_begins : (first words : List ℕ) {r : Rewind} {words' : List ℕ} → length list' ≡ length list → Passes (begins journal (take (2 * n) list') first words) r words'
        → Begins journal first words (record { records = n; rewind = r }) list' words'
    scan_begins first words {r} {words'} k w =
        let v : Passes (begins journal (list_of journal) first words) r words' = rw scan-list at w in
        record {
          count = scan-count;
          list-is = scan-list;
          inside = omega (arith, scan-most, k, h.1);
          state = v.state;
          forward = v.forward;
        }
