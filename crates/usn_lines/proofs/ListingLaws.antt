-- The parts of a listing, one behind the other, are the listing, and it has a line for each record, with its numbers. Assumes nothing.
use Prim.Native.Nat.{ℕ, zero, suc, ◌+◌, ◌-◌, ◌*◌, ◌≤◌, ◌<◌}
use mathlib.Core.Path.{◌≡◌, refl, ap, sym, ◌∙◌}
use mathlib.Core.List.{List, [], ◌∷◌, ◌++◌, append_assoc, append-nil}
use native.Mathlib.Omega.{arith}
use borrow.Author.Tests.{ne_eqb, le-leb, lt-leb}
use lib.ListN.{length, take}
use mathlib.Core.Bool.{true}
use Rattle.base.specs.Lists.{flatten, place_words, All}
use Rattle.base.specs.Refusals.{domain}
use Rattle.base.specs.declared.Place.{Place}
use Rattle.usn_record.specs.Record.{listed, is_answered}
use Rattle.usn_scan.specs.Scan.{scanned}
use Rattle.usn_scan.proofs.ListedLaws.{Parses, scan-parses}
use Rattle.additions.specs.Walking.{records_in, offset_in}
use Rattle.usn_lines.specs.Promise.{Begins}
use Rattle.usn_lines.specs.declared.Begun.{Begun}
use Rattle.usn_lines.specs.Listing.{Standing, header_line, last_line, onward, line, lines, listing_from, part, after_part, parts, after_parts, all_parts, list_of, begins, no_words, listing, standing}

abbrev all : List (List ℕ) → List ℕ
all = flatten (λ l. l)

module _ (journal records : List ℕ) where
  abbrev n : ℕ
  n = records_in records

  -- as many lines as records
  pub line-each : (i k : ℕ) (s : Standing) → length (lines journal records i k s) ≡ k
  unfolding lines
  line-each i zero s = refl
  line-each i (suc k) s = ap suc (line-each (i + 1) k (onward journal records s))

  -- a part that is a line, and the last one
  middle : (k : ℕ) (s : Standing) → 0 < k → k ≤ n → (part journal records k s ≡ line journal records (k - 1) s) × (after_part journal records k s ≡ onward journal records s)
  unfolding part after_part
  middle k s z h = rw (ne_eqb k 0 (λ e. omega (arith, e, z)), le-leb k n h) (refl, refl)

  last : (k : ℕ) (s : Standing) → 0 < k → n < k → part journal records k s ≡ last_line n
  unfolding part
  last k s z h = rw (ne_eqb k 0 (λ e. omega (arith, e, z)), lt-leb k n h) refl

  -- from a line on: the lines that are left, and the last line
  from-line : (m i : ℕ) (s : Standing) → i + m ≡ n → all (parts journal records (i + 1) (suc m) s) ≡ all (lines journal records i m s) ++ last_line n
  unfolding parts lines
  from-line zero i s h = ap (λ (l : List ℕ). l ++ []) (last (i + 1) s (omega arith) (omega (arith, h))) ∙ append-nil (last_line n)
  from-line (suc m) i s h =
      let w = middle (i + 1) s (omega arith) (omega (arith, h)) in
      let back : i + 1 - 1 ≡ i = omega arith in
      let here : part journal records (i + 1) s ≡ line journal records i s = rw back at w.0 in
      let rest = from-line m (i + 1) (onward journal records s) (omega (arith, h)) in
      ap (λ (t : Standing). part journal records (i + 1) s ++ all (parts journal records (i + 1 + 1) (suc m) t)) w.1
      ∙ ap (λ (l : List ℕ). l ++ all (parts journal records (i + 1 + 1) (suc m) (onward journal records s))) here
      ∙ ap (λ (l : List ℕ). line journal records i s ++ l) rest
      ∙ sym (append_assoc (line journal records i s) (all (lines journal records (i + 1) m (onward journal records s))) (last_line n))

  -- all parts: the header, the lines in their order and the last line
  pub parts-make-listing : (s : Standing) → all (all_parts journal records s) ≡ listing_from journal records s
  unfolding parts part after_part
  parts-make-listing s = let two : n + 2 ≡ suc (suc n) = omega arith in ap (λ (k : ℕ). all (parts journal records 0 k s)) two ∙ head_first s
    where
      head_first : (s : Standing) → all (parts journal records 0 (suc (suc n)) s) ≡ listing_from journal records s
      head_first s = ap (λ (l : List ℕ). header_line ++ l) (from-line n 0 s (omega arith))

  -- a loop over the parts: one part, and then the others
  pub parts_next : (k m : ℕ) (s : Standing) → 0 < m → after_parts journal records k m s ≡ after_parts journal records (k + 1) (m - 1) (after_part journal records k s)
  unfolding after_parts
  parts_next k zero s h = absurd (omega arith)
  parts_next k (suc m) s h = let one : suc m - 1 ≡ m = omega arith in rw one refl

  pub parts_none : (k m : ℕ) (s : Standing) → m ≡ 0 → after_parts journal records k m s ≡ s
  unfolding after_parts
  parts_none k m s h = rw h refl

-- so all parts of what `begin` promises are the listing of the journal
pub begun-make-listing : (journal : List ℕ) {r : Begun} {list' words' : List ℕ} → Begins journal no_words no_words r list' words'
    → all (all_parts journal (take (2 * r.records) list') (standing words' r.rewind)) ≡ listing journal
unfolding listing
begun-make-listing journal {r} {list'} {words'} b =
    let stands : standing words' r.rewind ≡ begins journal (list_of journal) no_words no_words = λ i. record { words = b.forward i; rewind = b.state i } in
    ap (λ (l : List ℕ). all (all_parts journal l (standing words' r.rewind))) b.list-is
    ∙ ap (λ (s : Standing). all (all_parts journal (list_of journal) s)) stands
    ∙ parts-make-listing journal (list_of journal) (begins journal (list_of journal) no_words no_words)

-- every line of a journal's listing has its record's numbers: at each listed offset stands a record
listed-each : (journal : List ℕ) (ps : List Place) → All (Parses journal) ps → (i : ℕ) → i < length ps
    → is_answered (listed journal (offset_in (flatten place_words ps) i)) ≡ true
listed-each journal [] h i k = absurd (omega (arith, k))
listed-each journal (p ∷ ps) h zero k = rw h.0 refl
listed-each journal (p ∷ ps) h (suc i) k =
    let two : suc i * 2 ≡ suc (suc (i * 2)) = omega arith in
    rw two (listed-each journal ps h.1 i (omega (arith, k)))

pub numbers-each : (journal : List ℕ) → length journal ≤ domain → (i : ℕ) → i < length (scanned journal) → is_answered (listed journal (offset_in (list_of journal) i)) ≡ true
unfolding list_of
numbers-each journal h = listed-each journal (scanned journal) (scan-parses journal)
