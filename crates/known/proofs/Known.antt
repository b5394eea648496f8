-- Every case of the table holds: the checker computes one test over all of them but the deep paths, which have laws, and one law turns it into
-- each. And the rows of P1 to P10 in it are those of the scope. Assumes nothing.
use Prim.Native.Nat.{ℕ, zero, suc}
use mathlib.Core.Path.{◌≡◌, refl, sym, ap, ◌∙◌}
use mathlib.Core.List.Memᴰ
use mathlib.Core.List.{List, [], ◌∷◌, ◌++◌, Memᴰ}
use mathlib.Core.Bool.{true, true≢false}
use lib.Dec.{eqb}
use borrow.Author.Tests.{eqb-true}
use Rattle.usn_record.specs.Bytes.{le, le_at}
use Rattle.usn_record.specs.Fields.{timestamp_of, reference_of, filename_of}
use Rattle.usn_record.specs.Record.{record_of, parsed, listed, record_words}
use Rattle.base.specs.Lists.{All, rows}
use Rattle.base.specs.Walk.{walk, from}
use Rattle.base.proofs.ChoiceLaws.{and_left, and_right}
use Rattle.base.proofs.WalkLaws.{all_append}
use Rattle.usn_scan.specs.Scan.{kind_by_version, kind_of, scan_visit, scanned}
use Rattle.usn_scan.specs.Outcome.{scan}
use Rattle.usn_carver.specs.Carve.{judged, carver_visit_as, carving}
use Rattle.usn_carver.specs.Carve.{carver_visit}
use Rattle.usn_window.specs.Journal.{step_at, steps, to_come}
use Rattle.mft_attributes.specs.Filename.{replaces, keep}
use Rattle.mft_sectors.specs.Signature.{has_signature}
use Rattle.mft_sectors.specs.SectorEnds.{ending, sound, home, restored_by}
use Rattle.mft_sectors.specs.Stored.{in_entry, image_bytes}
use Rattle.mft_attributes.specs.Attributes.{given, attribute_at, attribute_visit, filename_in}
use Rattle.mft_carver.specs.Entry.{judged as entry_judged}
use Rattle.mft_carver.specs.Carve.{image_visit}
use Rattle.utf16.specs.Utf16.{alone, code_points, units_at}
use Rattle.utf16.specs.Utf8.{utf8}
use Rattle.utf16.specs.Text.{decoded}
use Rattle.path_text.specs.Text.{image_text, place_text}
use Rattle.known.specs.Case.{Case, same, right, rows_of}
use Rattle.known.specs.Scope.{scope_rows}
use Rattle.path.specs.Sample.{times_a}
use Rattle.path.proofs.Examples.{loops}
use Rattle.path.proofs.NestedLaws.{nested-256, nested-257}
use Rattle.known.specs.Cases.{computed_cases, cases}
use Rattle.known.specs.Paths.{unresolved, names, depths}

same-eq : (xs ys : List ℕ) → same xs ys ≡ true → xs ≡ ys
same-eq [] [] e = refl
same-eq [] (y ∷ ys) e = absurd (true≢false (sym e))
same-eq (x ∷ xs) [] e = absurd (true≢false (sym e))
same-eq (x ∷ xs) (y ∷ ys) e =
    let h : x ≡ y = eqb-true x y (and_left (eqb x y) (same xs ys) e) in
    let t : xs ≡ ys = same-eq xs ys (and_right (eqb x y) (same xs ys) e) in
    cc

-- a case is as known
abbrev AsKnown : Case → Type 0
AsKnown c = c.says ≡ c.known

-- every case of a table that passes the test is
all_right : (cs : List Case) → right cs ≡ true → All AsKnown cs
all_right [] e = tt
all_right (x ∷ cs) e =
    (same-eq x.says x.known (and_left (same x.says x.known) (right cs) e), all_right cs (and_right (same x.says x.known) (right cs) e))

member : (cs : List Case) → All AsKnown cs → (c : Case) → Memᴰ c cs → AsKnown c
member [] h c m = absurd (Memᴰ.not-nil m)
member (x ∷ cs) h c (Memᴰ.head q) = rw q h.0
member (x ∷ cs) h c (Memᴰ.tail m) = member cs h.1 c m

computed : right computed_cases ≡ true
unfolding le le_at timestamp_of reference_of filename_of record_of parsed listed record_words walk from kind_by_version kind_of scan_visit scanned scan judged carver_visit_as carver_visit carving step_at steps to_come replaces keep given attribute_at filename_in attribute_visit has_signature sound ending rows home restored_by entry_judged image_visit in_entry image_bytes image_text place_text units_at alone code_points utf8 decoded
computed = refl

-- the names of a deep path, as the laws of such paths have them
same_names : (n : ℕ) → times_a n ≡ names n
unfolding times_a names
same_names zero = refl
same_names (suc n) = ap (λ (s : List ℕ). 0x5C ∷ 0x61 ∷ s) (same_names n)

deep : All AsKnown depths
deep = (
  nested-256 ∙ ap (λ (s : List ℕ). 0 ∷ 0x2E ∷ s) (same_names 256),
  (
    nested-257 ∙ ap (λ (s : List ℕ). 0 ∷ (unresolved ++ (0x35 ∷ 0x3A ∷ 0x35 ∷ 0x29 ∷ s))) (same_names 257),
    (loops ∙ ap (λ (s : List ℕ). 0 ∷ (unresolved ++ (0x39 ∷ 0x3A ∷ 0x31 ∷ 0x29 ∷ s))) (same_names 257), tt),
  ),
)

pub known : (c : Case) → Memᴰ c cases → AsKnown c
known = member cases (all_append AsKnown computed_cases depths (all_right computed_cases computed) deep)

-- the rows of P1 to P10: what each is given, and what is known of it
pub complete : rows_of cases ≡ scope_rows
complete = refl
