-- A line and a part by what is written one after the other. Assumes nothing.
use Prim.Native.Nat.{ℕ, zero, suc, ◌+◌, ◌-◌, ◌*◌, ◌^◌, ◌≤◌, ◌<◌}
use mathlib.Core.Path.{◌≡◌, refl, ap, sym, ◌∙◌}
use mathlib.Core.List.{List, [], ◌∷◌, ◌++◌, append-nil}
use native.Mathlib.Omega.{arith}
use borrow.Author.Tests.{eq-eqb, ne_eqb, le-leb, lt-leb}
use mathlib.Core.Bool.{true}
use lib.Dec.{eqb}
use lib.ListN.{length, take, drop, set, length-drop, drop_of_length-le}
use lib.Seq.{sets, length-take-le, take_all}
use borrow.Rule.Slice.PartMut.{put_mid}
use Rattle.usn_record.specs.Record.{listed}
use Rattle.base.specs.Outcome.{outcome}
use Rattle.usn_record.specs.declared.UsnRecord.{UsnRecord}
use Rattle.std.specs.Prelude.{Result, Ok, Err}
use Rattle.base.specs.declared.refusal.Refusal.{Refusal}
use Rattle.utf16.specs.Decimal.{decimal}
use Rattle.utf16.proofs.PutLaws as puts
use Rattle.utf16.proofs.PutLaws.{put_then, put_as}
use Rattle.additions.specs.Walking.{records_in, offset_in}
use Rattle.rewind.specs.declared.Rewind.{Rewind}
use Rattle.usn_fields.specs.Line.{numbers}
use Rattle.usn_lines.specs.Listing.{Standing, standing, header_line, records_word, line_end, last_line, numbers_of, numbers_at, onward, path_of, line, part, after_part}
use Rattle.usn_lines.specs.Promise.{Puts}
use Rattle.usn_lines.specs.declared.Put.{Put}
use Rattle.usn_fields.proofs.FieldLaws.{decimal-word}

-- the numbers of a record by what its parser says
abbrev Numbered : List ℕ → List ℕ → ℕ → List ℕ → Type 0
Numbered l m q vs = record { value : q ≡ length vs; text_after : m ≡ sets l 0 vs; upper_bound : q ≤ 199 }

module _ (journal : List ℕ) (offset : ℕ) {p : Result UsnRecord Refusal} (e : outcome p ≡ listed journal offset) where
  pub record-none : {k : Refusal} (l : List ℕ) → p ≡ Err k → Numbered l l 0 (numbers_at journal offset)
  unfolding numbers_at
  record-none l f =
      let is : numbers_of offset (listed journal offset) ≡ [] = ap (numbers_of offset) (sym e ∙ ap outcome f) in
      rw is (record { value = refl; text_after = refl; upper_bound = omega arith })

  pub record-some : {r : UsnRecord} (l : List ℕ) {m : List ℕ} {q : ℕ} → p ≡ Ok r → Numbered l m q (numbers offset r) → Numbered l m q (numbers_at journal offset)
  unfolding numbers_at
  record-some {r} l f g =
      let is : numbers_of offset (listed journal offset) ≡ numbers offset r = ap (numbers_of offset) (sym e ∙ ap outcome f) in
      rw is g

-- a write at the front of what lies behind an index
sets-cons : (x : ℕ) (l : List ℕ) (i : ℕ) (vs : List ℕ) → sets (x ∷ l) (suc i) vs ≡ x ∷ sets l i vs
sets-cons x l i [] = refl
sets-cons x l i (v ∷ vs) = sets-cons x (set l i v) (suc i) vs

sets_behind : (l : List ℕ) (i : ℕ) (vs : List ℕ) → i ≤ length l → take i l ++ sets (drop i l) 0 vs ≡ sets l i vs
sets_behind l zero vs h = refl
sets_behind [] (suc i) vs h = absurd (omega arith)
sets_behind (x ∷ l) (suc i) vs h = ap (λ (m : List ℕ). x ∷ m) (sets_behind l i vs (omega (arith, h))) ∙ sym (sets-cons x l i vs)

-- the same as code lends it: all that lies behind the index
put-behind : (l : List ℕ) (i : ℕ) (vs : List ℕ) → i ≤ length l → put_mid i (length l - i) l (sets (take (length l - i) (drop i l)) 0 vs) ≡ sets l i vs
put-behind l i vs h =
    let whole : take (length l - i) (drop i l) ≡ drop i l = take_all (length l - i) (drop i l) (omega (arith, length-drop i l)) in
    let none : drop (length l - i) (drop i l) ≡ [] = drop_of_length-le (drop i l) {i = length l - i} (omega (arith, length-drop i l)) in
    rw (whole, none, append-nil (sets (drop i l) 0 vs)) (sets_behind l i vs h)

module _ (journal records text words : List ℕ) (i : ℕ) (r : Rewind) where
  abbrev s : Standing
  s = standing words r

  pub line-puts : {q : ℕ} {m : List ℕ} {p : Put} {part' words' : List ℕ} {e : ℕ} {v : List ℕ} → 65736 ≤ length text
      → Numbered text m q (numbers_at journal (offset_in records i))
      → length m ≡ length text
      → Puts (take (length m - q) (drop q m)) (path_of journal records s) 65536 (onward journal records s) p words' part'
      → puts.Put (put_mid q (length m - q) m part') v (q + p.end) e (0x0A ∷ [])
      → Puts text (line journal records i s) 65736 (onward journal records s) (record { end = e; rewind = p.rewind }) words' v
  unfolding line
  line-puts {q} {m} {p} {part'} {words'} {e} {v} h a same b c =
      let N = numbers_at journal (offset_in records i) in
      let P = path_of journal records s in
      let one : puts.Put text m 0 q N = record { value = omega (arith, a.value); text_after = a.text_after } in
      let two : puts.Put m (put_mid q (length m - q) m part') q (q + p.end) P =
      record {
        value = ap (λ (k : ℕ). q + k) b.end_is;
        text_after = ap (put_mid q (length m - q) m) b.written ∙ put-behind m q P (omega (arith, a.upper_bound, same, h));
      } in
      let all : puts.Put text v 0 e (N ++ (P ++ line_end)) = put_then text 0 N (P ++ line_end) one (put_then m q P line_end two c) in
      record {
        end_is = omega (arith, all.value);
        written = all.text_after;
        fits = omega (arith, c.value, a.upper_bound, b.fits);
        state = b.state;
        forward = b.forward;
      }

-- the last line
pub last-puts : (text : List ℕ) (n : ℕ) → n < 2 ^ 64 → {q k e : ℕ} {m o v : List ℕ} → puts.Put text m 0 q records_word → puts.Put m o q k (decimal n)
    → puts.Put o v k e line_end → record { value : e ≡ length (last_line n); text_after : v ≡ sets text 0 (last_line n); upper_bound : e ≤ 29 }
unfolding last_line
last-puts text n h {q} {k} {e} {m} {o} {v} a b c =
    let all : puts.Put text v 0 e (records_word ++ (decimal n ++ line_end)) = put_then text 0 records_word (decimal n ++ line_end) a (put_then m q (decimal n) line_end b c) in
    record {
      value = omega (arith, all.value);
      text_after = all.text_after;
      upper_bound = omega (arith, a.value, b.value, c.value, decimal-word n h);
    }

-- a part by its number
module _ (journal records text words : List ℕ) (r : Rewind) (k : ℕ) where
  abbrev PartPuts : Put → List ℕ → List ℕ → Type 0
  PartPuts = Puts text (part journal records k (standing words r)) 65736 (after_part journal records k (standing words r))

  pub head_puts : {e : ℕ} {v : List ℕ} → k ≡ 0 → puts.Put text v 0 e header_line → PartPuts (record { end = e; rewind = r }) words v
  unfolding part after_part header_line
  head_puts {e} {v} z a =
      let is : eqb k 0 ≡ true = eq-eqb k 0 z in
      rw is (record { end_is = a.value; written = a.text_after; fits = omega (arith, a.value); state = refl; forward = refl })

  pub middle-puts : {p : Put} {words' v : List ℕ} → (k ≡ 0 → ⊥) → k ≤ records_in records
      → Puts text (line journal records (k - 1) (standing words r)) 65736 (onward journal records (standing words r)) p words' v → PartPuts p words' v
  unfolding part after_part
  middle-puts z h a = rw (ne_eqb k 0 z, le-leb k (records_in records) h) a

  pub end-puts : {e : ℕ} {v : List ℕ} → (k ≡ 0 → ⊥) → records_in records < k
      → record { value : e ≡ length (last_line (records_in records)); text_after : v ≡ sets text 0 (last_line (records_in records)); upper_bound : e ≤ 29 } → PartPuts (record { end = e; rewind = r }) words v
  unfolding part after_part
  end-puts z h a =
      rw (ne_eqb k 0 z, lt-leb k (records_in records) h) (record { end_is = a.value; written = a.text_after; fits = omega (arith, a.upper_bound); state = refl; forward = refl })

-- the first so many records of a list are as many
pub records-taken : (l : List ℕ) (n : ℕ) → 2 * n ≤ length l → records_in (take (2 * n) l) ≡ n
records-taken l n h = omega (arith, length-take-le (2 * n) l h)
