-- The listed records by their numbers, from the first and from the last on: once each is a record, they are what code reads. Assumes nothing.
use Prim.Native.Nat.{ℕ, zero, suc, ◌+◌, ◌-◌, ◌≤◌, ◌<◌}
use mathlib.Core.Path.{◌≡◌, refl, ap, sym, ◌∙◌}
use mathlib.Core.List.{List, [], ◌∷◌, ◌++◌, map, reverse, reverse-cons}
use mathlib.Core.Bool.{Bool, true, false≢true}
use native.Mathlib.Omega.{arith}
use lib.ListN.{drop}
use Rattle.base.specs.Outcome.{Outcome, refused, answered}
use Rattle.base.specs.Lists.{every, rows}
use Rattle.base.proofs.ChoiceLaws.{and_left, and_right}
use Rattle.usn_record.specs.Record.{is_answered}
use Rattle.base.proofs.RowLaws.{rows_next, rows_end, map_rows}
use Rattle.entry_slots.proofs.NameLaws.{every-at}
use Rattle.additions.specs.Entries.{entry_at, entry_or, backward}
use Rattle.rewind_records.specs.Environment.{environment_with, all_answered, entries_of, additions}
use Rattle.additions.specs.Walking.{records_in, offset_in, offsets_in, entry_in, walked_back}
use Rattle.rewind_records.specs.Turning.{ended, next, first_of}
use Rattle.additions.specs.declared.entries.RecordEntry.{RecordEntry}

-- the last row, rows one on, and rows turned round
rows_last : {A : Type 0} (f : ℕ → A) (i n : ℕ) → rows f i (suc n) ≡ rows f i n ++ (f (i + n) ∷ [])
unfolding rows
rows_last f i zero = let e : i ≡ i + 0 = omega arith in ap (λ (j : ℕ). f j ∷ []) e
rows_last f i (suc n) =
    let e : i + 1 + n ≡ i + suc n = omega arith in
    ap (λ (r : List _). f i ∷ r) (rows_last f (i + 1) n ∙ ap (λ (j : ℕ). rows f (i + 1) n ++ (f j ∷ [])) e)

rows-reverse : {A : Type 0} (f : ℕ → A) (i n : ℕ) → reverse (rows f i n) ≡ rows (λ j. f (i + n - 1 - j)) 0 n
unfolding rows
rows-reverse f i zero = refl
rows-reverse f i (suc n) =
    let e : (j : ℕ) → i + 1 + n - 1 - j ≡ i + suc n - 1 - j = λ j. omega arith in
    let l : i ≡ i + suc n - 1 - (0 + n) = omega arith in
    reverse-cons (f i) (rows f (i + 1) n)
    ∙ ap (λ (r : List _). r ++ (f i ∷ [])) (rows-reverse f (i + 1) n ∙ ap (λ (g : ℕ → ℕ). rows (λ j. f (g j)) 0 n) (λ z j. e j z))
    ∙ ap (λ (j : ℕ). rows (λ j. f (i + suc n - 1 - j)) 0 n ++ (f j ∷ [])) l
    ∙ sym (rows_last (λ j. f (i + suc n - 1 - j)) 0 n)

rows_drop : {A : Type 0} (f : ℕ → A) (i n p : ℕ) → drop p (rows f i n) ≡ rows f (i + p) (n - p)
unfolding rows
rows_drop f i n zero =
    let e : i ≡ i + 0 = omega arith in
    let d : n ≡ n - 0 = omega arith in
    ap (λ (j : ℕ). rows f j n) e ∙ ap (rows f (i + 0)) d
rows_drop f i zero (suc p) =
    let d : 0 ≡ 0 - suc p = omega arith in
    ap (rows f (i + suc p)) d
rows_drop f i (suc n) (suc p) =
    let e : i + 1 + p ≡ i + suc p = omega arith in
    let d : n - p ≡ suc n - suc p = omega arith in
    rows_drop f (i + 1) n p ∙ ap (λ (j : ℕ). rows f j (n - p)) e ∙ ap (rows f (i + suc p)) d

-- the entries of rows that are all answered
is-entry : (x : Outcome RecordEntry) → is_answered x ≡ true → x ≡ answered (entry_or x)
is-entry (refused n) e = absurd (false≢true e)
is-entry (answered r) e = refl

entries-rows : (g : ℕ → Outcome RecordEntry) (i n : ℕ) → every is_answered (rows g i n) ≡ true → entries_of (rows g i n) ≡ rows (λ j. entry_or (g j)) i n
unfolding rows every
entries-rows g i zero e = refl
entries-rows g i (suc n) e =
    let first : is_answered (g i) ≡ true = and_left (is_answered (g i)) (every is_answered (rows g (i + 1) n)) e in
    let rest : every is_answered (rows g (i + 1) n) ≡ true = and_right (is_answered (g i)) (every is_answered (rows g (i + 1) n)) e in
    let k : entries_of (g i ∷ rows g (i + 1) n) ≡ entry_or (g i) ∷ entries_of (rows g (i + 1) n) =
    ap (λ (x : Outcome RecordEntry). entries_of (x ∷ rows g (i + 1) n)) (is-entry (g i) first) in
    k ∙ ap (λ (r : List RecordEntry). entry_or (g i) ∷ r) (entries-rows g (i + 1) n rest)

module _ (journal l : List ℕ) where
  -- what stands at the listed offset of number i
  abbrev pub at_number : ℕ → Outcome RecordEntry
  at_number i = entry_at journal (offset_in l i)

  pub records-rows : map (entry_at journal) (offsets_in l) ≡ rows at_number 0 (records_in l)
  records-rows = map_rows (entry_at journal) (offset_in l) 0 (records_in l)

  pub records-test : {b : Bool} → b ≡ every is_answered (rows at_number 0 (records_in l)) → b ≡ all_answered (map (entry_at journal) (offsets_in l))
  records-test e = e ∙ ap (every is_answered) (sym records-rows)

  module _ (all : all_answered (map (entry_at journal) (offsets_in l)) ≡ true) where
    answers : every is_answered (rows at_number 0 (records_in l)) ≡ true
    answers = ap (every is_answered) (sym records-rows) ∙ all

    entries-all : entries_of (map (entry_at journal) (offsets_in l)) ≡ rows (entry_in journal l) 0 (records_in l)
    entries-all = ap entries_of records-rows ∙ entries-rows at_number 0 (records_in l) answers

    -- each of them is a record's
    pub number-answered : {i : ℕ} → i < records_in l → entry_at journal (offset_in l i) ≡ answered (entry_in journal l i)
    number-answered {i} h = is-entry (at_number i) (every-at is_answered at_number 0 (records_in l) i answers (omega arith) (omega arith))

    -- what they add from the last on
    pub additions-back : (m : ℕ) → additions (environment_with journal m l) ≡ walked_back journal l
    additions-back m =
        ap (λ (es : List RecordEntry). map backward (reverse es)) entries-all
        ∙ ap (map backward) (rows-reverse (entry_in journal l) 0 (records_in l))
        ∙ map_rows backward (λ j. entry_in journal l (0 + records_in l - 1 - j)) 0 (records_in l)
        ∙ ap (λ (g : ℕ → ℕ). rows (λ j. backward (entry_in journal l (g j))) 0 (records_in l)) (λ z j. near j z)
      where
        near : (j : ℕ) → 0 + records_in l - 1 - j ≡ records_in l - 1 - j
        near j = omega arith

    -- the one that is next where so many are behind
    rest : (p : ℕ) → drop p (entries_of (map (entry_at journal) (offsets_in l))) ≡ rows (entry_in journal l) p (records_in l - p)
    rest p =
        let e : 0 + p ≡ p = omega arith in
        ap (drop p) entries-all ∙ rows_drop (entry_in journal l) 0 (records_in l) p ∙ ap (λ (j : ℕ). rows (entry_in journal l) j (records_in l - p)) e

    pub next-is : {p : ℕ} → p < records_in l → first_of (drop p (entries_of (map (entry_at journal) (offsets_in l)))) ≡ next (entry_in journal l p)
    next-is {p} h = ap first_of (rest p ∙ rows_next (entry_in journal l) p (records_in l) h)

    pub none_left : {p : ℕ} → records_in l ≤ p → first_of (drop p (entries_of (map (entry_at journal) (offsets_in l)))) ≡ ended
    none_left {p} h = ap first_of (rest p ∙ rows_end (entry_in journal l) p (records_in l) h)
