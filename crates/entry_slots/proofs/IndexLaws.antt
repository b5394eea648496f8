-- An index by its single links, and where there is none. Assumes nothing.
use Prim.Native.Nat.{ℕ, zero, suc, ◌+◌, ◌-◌, ◌*◌, ◌%◌, ◌≤◌, ◌<◌}
use mathlib.Core.Path.{◌≡◌, refl, ap, sym, ◌∙◌}
use mathlib.Core.List.{List}
use mathlib.Core.Bool.{false}
use native.Mathlib.Omega.{arith}
use native.Mathlib.Nat.{mod-lt, add-zero, zero-add}
use borrow.Author.Tests.{lt-ltb, le-ltb, eq-eqb, ne_eqb}
use lib.ListN.{length, get_or, set, length-set}
use lib.Seq.{ext_get_or}
use lib.Dec.{leb, eqb}
use Rattle.base.proofs.ChoiceLaws.{cond_cases}
use Rattle.entry_slots.specs.Slots.{stride}
use Rattle.base.specs.Lists.{rows}
use Rattle.entry_slots.specs.Table.{Table, table}
use Rattle.entry_slots.specs.declared.EntryKey.{EntryKey}
use Rattle.base.proofs.RowLaws.{length-rows}
use Rattle.entry_slots.specs.Index.{hash, head_of, next_of, heads_of, nexts_of, Indexed, enough}
use Rattle.entry_slots.specs.Probing.{heads_linked, nexts_linked}

pub hash-below : (m : ℕ) (k : EntryKey) → 0 < m → hash m k < m
unfolding hash
hash-below m k h = mod-lt (k.entry % 4294967296 + k.sequence % 65536 * 2654435761) h

-- whether lent words are enough
pub enough-not : (slots : ℕ) (heads nexts : List ℕ) → length heads ≤ 0 → false ≡ enough slots heads nexts
unfolding enough
enough-not slots heads nexts h = rw (le-ltb _ _ h)

pub enough-some : (slots : ℕ) (heads nexts : List ℕ) → 0 < length heads → leb slots (length nexts) ≡ enough slots heads nexts
unfolding enough
enough-some slots heads nexts h = rw (lt-ltb _ _ h)

-- a row is read back
pub row_at : (f : ℕ → ℕ) (i n j : ℕ) → j < n → get_or (rows f i n) j 0 ≡ f (i + j)
unfolding rows
row_at f i zero j h = absurd (omega arith)
row_at f i (suc n) zero h = ap f (sym (add-zero i))
row_at f i (suc n) (suc j) h = let e : i + suc j ≡ i + 1 + j = omega arith in row_at f (i + 1) n j (omega arith) ∙ ap f (sym e)

-- words that are those of the rows are the rows
pub rows_ext : (f : ℕ → ℕ) (n : ℕ) (w : List ℕ) → length w ≡ n → ((i : ℕ) → i < n → get_or w i 0 ≡ f i) → w ≡ rows f 0 n
rows_ext f n w l h =
    ext_get_or 0 w (rows f 0 n) (l ∙ sym (length-rows f 0 n))
    (λ i g. h i (omega (arith, l)) ∙ sym (row_at f 0 n i (omega (arith, l)) ∙ ap f (zero-add i)))

-- words whose links are those of a table, where there are m hashes
pub record Links (m : ℕ) (t : Table) (heads nexts : List ℕ) : Type 0 where
  pub some : 0 < m
  pub many : length heads ≡ m
  pub head : (h : ℕ) → h < m → get_or heads h 0 ≡ head_of m t h
  pub next : (i : ℕ) → i < length nexts → get_or nexts i 0 ≡ next_of m t i

-- they are an index of it
pub links-index : {m : ℕ} {t : Table} {heads nexts : List ℕ} (w : List ℕ) → Links m t heads nexts → length nexts ≡ length w
    → record { heads_after : heads ≡ heads_of m t; nexts_after : nexts ≡ nexts_of m t w }
unfolding heads_of nexts_of
links-index {m} {t} {heads} {nexts} w x l =
    record {
      heads_after = rows_ext (head_of m t) m heads x.many x.head;
      nexts_after = rw (lt-ltb 0 m x.some) (rows_ext (next_of m t) (length w) nexts l (λ i g. x.next i (omega (arith, l))));
    }

-- and an index has them
pub index-links : {m : ℕ} (t : Table) (heads nexts w : List ℕ) → 0 < m → heads ≡ heads_of m t → nexts ≡ nexts_of m t w → Links m t heads nexts
unfolding heads_of nexts_of
index-links {m} t heads nexts w h x y =
    let y' : nexts ≡ rows (next_of m t) 0 (length w) = rw (lt-ltb 0 m h) at y in
    let l : length nexts ≡ length w = ap length y' ∙ length-rows (next_of m t) 0 (length w) in
    record {
      some = h;
      many = ap length x ∙ length-rows (head_of m t) 0 m;
      head = λ i g. ap (λ (z : List ℕ). get_or z i 0) x ∙ row_at (head_of m t) 0 m i g ∙ ap (head_of m t) (zero-add i);
      next = λ i g. ap (λ (z : List ℕ). get_or z i 0) y' ∙ row_at (next_of m t) 0 (length w) i (omega (arith, l)) ∙ ap (next_of m t) (zero-add i);
    }

pub indexed-links : (t : Table) (heads nexts : List ℕ) → 0 < length heads → Indexed t heads nexts → Links (length heads) t heads nexts
indexed-links t heads nexts h x = index-links t heads nexts nexts h x.0 x.1

-- without heads there is no index, whatever the table
pub no-heads : (m : ℕ) (t : Table) (heads : List ℕ) → m ≤ 0 → length heads ≡ m → heads ≡ heads_of m t
unfolding heads_of
no-heads m t heads h l = rows_ext (head_of m t) m heads l (λ i g. absurd (omega arith))

pub no-nexts : (m : ℕ) (t : Table) (nexts : List ℕ) → m ≤ 0 → nexts ≡ nexts_of m t nexts
unfolding nexts_of
no-nexts m t nexts h = rw (le-ltb 0 m h)

-- a link is put first where there is none of its hash, and behind the last one else
pub linked-first : (heads nexts : List ℕ) (h last link : ℕ) {b : ℕ} → b ≡ h → last ≡ 0
    → record { heads_after : set heads b link ≡ heads_linked heads h last link; nexts_after : nexts ≡ nexts_linked nexts last link }
unfolding heads_linked nexts_linked
linked-first heads nexts h last link e z = record { heads_after = rw (eq-eqb last 0 z, e); nexts_after = rw (eq-eqb last 0 z) }

pub linked-behind : (heads nexts : List ℕ) (h last link : ℕ) → (last ≡ 0 → ⊥)
    → record { heads_after : heads ≡ heads_linked heads h last link; nexts_after : set nexts (last - 1) link ≡ nexts_linked nexts last link }
unfolding heads_linked nexts_linked
linked-behind heads nexts h last link z = record { heads_after = rw (ne_eqb last 0 z); nexts_after = rw (ne_eqb last 0 z) }

pub length-linked : (nexts : List ℕ) (last link : ℕ) → length (nexts_linked nexts last link) ≡ length nexts
unfolding nexts_linked
length-linked nexts last link = cond_cases (λ (w : List ℕ). length w ≡ length nexts) (eqb last 0) (λ _. refl) (λ _. length-set nexts (last - 1) link)

-- no words are an index of any table: what the calls without one lend
pub none-indexed : (s heads nexts : List ℕ) (used : ℕ) → used * stride ≤ length s → length heads ≤ 0
    → ((used * stride ≤ length s) × (0 < length heads → used ≤ length nexts)) × Indexed (table s used) heads nexts
none-indexed s heads nexts used fits h =
    ((fits, λ some. absurd (omega arith)), (no-heads (length heads) (table s used) heads h refl, no-nexts (length heads) (table s used) nexts h))
