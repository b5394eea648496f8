-- The list that the image carver writes is the list that seeding reads. Assumes nothing.
use Prim.Native.Nat.{ℕ, zero, suc, ◌+◌, ◌*◌, ◌/◌}
use mathlib.Core.Path.{◌≡◌, refl, ap, ◌∙◌}
use mathlib.Core.List.{List, [], ◌∷◌, ◌++◌, map}
use native.Mathlib.Omega.{arith}
use lib.ListN.{length, get_or}
use lib.Seq.{get_or-append-add}
use Rattle.base.specs.Lists.{flatten, rows}
use Rattle.base.proofs.ListLaws.{length-flatten}
use Rattle.mft_carver.specs.Carve.{entry_words}
use Rattle.mft_carver.specs.declared.CarvedMftEntry.{CarvedMftEntry}
use Rattle.entry_slots.specs.Names.{Lengths}
use Rattle.entry_slots.specs.Table.{Table, Addition}
use Rattle.additions.specs.Storing.{storing}
use Rattle.additions.specs.Carved.{row, carved_at, carved_in, addition_of, seeding}

-- rows that are those of another list, one further on
rows-shift : {A : Type 0} (f g : ℕ → A) → ((m : ℕ) → f (m + 1) ≡ g m) → (i n : ℕ) → rows f (i + 1) n ≡ rows g i n
unfolding rows
rows-shift f g e i zero = refl
rows-shift f g e i (suc n) = ap (λ (x : _). x ∷ rows f (i + 1 + 1) n) (e i) ∙ ap (λ (r : List _). g i ∷ r) (rows-shift f g e (i + 1) n)

-- after the first entry's words, entry m is entry m + 1
module _ (x : CarvedMftEntry) (l : List ℕ) (m : ℕ) where
  word : (q p : ℕ) → q ≡ row + p → get_or (entry_words x ++ l) q 0 ≡ get_or l p 0
  word q p e = rw e (get_or-append-add (entry_words x) l p 0)

  next : carved_at (entry_words x ++ l) (m + 1) ≡ carved_at l m
  next =
      let q : ℕ = (m + 1) * row in
      let p : ℕ = m * row in
      λ z. record {
        key = record { entry = word (q + 1) (p + 1) (omega arith) z; sequence = word (q + 1 + 1) (p + 1 + 1) (omega arith) z };
        info = record {
          parent = record { entry = word (q + 5) (p + 5) (omega arith) z; sequence = word (q + 5 + 1) (p + 5 + 1) (omega arith) z };
          name = record { source = (carved_at l m).info.name.source; offset = word (q + 3) (p + 3) (omega arith) z; length = word (q + 4) (p + 4) (omega arith) z };
        };
        replace = (carved_at l m).replace;
      }

whole : (xs : List CarvedMftEntry) → rows (carved_at (flatten entry_words xs)) 0 (length xs) ≡ map addition_of xs
unfolding rows
whole [] = refl
whole (x ∷ xs) =
    ap (λ (r : List Addition). addition_of x ∷ r)
    (rows-shift (carved_at (entry_words x ++ flatten entry_words xs)) (carved_at (flatten entry_words xs)) (next x (flatten entry_words xs)) 0 (length xs) ∙ whole xs)

pub carved-entries : (xs : List CarvedMftEntry) → carved_in (flatten entry_words xs) ≡ map addition_of xs
carved-entries xs =
    let n : length (flatten entry_words xs) / row ≡ length xs = omega (arith, length-flatten entry_words row (λ x. refl) xs) in
    rw n (whole xs)

-- so that seeding with a carver's list stores what its entries say
pub seeding-carved : (ls : Lengths) (t : Table) (xs : List CarvedMftEntry) → seeding ls t (flatten entry_words xs) ≡ storing ls t (map addition_of xs)
seeding-carved ls t xs = ap (storing ls t) (carved-entries xs)
