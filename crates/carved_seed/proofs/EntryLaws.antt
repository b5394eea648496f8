-- The entries of a lent slice, by their numbers. Assumes nothing.
use Prim.Native.Nat.{ℕ, zero, suc, ◌+◌}
use mathlib.Core.Path.{◌≡◌, refl, ap, ◌∙◌}
use mathlib.Core.List.{List, [], ◌∷◌, map}
use native.Mathlib.Numerals.{add-one}
use lib.ListN.{length}
use Rattle.mft_carver.specs.declared.CarvedMftEntry.{CarvedMftEntry}
use Rattle.base.specs.Lists.{rows}
use Rattle.entry_slots.specs.Table.{Addition}
use Rattle.additions.specs.Carved.{addition_of}
use Rattle.carved_seed.specs.Entries.{added_at}

-- rows that are those of another list, one further on
rows-shift : {A : Type 0} (f g : ℕ → A) → ((m : ℕ) → f (m + 1) ≡ g m) → (i n : ℕ) → rows f (i + 1) n ≡ rows g i n
unfolding rows
rows-shift f g e i zero = refl
rows-shift f g e i (suc n) = ap (λ (x : _). x ∷ rows f (i + 1 + 1) n) (e i) ∙ ap (λ (r : List _). g i ∷ r) (rows-shift f g e (i + 1) n)

pub whole-entries : (es : List CarvedMftEntry) → rows (added_at es) 0 (length es) ≡ map addition_of es
unfolding rows
whole-entries [] = refl
whole-entries (x ∷ xs) =
    ap (λ (r : List Addition). addition_of x ∷ r)
    (rows-shift (added_at (x ∷ xs)) (added_at xs) (λ m. ap (added_at (x ∷ xs)) (add-one m)) 0 (length xs) ∙ whole-entries xs)
