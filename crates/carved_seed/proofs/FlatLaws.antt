-- Seeding from the entries themselves is seeding from their flat list: what `seed_from_carved` answers and leaves, by its contract, is what `seed` does on
-- the words that the image carver lists of the same entries, by its own. Assumes nothing.
use Prim.Native.Nat.{ℕ}
use mathlib.Core.Path.{◌≡◌, refl, sym, ap, ◌∙◌}
use mathlib.Core.List.{List}
use native.Mathlib.Omega.{arith}
use Rattle.base.specs.Lists.{flatten}
use Rattle.base.specs.Outcome.{Outcome, outcome}
use Rattle.mft_carver.specs.Carve.{entry_words}
use Rattle.mft_carver.specs.declared.CarvedMftEntry.{CarvedMftEntry}
use Rattle.entry_slots.specs.Names.{lengths_of}
use Rattle.entry_slots.specs.Table.{Table, table}
use Rattle.additions.specs.Storing.{used_after, words_after}
use Rattle.entry_table.specs.Promise.{Stores}
use Rattle.additions.specs.Carved.{seeding}
use Rattle.base.specs.declared.refusal.Refusal.{Refusal}
use Rattle.base.specs.declared.refusal.Refusal.TheVariants.{AboveDomain, ShortSlice, BadLength, LengthPastSlice, ListFull, TableFull, NameOutside, TextFull, BadState, TooManyBytes, BadBuffer, NotARecord}
use Rattle.base.specs.Refusals.{number_of}
use Rattle.std.specs.Prelude.{Result, Ok, Err}
use mathlib.Core.Bool.{cond}
use lib.Dec.{eqb}
use Rattle.additions.proofs.CarverLaws.{seeding-carved}
use Rattle.carved_seed.specs.Promise.{seeded_from}

-- the refusal of a number, so that two with one number are one
abbrev of_number : ℕ → Refusal
of_number n = cond (eqb n 1) AboveDomain (cond (eqb n 2) ShortSlice (cond (eqb n 3) BadLength (cond (eqb n 4) LengthPastSlice (cond (eqb n 5) ListFull (cond (eqb n 6) TableFull (cond (eqb n 7) NameOutside (cond (eqb n 8) TextFull (cond (eqb n 9) BadState (cond (eqb n 10) TooManyBytes (cond (eqb n 11) BadBuffer (NotARecord)))))))))))

number-of : (r : Refusal) → of_number (number_of r) ≡ r
number-of AboveDomain = refl
number-of ShortSlice = refl
number-of BadLength = refl
number-of LengthPastSlice = refl
number-of ListFull = refl
number-of TableFull = refl
number-of NameOutside = refl
number-of TextFull = refl
number-of BadState = refl
number-of TooManyBytes = refl
number-of BadBuffer = refl
number-of NotARecord = refl

same-refusal : (r r' : Refusal) → number_of r ≡ number_of r' → r ≡ r'
same-refusal r r' e = sym (number-of r) ∙ ap of_number e ∙ number-of r'

-- two answers with one outcome are one answer
same_answer : (r r' : Result ℕ Refusal) → outcome r ≡ outcome r' → r ≡ r'
same_answer (Ok n) (Ok m) e = let p : n ≡ m = cc in ap Ok p
same_answer (Ok n) (Err m) e = let z : ◌≡◌ {A = ℕ} 0 1 = cc in absurd (omega arith)
same_answer (Err n) (Ok m) e = let z : ◌≡◌ {A = ℕ} 0 1 = cc in absurd (omega arith)
same_answer (Err n) (Err m) e = let p : number_of n ≡ number_of m = cc in ap Err (same-refusal n m p)

module _ (journal image slots : List ℕ) (used : ℕ) (entries : List CarvedMftEntry) where
  -- what `seed_from_carved` answers and leaves is what `seed` does on the flat list
  pub as-seed : (r r' : Result ℕ Refusal) (s s' : List ℕ) → Stores (seeded_from journal image slots used entries) slots r s
      → Stores (seeding (lengths_of journal image) (table slots used) (flatten entry_words entries)) slots r' s' → (r ≡ r') × (s ≡ s')
  as-seed r r' s s' e e' =
      let q = seeding-carved (lengths_of journal image) (table slots used) entries in (
        same_answer r r' (e.answer ∙ ap used_after (sym q) ∙ sym e'.answer),
        e.slots-are ∙ ap (λ (o : Outcome Table). words_after o slots) (sym q) ∙ sym e'.slots-are,
      )
