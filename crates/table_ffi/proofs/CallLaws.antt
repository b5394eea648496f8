-- What the calls of the table have to show, and that they show it. Assumes nothing.
use Prim.Native.Nat.{ℕ, ◌≤◌, ◌<◌}
use mathlib.Core.Path.{◌≡◌, refl}
use mathlib.Core.List.{List}
use mathlib.Core.Bool.{false}
use lib.ListN.{length}
use Rattle.base.specs.Outcome.{Outcome, outcome}
use Rattle.base.specs.Refusals.{list_full}
use Rattle.base.specs.Words.{count_words, after_domain, Answers}
use Rattle.base.proofs.ChoiceLaws.{cond_same}
use Rattle.base.proofs.WordLaws.{out-same, out-mapped, Domain, domain-short, domain-enough}
use Rattle.entry_slots.specs.Slots.{slots_in}
use Rattle.entry_slots.specs.Table.{Table}
use Rattle.entry_slots.specs.Index.{enough}
use Rattle.additions.specs.Storing.{used_after, words_after}
use Rattle.std.specs.Prelude.{Result}
use Rattle.base.specs.declared.refusal.Refusal.{Refusal}
use Rattle.entry_table.specs.Promise.{StoresIndexed}
use Rattle.table_ffi.specs.Promise.{Stores, Seeds}

-- x is the outcome where the list takes the word
module _ (x : Outcome Table) (s l : List ℕ) where
  pub stores-short : Domain false x → length l < 1 → {r : ℕ} → r ≡ list_full → Stores (after_domain 1 (length l) x) s l r s l
  stores-short d h q = let e = domain-short x d h refl in rw (e, q) (record { answer = refl; table = refl; row = refl })

  pub stores-answered : 1 ≤ length l → (y : Result ℕ Refusal) → outcome y ≡ used_after x → {t m : List ℕ} {r : ℕ} → t ≡ words_after x s
      → Answers count_words (outcome y) l r m → Stores (after_domain 1 (length l) x) s l r t m
  stores-answered h y e g o = let p = out-mapped x (out-same o e) in rw (domain-enough x h) (record { answer = p.answer; table = g; row = p.row })

-- seeding by way of an index, likewise
module _ (x : Outcome Table) (s h n l : List ℕ) where
  pub seeds-short : Domain false x → length l < 1 → {r : ℕ} → r ≡ list_full → Seeds (after_domain 1 (length l) x) s h n l r s h n l
  seeds-short d q is =
      let e = domain-short x d q refl in
      rw (e, is)
      (record { store = record { answer = refl; table = refl; row = refl }; heads-are = cond_same (enough (slots_in s) h n) h; nexts-are = cond_same (enough (slots_in s) h n) n })

  pub seeds-answered : 1 ≤ length l → {y : Result ℕ Refusal} {t h' n' m : List ℕ} {r : ℕ} → StoresIndexed x s h n y t h' n' → Answers count_words (outcome y) l r m
      → Seeds (after_domain 1 (length l) x) s h n l r t h' n' m
  seeds-answered q c o =
      let p = out-mapped x (out-same o c.store.answer) in
      rw (domain-enough x q)
      (record { store = record { answer = p.answer; table = c.store.slots-are; row = p.row }; heads-are = c.heads-are; nexts-are = c.nexts-are })
