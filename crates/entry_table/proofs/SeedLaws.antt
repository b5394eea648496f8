-- An index that is kept over several changes of the table, and what a call that may have none leaves. Assumes nothing.
use Prim.Native.Nat.{ℕ, ◌+◌, ◌≤◌, ◌<◌}
use mathlib.Core.Path.{◌≡◌, refl, ap, sym, ◌∙◌}
use mathlib.Core.List.{List, [], ◌∷◌, ◌++◌}
use mathlib.Core.Bool.{Bool, true, false, cond}
use native.Mathlib.Omega.{arith}
use borrow.Author.Tests.{leb-true}
use lib.ListN.{length}
use lib.Dec.{ltb, leb}
use Rattle.base.specs.Outcome.{Outcome, answered, outcome}
use Rattle.base.proofs.ChoiceLaws.{cond_cases, and_right}
use Rattle.entry_slots.specs.Slots.{slots_in}
use Rattle.base.specs.Lists.{rows}
use Rattle.entry_slots.specs.Table.{Table, table, Addition}
use Rattle.additions.specs.Storing.{adding}
use Rattle.entry_table.specs.Promise.{StoresBy}
use Rattle.base.specs.declared.refusal.Refusal.{Refusal}
use Rattle.std.specs.Prelude.{Result}
use Rattle.base.proofs.RowLaws.{length-rows}
use Rattle.additions.proofs.OneLaws.{added-table}
use Rattle.additions.proofs.AdditionLaws.{AddingRows, rows-added}
use Rattle.entry_table.proofs.AddingLaws.{none_after}
use Rattle.entry_slots.specs.Index.{head_of, next_of, heads_of, nexts_of, Indexed, heads_after, nexts_after, enough, heads_left, nexts_left}

-- an index of m hashes in words that were w, whatever table it was made of
length-heads : (m : ℕ) (t : Table) → length (heads_of m t) ≡ m
unfolding heads_of
length-heads m t = length-rows (head_of m t) 0 m

length-nexts : (m : ℕ) (t : Table) (w : List ℕ) → length (nexts_of m t w) ≡ length w
unfolding nexts_of
length-nexts m t w = cond_cases (λ (x : List ℕ). length x ≡ length w) (ltb 0 m) (λ _. length-rows (next_of m t) 0 (length w)) (λ _. refl)

-- the index of another table in its words is the same as in the words that were before it
nexts-over : (m : ℕ) (t u : Table) (w : List ℕ) → nexts_of m u (nexts_of m t w) ≡ nexts_of m u w
unfolding nexts_of
nexts-over m t u w = go (ltb 0 m) refl
  where
    go : (b : Bool) → ltb 0 m ≡ b → cond b (rows (next_of m u) 0 (length (cond b (rows (next_of m t) 0 (length w)) w))) (cond b (rows (next_of m t) 0 (length w)) w)
        ≡ cond b (rows (next_of m u) 0 (length w)) w
    go true e = rw (length-rows (next_of m t) 0 (length w))
    go false e = refl

module _ (m : ℕ) (t : Table) (w : List ℕ) {heads nexts : List ℕ} (x : heads ≡ heads_of m t) (y : nexts ≡ nexts_of m t w) where
  pub heads-long : length heads ≡ m
  heads-long = ap length x ∙ length-heads m t

  pub nexts-long : length nexts ≡ length w
  nexts-long = ap length y ∙ length-nexts m t w

  pub index-again : Indexed t heads nexts
  index-again = rw heads-long (x, y ∙ sym (nexts-over m t t w) ∙ ap (nexts_of m t) (sym y))

  -- and then that of another table
  pub index-then : {u : Table} {o : Outcome Table} {h n : List ℕ} → o ≡ answered u → h ≡ heads_after o heads → n ≡ nexts_after (length heads) o nexts
      → (h ≡ heads_of m u) × (n ≡ nexts_of m u w)
  index-then {u} e p q =
      (rw (e, heads-long) at p, (rw (e, heads-long) at q) ∙ ap (nexts_of m u) y ∙ nexts-over m t u w)

-- A loop makes additions, and the words keep the index of the table.
pub record Keeping (t₀ t : Table) (f : ℕ → Addition) (count i : ℕ) (heads₀ nexts₀ heads nexts : List ℕ) : Type 0 where
  pub made : AddingRows t₀ t f count i
  pub heads-kept : heads ≡ heads_of (length heads₀) t
  pub nexts-kept : nexts ≡ nexts_of (length heads₀) t nexts₀

module _ {t₀ t : Table} {f : ℕ → Addition} {count i : ℕ} {heads₀ nexts₀ heads nexts : List ℕ} (w : Keeping t₀ t f count i heads₀ nexts₀ heads nexts) where
  pub keeping-heads : length heads ≡ length heads₀
  keeping-heads = heads-long (length heads₀) t nexts₀ w.heads-kept w.nexts-kept

  pub keeping-nexts : length nexts ≡ length nexts₀
  keeping-nexts = nexts-long (length heads₀) t nexts₀ w.heads-kept w.nexts-kept

  pub keeping-index : (0 < length heads₀ → slots_in t₀.words ≤ length nexts₀) → Indexed t heads nexts × (0 < length heads → slots_in t.words ≤ length nexts)
  keeping-index room = (
    index-again (length heads₀) t nexts₀ w.heads-kept w.nexts-kept,
    λ h. omega (arith, room (omega (arith, keeping-heads)), keeping-nexts, w.made.rest.same),
  )

  pub keeping-next : {a : Addition} {r : Result ℕ Refusal} {n : ℕ} {s h x : List ℕ} → i < count → a ≡ f i → StoresBy (adding t (a ∷ [])) t.words heads nexts r s h x → outcome r ≡ answered n
      → Keeping t₀ (table s n) f count (i + 1) heads₀ nexts₀ h x
  keeping-next {a} h p y q =
      let both = index-then (length heads₀) t nexts₀ w.heads-kept w.nexts-kept (added-table t a y.store.answer y.store.slots-are q) y.heads-are y.nexts-are in
      record { made = rows-added w.made h p y.store.answer q y.store.slots-are; heads-kept = both.0; nexts-kept = both.1 }

-- where lent words are enough, there is a next for each slot
pub enough-room : (slots : ℕ) (heads nexts : List ℕ) → enough slots heads nexts ≡ true → slots ≤ length nexts
unfolding enough
enough-room slots heads nexts e = leb-true _ _ (and_right (ltb 0 (length heads)) (leb slots (length nexts)) e)

-- what is left by a call that has an index
pub left-built : (slots : ℕ) (o : Outcome Table) (heads nexts : List ℕ) {h n : List ℕ} → enough slots heads nexts ≡ true → (h ≡ heads_after o heads) × (n ≡ nexts_after (length heads) o nexts)
    → (h ≡ heads_left slots o heads nexts) × (n ≡ nexts_left slots o heads nexts)
left-built slots o heads nexts e x = (rw e x.0, rw e x.1)

-- and by one that goes without, with no heads lent to it
pub left-plain : (slots : ℕ) (o : Outcome Table) (heads nexts : List ℕ) {h n : List ℕ} → enough slots heads nexts ≡ false → (h ≡ heads_after o []) × (n ≡ nexts_after 0 o nexts)
    → (h ++ heads ≡ heads_left slots o heads nexts) × (n ≡ nexts_left slots o heads nexts)
left-plain slots o heads nexts e x =
    let none = none_after o [] nexts (omega arith) in
    (rw e (ap (λ (l : List ℕ). l ++ heads) (x.0 ∙ sym none.0)), rw e (x.1 ∙ sym none.1))
