-- The count of new keys, and additions in turn for which there is room. Assumes nothing.
use Prim.Native.Nat.{ℕ, ◌+◌, ◌≤◌}
use mathlib.Core.Path.{◌≡◌, refl, ap, sym, ◌∙◌}
use mathlib.Core.List.{List, [], ◌∷◌}
use mathlib.Core.Bool.{Bool, true, false, cond, ◌||◌}
use native.Mathlib.Omega.{arith}
use borrow.Author.Tests.{le-ltb}
use lib.ListN.{length}
use Rattle.base.specs.Outcome.{Outcome, refused, answered}
use Rattle.entry_slots.specs.Slots.{slots_in, same_key}
use Rattle.entry_slots.specs.Table.{Table, table, known, Addition, add}
use Rattle.additions.specs.Storing.{add_all, new_keys, keys_of, adding, used_after, words_after}
use Rattle.entry_slots.specs.declared.EntryKey.{EntryKey}
use Rattle.entry_slots.proofs.TableLaws.{used-added, length-added, known-added}
use Rattle.additions.proofs.StoringLaws.{adding-one}

-- the count goes by what is known
pub new-same : (f g : EntryKey → Bool) → ((k : EntryKey) → f k ≡ g k) → (ks : List EntryKey) → new_keys f ks ≡ new_keys g ks
new-same f g e ks = ap (λ (h : EntryKey → Bool). new_keys h ks) (λ z k. e k z)

one_at_most : (b : Bool) → cond b 0 1 ≤ 1
one_at_most true = omega arith
one_at_most false = omega arith

-- there are no more new keys than keys
pub new-at-most : (f : EntryKey → Bool) (ks : List EntryKey) → new_keys f ks ≤ length ks
unfolding new_keys
new-at-most f [] = omega arith
new-at-most f (k ∷ ks) = omega (arith, one_at_most (f k), new-at-most (λ j. f j || same_key k j) ks)

-- the count of a list, by its first key
pub new-first : (f : EntryKey → Bool) (k : EntryKey) (ks : List EntryKey) → new_keys f (k ∷ ks) ≡ cond (f k) 0 1 + new_keys (λ j. f j || same_key k j) ks
unfolding new_keys
new-first f k ks = refl

pub new_none : (f : EntryKey → Bool) → new_keys f [] ≡ 0
unfolding new_keys
new_none f = refl

-- where there is room, additions come out
pub adding-room : (t : Table) (xs : List Addition) → t.used + new_keys (known t) (keys_of xs) ≤ slots_in t.words → adding t xs ≡ answered (add_all t xs)
unfolding adding
adding-room t xs h = rw (adding, le-ltb _ _ h)

-- A loop that adds has made t of t₀, and of all the additions those of todo are still to be made: they have room, and what they
-- lead to is what all of them lead to.
pub record Adding (t₀ t : Table) (todo all : List Addition) : Type 0 where
  pub same : length t.words ≡ length t₀.words
  pub room : t.used + new_keys (known t) (keys_of todo) ≤ slots_in t.words
  pub ends : add_all t todo ≡ add_all t₀ all

pub adding-start : (t : Table) (all : List Addition) → t.used + new_keys (known t) (keys_of all) ≤ slots_in t.words → Adding t t all all
adding-start t all h = record { same = refl; room = h; ends = refl }

module _ {t₀ t : Table} {todo all : List Addition} (w : Adding t₀ t todo all) {a : Addition} {rest : List Addition} (e : todo ≡ a ∷ rest) where
  left : t.used + new_keys (known t) (keys_of (a ∷ rest)) ≤ slots_in t.words
  left = rw e at w.room

  -- the next one has a slot
  pub adding-slot : t.used + cond (known t a.key) 0 1 ≤ slots_in t.words
  adding-slot = omega (arith, left, new-first (known t) a.key (keys_of rest))

  pub adding-next : Adding t₀ (add t a) rest all
  unfolding add_all
  adding-next =
      record {
        same = length-added t a adding-slot ∙ w.same;
        room =
            omega (
              arith,
              left,
              new-first (known t) a.key (keys_of rest),
              used-added t a adding-slot,
              new-same (known (add t a)) (λ j. known t j || same_key a.key j) (known-added t a adding-slot) (keys_of rest),
              length-added t a adding-slot,
            );
        ends = ap (add_all t) (sym e) ∙ w.ends;
      }

-- each new key takes a slot
pub used_all : (t : Table) (xs : List Addition) → t.used + new_keys (known t) (keys_of xs) ≤ slots_in t.words
    → (add_all t xs).used ≡ t.used + new_keys (known t) (keys_of xs)
unfolding add_all
used_all t [] room = omega (arith, new_none (known t))
used_all t (x ∷ xs) room =
    let w : Adding t t (x ∷ xs) (x ∷ xs) = adding-start t (x ∷ xs) room in
    omega (
      arith,
      used_all (add t x) xs (adding-next w refl).room,
      used-added t x (adding-slot w refl),
      new-first (known t) x.key (keys_of xs),
      new-same (known (add t x)) (λ j. known t j || same_key x.key j) (known-added t x (adding-slot w refl)) (keys_of xs),
    )

pub adding-end : {t₀ t : Table} {todo all : List Addition} → Adding t₀ t todo all → todo ≡ [] → t ≡ add_all t₀ all
unfolding add_all
adding-end {t₀} {t} w e = ap (add_all t) (sym e) ∙ w.ends

-- what one addition answers and leaves, where it has a slot
module _ (t : Table) (a : Addition) (h : t.used + cond (known t a.key) 0 1 ≤ slots_in t.words) where
  comes : adding t (a ∷ []) ≡ answered (add t a)
  comes = adding-one t a ∙ rw (le-ltb _ _ h)

  pub added-used : {o : Outcome ℕ} {n : ℕ} {s : List ℕ} → o ≡ used_after (adding t (a ∷ [])) → o ≡ answered n → s ≡ words_after (adding t (a ∷ [])) t.words
      → table s n ≡ add t a
  added-used {o} {n} {s} x y z =
      let used : answered n ≡ answered (add t a).used = sym y ∙ x ∙ ap used_after comes in
      let p : s ≡ (add t a).words = z ∙ ap (λ (p : Outcome Table). words_after p t.words) comes in
      let q : n ≡ (add t a).used = cc in
      λ z. record { words = p z; used = q z }

  pub added-refused : {o : Outcome ℕ} {n : ℕ} → o ≡ used_after (adding t (a ∷ [])) → o ≡ refused n → ⊥
  added-refused x y =
      let e = sym y ∙ x ∙ ap used_after comes in
      let z : ◌≡◌ {A = ℕ} 0 1 = cc in
      omega arith
