-- The calls that store: each way out by its tests. Assumes nothing.
use Prim.Native.Nat.{ℕ, ◌+◌, ◌≤◌, ◌<◌}
use mathlib.Core.Path.{◌≡◌, ◌∙◌}
use mathlib.Core.List.{List, [], ◌∷◌}
use mathlib.Core.Bool.{true, false, cond}
use native.Mathlib.Omega.{arith}
use native.Mathlib.Nat.{add-zero}
use borrow.Author.Tests.{lt-ltb, le-ltb}
use lib.Dec.{ltb}
use Rattle.base.specs.Outcome.{refused, answered}
use Rattle.base.specs.Refusals.{bad_state, name_outside, table_full}
use Rattle.entry_slots.specs.Names.{Lengths, all_inside}
use Rattle.entry_slots.specs.Slots.{slots_in, put_at}
use Rattle.entry_slots.specs.Table.{Table, table, find, known, Addition, add_found, add}
use Rattle.additions.specs.Storing.{add_all, new_keys, keys_of, names_of, adding, storing}
use Rattle.std.specs.Prelude.{Option, Some, None}

-- one addition: it wants a slot where its key is new
pub adding-one : (t : Table) (a : Addition)
    → adding t (a ∷ []) ≡ cond (ltb (slots_in t.words) (t.used + cond (known t a.key) 0 1)) (refused table_full) (answered (add t a))
unfolding adding new_keys add_all
adding-one t a = rw (adding, new_keys, new_keys, add-zero)

-- more new keys than slots are left
pub adding-full : (t : Table) (xs : List Addition) → slots_in t.words < t.used + new_keys (known t) (keys_of xs) → adding t xs ≡ refused table_full
unfolding adding
adding-full t xs h = rw (adding, lt-ltb _ _ h)

module _ (t : Table) (a : Addition) {f : Option ℕ} (e : f ≡ find t a.key) where
  pub add-over : {i : ℕ} → f ≡ Some i → t.used ≤ slots_in t.words → a.replace ≡ true
      → adding t (a ∷ []) ≡ answered (table (put_at t.words i a.key a.info) t.used)
  unfolding add_found
  add-over g h r = adding-one t a ∙ rw (← e, g, add-zero t.used, le-ltb _ _ h, r)

  pub add_kept : {i : ℕ} → f ≡ Some i → t.used ≤ slots_in t.words → a.replace ≡ false → adding t (a ∷ []) ≡ answered t
  unfolding add_found
  add_kept g h r = adding-one t a ∙ rw (← e, g, add-zero t.used, le-ltb _ _ h, r)

  pub add-new : f ≡ None → t.used < slots_in t.words
      → adding t (a ∷ []) ≡ answered (table (put_at t.words t.used a.key a.info) (t.used + 1))
  unfolding add_found
  add-new g h = adding-one t a ∙ rw (← e, g, le-ltb (slots_in t.words) (t.used + 1) (omega arith))

  pub add-full : f ≡ None → slots_in t.words ≤ t.used → adding t (a ∷ []) ≡ refused table_full
  unfolding add_found
  add-full g h = adding-one t a ∙ rw (← e, g, lt-ltb (slots_in t.words) (t.used + 1) (omega arith))

-- the tests before it
module _ (ls : Lengths) (t : Table) (xs : List Addition) where
  pub stored-bad-state : slots_in t.words < t.used → storing ls t xs ≡ refused bad_state
  unfolding storing
  stored-bad-state h = rw (storing, lt-ltb _ _ h)

  pub stored-outside : t.used ≤ slots_in t.words → all_inside ls (names_of xs) ≡ false → storing ls t xs ≡ refused name_outside
  unfolding storing
  stored-outside h e = rw (storing, le-ltb _ _ h, e)

  pub stored-inside : t.used ≤ slots_in t.words → all_inside ls (names_of xs) ≡ true → storing ls t xs ≡ adding t xs
  unfolding storing
  stored-inside h e = rw (storing, le-ltb _ _ h, e)
