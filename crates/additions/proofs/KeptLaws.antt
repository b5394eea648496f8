-- What additions leave alone: the length of the lent words, and every word after the used slots. Assumes nothing.
use Prim.Native.Nat.{ℕ, ◌*◌, ◌≤◌, ◌<◌}
use mathlib.Core.Path.{◌≡◌, refl, ◌∙◌}
use mathlib.Core.List.{List, [], ◌∷◌}
use mathlib.Core.Bool.{Bool, true, false}
use native.Mathlib.Omega.{arith}
use lib.ListN.{length, get_or}
use Rattle.entry_slots.specs.Slots.{stride}
use Rattle.entry_slots.specs.Table.{Table, find, Addition, add_found, add}
use Rattle.additions.specs.Storing.{add_all}
use Rattle.std.specs.Prelude.{Option, Some, None}
use Rattle.entry_slots.proofs.PutLaws.{length-put, put-after}
use Rattle.entry_slots.proofs.TableLaws.{find-used}

-- u has come from t: no fewer slots are used, and only words of the used ones have changed
pub record Kept (t u : Table) : Type 0 where
  pub grows : t.used ≤ u.used
  pub long : length u.words ≡ length t.words
  pub after : (p : ℕ) → u.used * stride ≤ p → get_or u.words p 0 ≡ get_or t.words p 0

kept-itself : (t : Table) → Kept t t
kept-itself t = record { grows = omega arith; long = refl; after = λ p h. refl }

kept_then : {t u v : Table} → Kept t u → Kept u v → Kept t v
kept_then x y =
    record {
      grows = omega (arith, x.grows, y.grows);
      long = y.long ∙ x.long;
      after = λ p h. y.after p h ∙ x.after p (omega (arith, y.grows));
    }

pub add-keeps : (t : Table) (a : Addition) → Kept t (add t a)
unfolding add_found
add-keeps t a = go (find t a.key) refl a.replace refl
  where
    go : (f : Option ℕ) → find t a.key ≡ f → (r : Bool) → a.replace ≡ r → Kept t (add_found t a f)
    go (Some i) e true r =
        rw r
        (let below : i < t.used = find-used t a.key i e in
        record {
          grows = omega arith;
          long = length-put t.words i a.key a.info;
          after = λ p h. put-after t.words i a.key a.info p (omega arith);
        })
    go (Some i) e false r = rw r (kept-itself t)
    go None e r q =
        record {
          grows = omega arith;
          long = length-put t.words t.used a.key a.info;
          after = λ p h. put-after t.words t.used a.key a.info p (omega arith);
        }

pub all-kept : (t : Table) (xs : List Addition) → Kept t (add_all t xs)
unfolding add_all
all-kept t [] = kept-itself t
all-kept t (x ∷ xs) = kept_then (add-keeps t x) (all-kept (add t x) xs)
