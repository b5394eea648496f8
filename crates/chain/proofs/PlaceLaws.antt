-- The words of a chain's places in a lent list: those of a way, stored one after the other. Assumes nothing.
use Prim.Native.Nat.{ℕ, ◌*◌, ◌/◌, ◌≤◌, ◌<◌}
use mathlib.Core.Path.{◌≡◌, refl, sym, ◌∙◌}
use mathlib.Core.List.{List, [], ◌∷◌, ◌++◌, append_assoc, append-nil}
use native.Mathlib.Omega.{arith}
use borrow.Author.Tests.{le-leb, lt-leb}
use lib.ListN.{length}
use Rattle.base.specs.Lists.{flatten}
use Rattle.base.proofs.ListLaws.{Writing, length-flatten, writing-end}
use Rattle.entry_slots.specs.declared.NamePlace.{NamePlace}
use Rattle.chain.specs.Chain.{source_words, chain_words}
use Rattle.chain.specs.Tracing.{with_places}

-- one thing more at the end
pub flatten-more : {A : Type 0} (words : A → List ℕ) (xs : List A) (x : A) → flatten words (xs ++ (x ∷ [])) ≡ flatten words xs ++ words x
flatten-more words [] x = append-nil (words x)
flatten-more words (y ∷ xs) x = rw (flatten-more words xs x) (sym (append_assoc (words y) (flatten words xs) (words x)))

pub place-row : (p : NamePlace) → length (source_words p) ≡ 3
place-row p = refl

pub words-length : (ps : List NamePlace) → length (chain_words ps) ≡ 3 * length ps
words-length ps = length-flatten source_words 3 place-row ps

-- a list that has no room for all places is left alone, and one that has holds them in front
module _ (l : List ℕ) (ps : List NamePlace) where
  pub listed-none : length l / 3 < length ps → l ≡ with_places l ps
  unfolding with_places
  listed-none h = sym (simp (lt-leb (length (chain_words ps)) (length l) (omega (arith, words-length ps))))

  pub listed-all : length ps ≤ length l / 3 → {m : List ℕ} {i : ℕ} → Writing source_words 3 l m i [] ps → m ≡ with_places l ps
  unfolding with_places
  listed-all h w =
      writing-end source_words 3 place-row w refl h ∙ sym (simp (le-leb (length (chain_words ps)) (length l) (omega (arith, words-length ps))))
