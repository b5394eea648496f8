-- The text of the name at a place, by its source, and its length. Assumes nothing.
use Prim.Native.Nat.{ℕ, ◌+◌, ◌/◌, ◌≤◌, ◌<◌}
use mathlib.Core.Path.{◌≡◌, refl, ap, ◌∙◌}
use mathlib.Core.List.{List, [], ◌∷◌, ◌++◌}
use mathlib.Core.Bool.{Bool, true, false}
use native.Mathlib.Omega.{arith}
use borrow.Author.Tests.{eq-eqb, ne_eqb, leb-true, eqb-true, eqb-false}
use lib.ListN.{length, length-append, get_or}
use lib.Dec.{eqb}
use Rattle.base.specs.Refusals.{domain}
use Rattle.base.proofs.ChoiceLaws.{cond_cases}
use Rattle.utf16.specs.Text.{name_text}
use Rattle.utf16.proofs.TextLaws.{name-most, name-least}
use Rattle.entry_slots.specs.Names.{lengths_of, length_of, inside}
use Rattle.entry_slots.specs.declared.NamePlace.{NamePlace}
use Rattle.path_text.specs.Text.{image_text, place_text, step_text, step_most}
use Rattle.path_text.proofs.ImageLaws.{image-least, image-most}

module _ (journal image : List ℕ) (p : NamePlace) where
  -- the name lies in the journal
  module _ (s : p.source ≡ 0) where
    pub journal-text : place_text journal image p ≡ name_text journal p.offset p.length
    unfolding place_text
    journal-text = simp (eq-eqb _ _ s)

    pub journal-inside : inside (lengths_of journal image) p ≡ true → p.offset + p.length ≤ length journal
    unfolding inside
    journal-inside e = leb-true _ _ (simp (eq-eqb _ _ s) at e)

  -- the name lies in the image
  module _ (s : p.source ≡ 0 → ⊥) where
    pub image-text : place_text journal image p ≡ image_text image p.offset p.length
    unfolding place_text
    image-text = simp (ne_eqb _ _ s)

    pub image-inside : inside (lengths_of journal image) p ≡ true → p.offset + p.length ≤ length image
    unfolding inside
    image-inside e = leb-true _ _ (simp (ne_eqb _ _ s) at e)

  pub step-parts : step_text journal image p ≡ (0x5C ∷ []) ++ place_text journal image p
  unfolding step_text
  step-parts = refl

  pub step-long : length (step_text journal image p) ≡ 1 + length (place_text journal image p)
  step-long = ap length step-parts ∙ length-append (0x5C ∷ []) (place_text journal image p)

-- bytes of a slice
abbrev pub Bytes : List ℕ → Type 0
Bytes s = (i : ℕ) → get_or s i 0 < 256

-- what is known of the slices that a text is made of
pub record Sources (journal image : List ℕ) : Type 0 where
  pub journal_long : length journal ≤ domain
  pub image_long : length image ≤ domain
  pub journal_bytes : Bytes journal
  pub image_bytes : Bytes image

pub step-most : (journal image : List ℕ) (p : NamePlace) → Sources journal image → inside (lengths_of journal image) p ≡ true → length (step_text journal image p) ≤ step_most
step-most journal image p w e = go (eqb p.source 0) refl
  where
    go : (b : Bool) → eqb p.source 0 ≡ b → length (step_text journal image p) ≤ step_most
    go true s =
        let z = eqb-true p.source 0 s in
        omega (arith, step-long journal image p, ap length (journal-text journal image p z), journal-inside journal image p z e, name-most journal w.journal_bytes p.offset p.length, w.journal_long)
    go false s =
        let z = eqb-false p.source 0 s in
        omega (arith, step-long journal image p, ap length (image-text journal image p z), image-inside journal image p z e, image-most image p.offset p.length w.image_bytes, w.image_long)

-- a name takes a byte for each unit at least
pub place-least : (journal image : List ℕ) (p : NamePlace) → p.length / 2 ≤ length (place_text journal image p)
unfolding place_text
place-least journal image p =
    cond_cases (λ (t : List ℕ). p.length / 2 ≤ length t) (eqb p.source 0) (λ _. name-least journal p.offset p.length) (λ _. image-least image p.offset p.length)

-- the length of a name that is inside
pub inside-short : (journal image : List ℕ) (p : NamePlace) → inside (lengths_of journal image) p ≡ true → length journal ≤ domain → length image ≤ domain → p.length ≤ domain
unfolding inside
inside-short journal image p e hj hm = go (eqb p.source 0) refl (leb-true _ _ e)
  where
    go : (b : Bool) → eqb p.source 0 ≡ b → p.offset + p.length ≤ length_of (lengths_of journal image) p.source → p.length ≤ domain
    go true x l = let q : length_of (lengths_of journal image) p.source ≡ length journal = simp x in omega (arith, l, q)
    go false x l = let q : length_of (lengths_of journal image) p.source ≡ length image = simp x in omega (arith, l, q)
