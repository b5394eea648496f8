-- The names of a way, from its last slot on: their text, the bytes of it, and the most that these can be. Assumes nothing.
use Prim.Native.Nat.{ℕ, zero, suc, ◌+◌, ◌-◌, ◌*◌, ◌/◌, ◌≤◌, ◌<◌}
use mathlib.Core.Path.{◌≡◌, refl, ap, sym, ◌∙◌}
use mathlib.Core.List.{List, [], ◌++◌}
use mathlib.Core.Bool.{Bool, true, false}
use native.Mathlib.Omega.{arith}
use borrow.Author.Tests.{le-leb, lt-leb, leb-true, leb-false, eqb-true, eqb-false}
use lib.ListN.{length, length-append, get_or}
use lib.Dec.{leb, eqb}
use Rattle.utf16.proofs.TextLaws.{name-most}
use Rattle.entry_slots.specs.Names.{lengths_of, inside}
use Rattle.entry_slots.specs.Slots.{slot_name}
use Rattle.entry_slots.specs.declared.NamePlace.{NamePlace}
use Rattle.chain.specs.Chain.{Chain}
use Rattle.chain.specs.Way.{way_places, step_bound, names_bound, chain_by}
use Rattle.chain.specs.declared.way.Climbed.{Climbed}
use Rattle.chain.proofs.WayLaws.{places-less, places-none, bound-short}
use Rattle.path_text.specs.Text.{end_text, place_text, step_text, names_text, path_text}
use Rattle.path_text.proofs.ImageLaws.{image-most}
use Rattle.path_text.proofs.NameLaws.{Sources, step-long, journal-text, image-text, inside-short}
use Rattle.path.specs.Ways.{entry_text}
use Rattle.path.specs.Promise.{WayAsks}

-- whether a number of bytes has room
pub fits-so : (whole room : ℕ) → whole ≤ room → true ≡ leb whole room
fits-so whole room h = sym (le-leb whole room h)

pub fits_not : (whole room : ℕ) → room < whole → false ≡ leb whole room
fits_not whole room h = sym (lt-leb whole room h)

-- a part has room in what another leaves exactly if both have
pub fits-less : (part own room : ℕ) {whole : ℕ} → own ≤ room → whole ≡ part + own → leb part (room - own) ≡ leb whole room
fits-less part own room {whole} h e = go (leb whole room) refl
  where
    go : (b : Bool) → leb whole room ≡ b → leb part (room - own) ≡ b
    go true q = le-leb part (room - own) (omega (arith, leb-true whole room q))
    go false q = lt-leb part (room - own) (omega (arith, leb-false whole room q))

-- the last slot's name, and then those of the slots before it
module _ (words way : List ℕ) (n : ℕ) (some : 0 < n) where
  abbrev last : NamePlace
  last = slot_name words (get_or way (n - 1) 0)

  module _ (journal image : List ℕ) where
    pub text-less : names_text journal image (way_places words way n) ≡ step_text journal image last ++ names_text journal image (way_places words way (n - 1))
    text-less = ap (names_text journal image) (places-less words way n some)

    pub bytes-less : length (names_text journal image (way_places words way n)) ≡ 1 + length (place_text journal image last) + length (names_text journal image (way_places words way (n - 1)))
    bytes-less =
        omega (arith, ap length text-less, length-append (step_text journal image last) (names_text journal image (way_places words way (n - 1))), step-long journal image last)

-- no name is left
pub text-none : (words way journal image : List ℕ) {n : ℕ} → n ≡ 0 → names_text journal image (way_places words way n) ≡ []
text-none words way journal image e = rw (e, places-none words way)

module _ (journal image : List ℕ) where
  pub path-parts : (c : Chain) → path_text journal image c ≡ end_text c.end ++ names_text journal image c.places
  unfolding path_text
  path-parts c = refl

  pub path-long : (c : Chain) → length (path_text journal image c) ≡ length (end_text c.end) + length (names_text journal image c.places)
  path-long c = ap length (path-parts c) ∙ length-append (end_text c.end) (names_text journal image c.places)

  -- the parent's path, and then the own name
  pub entry-parts : (c : Chain) (p : NamePlace) → entry_text journal image c p ≡ path_text journal image c ++ step_text journal image p
  unfolding entry_text
  entry-parts c p = refl

  pub entry-long : (c : Chain) (p : NamePlace) → length (entry_text journal image c p) ≡ length (path_text journal image c) + (1 + length (place_text journal image p))
  entry-long c p = omega (arith, ap length (entry-parts c p), length-append (path_text journal image c) (step_text journal image p), step-long journal image p)

  -- three bytes for each unit are enough
  module _ (w : Sources journal image) where
    step-three : (p : NamePlace) → length (step_text journal image p) ≤ 1 + 3 * (p.length / 2)
    step-three p = go (eqb p.source 0) refl
      where
        go : (b : Bool) → eqb p.source 0 ≡ b → length (step_text journal image p) ≤ 1 + 3 * (p.length / 2)
        go true s = omega (arith, step-long journal image p, ap length (journal-text journal image p (eqb-true p.source 0 s)), name-most journal w.journal_bytes p.offset p.length)
        go false s = omega (arith, step-long journal image p, ap length (image-text journal image p (eqb-false p.source 0 s)), image-most image p.offset p.length w.image_bytes)

    pub step-enough : (p : NamePlace) → inside (lengths_of journal image) p ≡ true → length (step_text journal image p) ≤ step_bound p
    step-enough p h =
        let short = inside-short journal image p h w.journal_long w.image_long in
        omega (arith, step-three p, bound-short p (omega (arith, short)))

    -- and the bound of a way whose names are inside is enough for its path
    names-enough : (words way : List ℕ) (n : ℕ) → ((i : ℕ) → i < n → inside (lengths_of journal image) (slot_name words (get_or way i 0)) ≡ true)
        → length (names_text journal image (way_places words way n)) ≤ names_bound (way_places words way n)
    unfolding way_places names_bound
    names-enough words way zero h = omega arith
    names-enough words way (suc n) h =
        let p : NamePlace = slot_name words (get_or way n 0) in
        omega
        (arith, length-append (step_text journal image p) (names_text journal image (way_places words way n)), step-enough p (h n (omega arith)), names-enough words way n (λ i g. h i (omega arith)))

    pub path-enough : (words way : List ℕ) (up : Climbed) → WayAsks journal image words way up
        → length (path_text journal image (chain_by words way up)) ≤ length (end_text up.end) + up.bound
    path-enough words way up asks = omega (arith, path-long (chain_by words way up), names-enough words way up.names asks.insides, asks.bounds)
