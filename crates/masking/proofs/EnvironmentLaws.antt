-- What rewinds know of a journal and an image is the same in two runs whose sources are as long and whose listed records are the same.
-- Assumes nothing.
use Prim.Native.Nat.{ℕ, zero, suc, ◌+◌, ◌*◌}
use mathlib.Core.Path.{◌≡◌, refl, ap, ◌∙◌}
use mathlib.Core.List.{List, [], ◌∷◌, map}
use native.Mathlib.Omega.{arith}
use lib.ListN.{length, get_or}
use Rattle.base.specs.Lists.{flatten, place_words, All, rows}
use Rattle.base.specs.declared.Place.{Place}
use Rattle.usn_record.specs.Record.{listed}
use Rattle.additions.specs.Entries.{entry_at}
use Rattle.rewind_records.specs.Environment.{environment_of}
use Rattle.additions.specs.Walking.{offset_in, offsets_in, records_in}

-- rows by another numbering that gives the same
rows-shift : {A : Type 0} (f g : ℕ → A) → ((i : ℕ) → g (i + 1) ≡ f i) → (i n : ℕ) → rows g (i + 1) n ≡ rows f i n
unfolding rows
rows-shift f g h i zero = refl
rows-shift f g h i (suc n) = let e = rows-shift f g h (i + 1) n in let k = h i in cc

next-offset : (a b : ℕ) (l : List ℕ) (i : ℕ) → offset_in (a ∷ b ∷ l) (i + 1) ≡ offset_in l i
next-offset a b l i = let e : (i + 1) * 2 ≡ suc (suc (i * 2)) = omega arith in ap (λ (k : ℕ). get_or (a ∷ b ∷ l) k 0) e

-- the offsets in a list of places are the places' offsets
pub offsets-of : (ps : List Place) → offsets_in (flatten place_words ps) ≡ map (λ (p : Place). p.offset) ps
unfolding rows
offsets-of [] = refl
offsets-of (p ∷ ps) =
    let rest = flatten place_words ps in
    let l = p.offset ∷ p.length ∷ rest in
    let n : records_in l ≡ suc (records_in rest) = omega arith in
    let shifted = rows-shift (offset_in rest) (offset_in l) (next-offset p.offset p.length rest) 0 (records_in rest) in
    rw n (ap (λ (r : List ℕ). p.offset ∷ r) (shifted ∙ offsets-of ps))

module _ (journal journal' : List ℕ) where
  -- the same records make the same entries
  entries-same : (ps : List Place) → All (λ p. listed journal' p.offset ≡ listed journal p.offset) ps
      → map (entry_at journal') (map (λ (p : Place). p.offset) ps) ≡ map (entry_at journal) (map (λ (p : Place). p.offset) ps)
  entries-same [] h = refl
  entries-same (p ∷ ps) h = let k = entries-same ps h.1 in rw (h.0, k)

  pub environment-same : (image image' : List ℕ) (ps : List Place) → length journal' ≡ length journal → length image' ≡ length image
      → All (λ p. listed journal' p.offset ≡ listed journal p.offset) ps
      → environment_of journal' image' (flatten place_words ps) ≡ environment_of journal image (flatten place_words ps)
  environment-same image image' ps e f h = rw (e, f, offsets-of ps, entries-same ps h)
