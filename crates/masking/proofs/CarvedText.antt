-- The text of every name that the image carver lists is that of its restored entry: carving and decoding take entries of the same size. Assumes nothing.
use Prim.Native.Nat.{ℕ, ◌-◌}
use mathlib.Core.Path.{◌≡◌, refl, ap}
use mathlib.Core.List.{List, [], ◌∷◌}
use native.Mathlib.Omega.{arith}
use Rattle.base.specs.Lists.{All}
use Rattle.base.specs.Places.{part}
use Rattle.mft_sectors.specs.SectorEnds.{restored}
use Rattle.mft_carver.specs.Settings.{standard}
use Rattle.mft_carver.specs.Carve.{entry_bytes, entries_in}
use Rattle.mft_carver.specs.declared.CarvedMftEntry.{CarvedMftEntry}
use Rattle.mft_carver.proofs.DecodedLaws.{Decoded, carved-decoded}
use Rattle.utf16.specs.Text.{name_text}
use Rattle.path_text.specs.Text.{entry_size, image_text, place_text}

pub same_size : entry_size ≡ standard.size
same_size = refl

-- the text of an entry's name, by its place in the image
abbrev pub Told : List ℕ → List ℕ → CarvedMftEntry → Type 0
Told journal image x =
    place_text journal image (record { source = 1; offset = x.filename.offset; length = x.filename.length })
    ≡ name_text (part (restored (entry_bytes standard image x.offset)) (x.filename.offset - x.offset) x.filename.length) 0 x.filename.length

each : (journal image : List ℕ) (xs : List CarvedMftEntry) → All (Decoded standard image) xs → All (Told journal image) xs
unfolding place_text image_text
each journal image [] h = tt
each journal image (x ∷ xs) h = (ap (λ (s : List ℕ). name_text s 0 x.filename.length) h.0, each journal image xs h.1)

pub carved-text : (journal image : List ℕ) → All (Told journal image) (entries_in standard image)
carved-text journal image = each journal image (entries_in standard image) (carved-decoded standard (omega arith) image)
