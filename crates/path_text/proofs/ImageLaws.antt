-- The text of a name in the image: where it is that of the bytes as they are, where that of bytes copied from a restored entry, and its length.
-- Assumes nothing.
use Prim.Native.Nat.{ℕ, ◌+◌, ◌*◌, ◌/◌, ◌%◌, ◌≤◌, ◌<◌}
use mathlib.Core.Path.{◌≡◌, refl, ap, sym, ◌∙◌}
use mathlib.Core.List.{List}
use mathlib.Core.Bool.{Bool, true, false, false≢true}
use native.Mathlib.Omega.{arith}
use lib.ListN.{length, get_or, drop, length-append}
use Rattle.base.specs.Lists.{overwrite}
use Rattle.base.specs.Places.{part}
use Rattle.base.specs.declared.Place.{Place}
use Rattle.mft_sectors.specs.SectorEnds.{sector, body}
use Rattle.mft_sectors.specs.Stored.{in_entry, image_bytes}
use Rattle.mft_sectors.proofs.StoredLaws.{plain-bytes, as-stored, entry-bytes, place_short, image-bytes-small}
use Rattle.utf16.specs.Text.{name_text}
use Rattle.utf16.proofs.TextLaws.{name-most, name-least, name-part, name-front}
use Rattle.path_text.specs.Text.{entry_size, image_text}
use Rattle.path_text.specs.Restoring.{Restores}

-- for entries of any size
module _ (size : ℕ) (s : List ℕ) (p : Place) where
  abbrev text : List ℕ
  text = name_text (image_bytes size s p) 0 p.length

  module _ (l : p.offset + p.length ≤ length s) where
    as_is : image_bytes size s p ≡ part s p.offset p.length → text ≡ name_text s p.offset p.length
    as_is e = ap (λ (b : List ℕ). name_text b 0 p.length) e ∙ name-part s p.offset p.length l

    plain : size % sector ≡ 0 → p.offset % sector + p.length ≤ body → text ≡ name_text s p.offset p.length
    plain sectors u = as_is (plain-bytes size sectors s p l u)

    outside : in_entry size s p ≡ false → text ≡ name_text s p.offset p.length
    outside h = as_is (as-stored size s p h)

  copied : in_entry size s p ≡ true → (l : List ℕ) {m : List ℕ} → m ≡ overwrite l (image_bytes size s p) → text ≡ name_text m 0 p.length
  copied h l e = sym (ap (λ (b : List ℕ). name_text b 0 p.length) e ∙ name-front l (image_bytes size s p) p.length (entry-bytes size s p h))

-- whether a name that lies inside is read from a restored entry, by the tests that decide it
module _ (image : List ℕ) (p : Place) (l : p.offset + p.length ≤ length image) where
  pub not-met : p.offset % sector + p.length ≤ body → Restores image p false
  unfolding image_text
  not-met u = record { yes = λ e. absurd (false≢true e); no = λ _. plain entry_size image p l refl u }

  pub by-entry : {r : Bool} → r ≡ in_entry entry_size image p → Restores image p r
  unfolding image_text
  by-entry f = record { yes = λ e. sym f ∙ e; no = λ e. outside entry_size image p l (sym f ∙ e) }

-- a name that lies in an entry: its bytes have room, and the text is theirs
module _ (image : List ℕ) (p : Place) (h : in_entry entry_size image p ≡ true) where
  pub entry-room : {n : ℕ} → entry_size ≡ n → p.length ≤ n
  entry-room e = omega (arith, place_short entry_size image p h)

  pub copied-long : (l : List ℕ) {m : List ℕ} → m ≡ overwrite l (image_bytes entry_size image p) → 0 + p.length ≤ length m
  copied-long l e =
      let b : List ℕ = image_bytes entry_size image p in
      omega (arith, ap length e, length-append b (drop (length b) l), entry-bytes entry_size image p h)

  pub copied-text : (l : List ℕ) {m : List ℕ} → m ≡ overwrite l (image_bytes entry_size image p) → image_text image p.offset p.length ≡ name_text m 0 p.length
  unfolding image_text
  copied-text l e = copied entry_size image p h l e

-- one to three bytes for each unit
module _ (image : List ℕ) (offset n : ℕ) where
  abbrev bytes : List ℕ
  bytes = image_bytes entry_size image (record { offset = offset; length = n })

  pub image-least : n / 2 ≤ length (image_text image offset n)
  unfolding image_text
  image-least = name-least bytes 0 n

  pub image-most : ((i : ℕ) → get_or image i 0 < 256) → length (image_text image offset n) ≤ 3 * (n / 2)
  unfolding image_text
  image-most b = name-most bytes (image-bytes-small entry_size image (record { offset = offset; length = n }) b) 0 n
