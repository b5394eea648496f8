-- The bytes that a stored place of an image is decoded from: those of the restored entry where it lies in one, else the image's as they are.
use Rattle.std.specs.Prelude.{ℕ, ◌+◌, ◌-◌, ◌*◌, ◌/◌, List, Bool, cond, ◌&&◌, length, leb}
use Rattle.base.specs.Places.{part}
use Rattle.base.specs.declared.Place.{Place}
use Rattle.mft_sectors.specs.Signature.{has_signature}
use Rattle.mft_sectors.specs.SectorEnds.{sound, restored}

-- the visited offset at or below i, where entries have so many bytes, and the entry there
abbrev pub entry_start : ℕ → ℕ → ℕ
entry_start size i = i / size * size

abbrev pub entry_around : ℕ → List ℕ → Place → List ℕ
entry_around size s p = part s (entry_start size p.offset) size

-- a place, by its length as stored, lies in one entry that is whole in the image, begins with the signature and has a sound array; nothing else is
-- asked of the entry
unfoldable pub in_entry : ℕ → List ℕ → Place → Bool
in_entry size s p =
    let end = entry_start size p.offset + size in
    leb end (length s) && leb (p.offset + p.length) end && has_signature (entry_around size s p) && sound (entry_around size s p)

-- the bytes that it is decoded from
unfoldable pub image_bytes : ℕ → List ℕ → Place → List ℕ
image_bytes size s p =
    cond (in_entry size s p)
    (part (restored (entry_around size s p)) (p.offset - entry_start size p.offset) p.length)
    (part s p.offset p.length)
