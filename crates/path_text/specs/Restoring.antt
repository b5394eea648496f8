-- Whether a name of the image is read from a restored entry.
use Rattle.std.specs.Prelude.{◌≡◌, List, Bool, true, false, ℕ}
use Rattle.base.specs.declared.Place.{Place}
use Rattle.mft_sectors.specs.Stored.{in_entry}
use Rattle.utf16.specs.Text.{name_text}
use Rattle.path_text.specs.Text.{entry_size, image_text}

-- what the answer to that says: if so, its place lies in one; if not, its text is that of the bytes as they are
pub record Restores (image : List ℕ) (p : Place) (r : Bool) : Type 0 where
  pub yes : r ≡ true → in_entry entry_size image p ≡ true
  pub no : r ≡ false → image_text image p.offset p.length ≡ name_text image p.offset p.length
