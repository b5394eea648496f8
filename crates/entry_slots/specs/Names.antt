-- Where names lie: in the journal or in the image, of which the table knows the lengths alone.
use Rattle.std.specs.Prelude.{ℕ, ◌+◌, List, Bool, cond, length, leb, eqb}
use Rattle.base.specs.Lists.{every}
use Rattle.entry_slots.specs.declared.NamePlace.{NamePlace}

-- source 0 is the journal, any other the image
abbrev pub source_of : {A : Type 0} → A → A → ℕ → A
source_of journal image source = cond (eqb source 0) journal image

-- the lengths of journal and image: all that a table knows of them
pub record Lengths : Type 0 where
  pub journal : ℕ
  pub image : ℕ

abbrev pub lengths : ℕ → ℕ → Lengths
lengths journal image = record { journal = journal; image = image }

-- those of these bytes
abbrev pub lengths_of : List ℕ → List ℕ → Lengths
lengths_of journal image = lengths (length journal) (length image)

-- the length of the slice that a source names
abbrev pub length_of : Lengths → ℕ → ℕ
length_of ls source = source_of ls.journal ls.image source

-- a name's place, as stored, ends inside its slice
unfoldable pub inside : Lengths → NamePlace → Bool
inside ls p = leb (p.offset + p.length) (length_of ls p.source)

-- all of these do
abbrev pub all_inside : Lengths → List NamePlace → Bool
all_inside ls = every (inside ls)
