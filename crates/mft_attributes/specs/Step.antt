-- What the answers of the inner functions say.
use Rattle.std.specs.Prelude.{ℕ, ◌+◌, ◌<◌, ◌≡◌, List, [], ◌∷◌, Option, Some, None}
use Rattle.base.specs.Walk.{Visit, stop, go}
use Rattle.mft_attributes.specs.Filename.{Attribute, other, named, keep}
use Rattle.mft_attributes.specs.Attributes.{attribute_header_at, content_at, content_filename, attribute_at}
use Rattle.mft_attributes.specs.declared.filename.Filename.{Filename}
use Rattle.mft_attributes.specs.declared.attributes.AttributeStep.{AttributeStep}
use Rattle.mft_attributes.specs.declared.attributes.AttributeStep.TheVariants.{End, Other, Named}

-- the name that the content at c of an entry has
abbrev pub filename_at : List ℕ → ℕ → Filename
filename_at e c = content_filename c (content_at e c)

-- the name that is kept where that of this content is
abbrev pub kept_at : List ℕ → Option ℕ → Option Filename
kept_at e None = None
kept_at e (Some c) = Some (filename_at e c)

-- the content, if there is one, begins inside an entry of so many bytes
abbrev pub Inside : ℕ → Option ℕ → Type 0
Inside n None = Unit {0}
Inside n (Some c) = c < n

-- a step to the next attribute of an entry as a visit
abbrev pub attribute_of : List ℕ → AttributeStep → Visit Attribute
attribute_of e End = stop
attribute_of e (Other p) = go (other ∷ []) p
attribute_of e (Named c p) = go (named (filename_at e c) ∷ []) p

-- the attribute of so many bytes at a is passed
abbrev pub Walked : List ℕ → ℕ → ℕ → AttributeStep → Type 0
Walked e a size r = attribute_of e r ≡ go (attribute_at e a (attribute_header_at e a) ∷ []) (a + size)

-- of the content at best, if there is one, and that at c the one is taken whose name is kept
abbrev pub Better : List ℕ → Option ℕ → ℕ → ℕ → Type 0
Better e best c r = kept_at e (Some r) ≡ keep (kept_at e best) (filename_at e c)
