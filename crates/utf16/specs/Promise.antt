-- What the call promises. The record says it of lists: what the lent slices hold before, and, with ', after. The promise itself takes the call's parameters.
use Rattle.std.specs.Prelude.{ℕ, ◌≡◌, List, length, Result}
use Rattle.base.specs.Lent.{Lent, MutLent, before, before_mut, after}
use Rattle.base.specs.Outcome.{outcome}
use Rattle.base.specs.declared.refusal.Refusal.{Refusal}
use Rattle.utf16.specs.Decoding.{decoding, text_after}

-- decoding: its answer, and the text
pub record Decodes (bytes text : List ℕ) (r : Result ℕ Refusal) (text' : List ℕ) : Type 0 where
  pub answer : outcome r ≡ decoding bytes (length text)
  pub written : text' ≡ text_after bytes text

abbrev pub DecodePromise : Lent → MutLent → Result ℕ Refusal → Type 0
DecodePromise bytes text r = Decodes (before bytes) (before_mut text) r (after text)
