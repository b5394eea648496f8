-- What the call promises. The record says it of lists: what the lent slices hold before, and, with ', after. The promise itself takes the call's parameters.
use Rattle.std.specs.Prelude.{ℕ, ◌≡◌, List, length, Result}
use Rattle.base.specs.Lent.{Lent, MutLent, before, before_mut, after}
use Rattle.base.specs.Lists.{list_after}
use Rattle.base.specs.Outcome.{Outcome, outcome, map_outcome}
use Rattle.base.specs.declared.refusal.Refusal.{Refusal}
use Rattle.entry_slots.specs.declared.NamePlace.{NamePlace}
use Rattle.path_text.specs.Text.{place_text, place_length}
use Rattle.path_text.specs.Decoding.{place, place_decoding}

-- the name at a place: its answer, and its text
module _ (journal image : List ℕ) (p : NamePlace) (text : List ℕ) where
  abbrev pub decode_out : Outcome NamePlace
  decode_out = place_decoding journal image p (length text)

  pub record Decodes (r : Result ℕ Refusal) (text' : List ℕ) : Type 0 where
    pub answer : outcome r ≡ map_outcome (place_length journal image) decode_out
    pub written : text' ≡ list_after (place_text journal image) decode_out text

abbrev pub DecodePromise : Lent → Lent → ℕ → ℕ → ℕ → MutLent → Result ℕ Refusal → Type 0
DecodePromise journal image source offset size text r =
    Decodes (before journal) (before image) (place source offset size) (before_mut text) r (after text)
