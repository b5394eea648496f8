-- The outcome of a call with text, and that of a stored name. This layer alone knows the bytes of journal and image, and how much room there is for text.
use Rattle.std.specs.Prelude.{ℕ, List, cond, not, length, ltb}
use Rattle.base.specs.Outcome.{Outcome, refused, answered}
use Rattle.base.specs.Refusals.{name_outside, text_full}
use Rattle.entry_slots.specs.Names.{Lengths, lengths_of, inside}
use Rattle.entry_slots.specs.declared.NamePlace.{NamePlace}
use Rattle.chain.specs.Tracing.{in_domain}
use Rattle.path_text.specs.Text.{place_text}

-- an outcome whose answer has a text, for which there is room for so many bytes: 8: the text is longer
abbrev pub with_text : {A : Type 0} → (A → List ℕ) → ℕ → Outcome A → Outcome A
with_text text room (refused n) = refused n
with_text text room (answered a) = cond (ltb room (length (text a))) (refused text_full) (answered a)

-- a name's place: 1; 7: it is outside its slice
unfoldable pub placing : Lengths → NamePlace → Outcome NamePlace
placing ls p = in_domain ls (cond (not (inside ls p)) (refused name_outside) (answered p))

abbrev pub place : ℕ → ℕ → ℕ → NamePlace
place source offset size = record { source = source; offset = offset; length = size }

-- a name's place, with its text
abbrev pub place_decoding : List ℕ → List ℕ → NamePlace → ℕ → Outcome NamePlace
place_decoding journal image p room = with_text (place_text journal image) room (placing (lengths_of journal image) p)
