-- The decoding of a name as a C call.
use Rattle.std.specs.Prelude.{ℕ, List, length}
use Rattle.base.specs.Outcome.{Outcome}
use Rattle.base.specs.Words.{after_domain}
use Rattle.utf16.specs.Decoding.{text_of, decoding}

-- decoding s, with a lent text, and a lent list for its length
abbrev pub decode_call : List ℕ → List ℕ → List ℕ → Outcome ℕ
decode_call s text out = after_domain 1 (length out) (decoding s (length text))

-- the text of s
abbrev pub decoded_bytes : List ℕ → ℕ → List ℕ
decoded_bytes s _ = text_of s
