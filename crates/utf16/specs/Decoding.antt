-- The outcome of decoding a slice of UTF-16 into a lent text.
use Rattle.std.specs.Prelude.{ℕ, List, cond, length, ltb}
use Rattle.base.specs.Outcome.{Outcome, refused, answered}
use Rattle.base.specs.Lists.{list_after}
use Rattle.base.specs.Refusals.{above_domain, text_full, domain}
use Rattle.utf16.specs.Text.{name_text}

-- the text of a whole slice
abbrev pub text_of : List ℕ → List ℕ
text_of s = name_text s 0 (length s)

-- the outcome of a call whose text has room for so many bytes: how many the text takes
unfoldable pub decoding : List ℕ → ℕ → Outcome ℕ
decoding s room =
    cond (ltb domain (length s)) (refused above_domain)
    (cond (ltb room (length (text_of s))) (refused text_full)
    (answered (length (text_of s))))

-- what the lent text l holds after that call
abbrev pub text_after : List ℕ → List ℕ → List ℕ
text_after s l = list_after (λ _. text_of s) (decoding s (length l)) l
