-- Unicode's cases, computed: unpaired surrogates, pairs, the ends of each length of UTF-8; the call on a few bytes; and numbers in
-- decimal. Assumes nothing.
use mathlib.Core.Path.{◌≡◌, refl}
use mathlib.Core.List.{[], ◌∷◌}
use Rattle.base.specs.Outcome.{refused, answered}
use Rattle.base.specs.Refusals.{text_full}
use Rattle.usn_record.specs.Bytes.{le, le_at}
use Rattle.utf16.specs.Utf16.{alone, code_points, units_at}
use Rattle.utf16.specs.Utf8.{utf8}
use Rattle.utf16.specs.Text.{decoded}
use Rattle.utf16.specs.Decoding.{decoding, text_after}
use Rattle.utf16.specs.Decimal.{digits, decimal}

pub lone-high : decoded (0xD800 ∷ []) ≡ 0xEF ∷ 0xBF ∷ 0xBD ∷ []
unfolding decoded code_points alone utf8
lone-high = refl

pub lone-low : decoded (0xDFFF ∷ []) ≡ 0xEF ∷ 0xBF ∷ 0xBD ∷ []
unfolding decoded code_points alone utf8
lone-low = refl

pub pair : decoded (0xD83D ∷ 0xDE00 ∷ []) ≡ 0xF0 ∷ 0x9F ∷ 0x98 ∷ 0x80 ∷ []
unfolding decoded code_points alone utf8
pair = refl

-- turned round, the surrogates of a pair are two unpaired ones
pub turned_round : decoded (0xDE00 ∷ 0xD83D ∷ []) ≡ 0xEF ∷ 0xBF ∷ 0xBD ∷ 0xEF ∷ 0xBF ∷ 0xBD ∷ []
unfolding decoded code_points alone utf8
turned_round = refl

-- a high surrogate before a pair, and before a letter
pub high-then-pair : code_points (0xD800 ∷ 0xD800 ∷ 0xDC00 ∷ []) ≡ 0xFFFD ∷ 0x10000 ∷ []
unfolding code_points alone
high-then-pair = refl

pub high-then-letter : code_points (0xDBFF ∷ 0x61 ∷ []) ≡ 0xFFFD ∷ 0x61 ∷ []
unfolding code_points alone
high-then-letter = refl

-- the first and the last code point of each length
pub ends-of-one : decoded (0x0 ∷ 0x7F ∷ []) ≡ 0x0 ∷ 0x7F ∷ []
unfolding decoded code_points alone utf8
ends-of-one = refl

pub ends-of-two : decoded (0x80 ∷ 0x7FF ∷ []) ≡ 0xC2 ∷ 0x80 ∷ 0xDF ∷ 0xBF ∷ []
unfolding decoded code_points alone utf8
ends-of-two = refl

pub ends-of-three : decoded (0x800 ∷ 0xFFFF ∷ []) ≡ 0xE0 ∷ 0xA0 ∷ 0x80 ∷ 0xEF ∷ 0xBF ∷ 0xBF ∷ []
unfolding decoded code_points alone utf8
ends-of-three = refl

pub ends-of-four : decoded (0xD800 ∷ 0xDC00 ∷ 0xDBFF ∷ 0xDFFF ∷ []) ≡ 0xF0 ∷ 0x90 ∷ 0x80 ∷ 0x80 ∷ 0xF4 ∷ 0x8F ∷ 0xBF ∷ 0xBF ∷ []
unfolding decoded code_points alone utf8
ends-of-four = refl

-- the call: three bytes of room are just enough for an unpaired surrogate, an odd last byte is dropped, and nothing takes no room
pub just-room : decoding (0x00 ∷ 0xD8 ∷ []) 3 ≡ answered 3
unfolding decoding decoded code_points alone utf8 units_at le_at le
just-room = refl

pub no_room : decoding (0x00 ∷ 0xD8 ∷ []) 2 ≡ refused text_full
unfolding decoding decoded code_points alone utf8 units_at le_at le
no_room = refl

pub odd_byte : text_after (0x61 ∷ 0x00 ∷ 0x62 ∷ []) (0 ∷ 0 ∷ []) ≡ 0x61 ∷ 0 ∷ []
unfolding decoding decoded code_points alone utf8 units_at le_at le
odd_byte = refl

pub nothing : decoding [] 0 ≡ answered 0
unfolding decoding decoded code_points alone utf8 units_at le_at le
nothing = refl

pub zero-digit : decimal 0 ≡ 0x30 ∷ []
unfolding digits
zero-digit = refl

pub three-digits : decimal 205 ≡ 0x32 ∷ 0x30 ∷ 0x35 ∷ []
unfolding digits
three-digits = refl
