-- The bytes of a line: a record's numbers, and how a path is shown.
use Rattle.std.specs.Prelude.{ℕ, suc, List, [], ◌∷◌, ◌++◌, map, cond, ltb, take, drop, ℤ, pos, negsuc}
use Rattle.io.specs.Digits.{last_digits}
use Rattle.utf16.specs.Decimal.{decimal}
use Rattle.usn_record.specs.declared.UsnRecord.{UsnRecord}

-- the ASCII codes of a space, a minus sign and a question mark
abbrev pub space : List ℕ
space = 0x20 ∷ []

abbrev pub minus : List ℕ
minus = 0x2D ∷ []

abbrev pub question_mark : ℕ
question_mark = 0x3F

-- a number in decimal, and a space
unfoldable pub field : ℕ → List ℕ
field n = decimal n ++ space

-- two numbers
unfoldable pub pair : ℕ → ℕ → List ℕ
pair a b = field a ++ field b

-- a signed number
unfoldable pub signed_field : ℤ → List ℕ
signed_field (pos n) = field n
signed_field (negsuc n) = minus ++ field (suc n)

-- the last k hexadecimal digits of a number, in lower case
unfoldable pub hex_digits : ℕ → ℕ → List ℕ
hex_digits k n = last_digits 16 k n

-- 8 of them, and a space
unfoldable pub hex_field : ℕ → List ℕ
hex_field n = hex_digits 8 n ++ space

-- the numbers of a record at an offset, in the order of the header
unfoldable pub numbers : ℕ → UsnRecord → List ℕ
numbers offset r =
    pair offset r.major_version
    ++ (pair r.mft_entry r.mft_sequence
    ++ (pair r.parent_mft_entry r.parent_mft_sequence
    ++ (signed_field r.usn
    ++ (pair r.timestamp.seconds r.timestamp.nanoseconds
    ++ hex_field r.reason))))

-- a byte of a path: a control character is shown as a question mark
abbrev pub shown_byte : ℕ → ℕ
shown_byte b = cond (ltb b 0x20) question_mark b

-- a text whose first n bytes are as they are shown
unfoldable pub shown_to : ℕ → List ℕ → List ℕ
shown_to n l = map shown_byte (take n l) ++ drop n l
