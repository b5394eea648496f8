-- The ends of an entry's sectors. A disk holds a check value in the last two bytes of each sector of an entry; the true bytes stand in the entry's
-- update sequence array: numbers of 2 bytes, the check value first and then the true end of each sector in turn.
use Rattle.std.specs.Prelude.{ℕ, zero, suc, ◌+◌, ◌-◌, ◌*◌, ◌/◌, ◌%◌, List, Bool, true, cond, ◌&&◌, length, get_or, ltb, leb, eqb}
use Rattle.base.specs.Lists.{rows}
use Rattle.usn_record.specs.Bytes.{le_at}

-- the bytes of a sector, and those before its end
abbrev pub sector : ℕ
sector = 512

abbrev pub body : ℕ
body = 510

-- the update sequence array as an entry's header gives it: its offset, and how many numbers it has
pub record UpdateArray : Type 0 where
  pub offset : ℕ
  pub count : ℕ

abbrev pub array_of : List ℕ → UpdateArray
array_of e = record { offset = le_at 2 e 4; count = le_at 2 e 6 }

-- each of the first n sectors ends with this value
unfoldable pub ending : ℕ → ℕ → List ℕ → Bool
ending zero value e = true
ending (suc k) value e = ending k value e && eqb (le_at 2 e (sector * k + body)) value

-- the array of an entry is sound: it has a number for each sector and one more, stands at an even offset of 48 or more, ends before the
-- first attribute and before the first sector's end, and its first number ends every sector
unfoldable pub sound : List ℕ → Bool
sound e =
    let a = array_of e in
    let sectors = length e / sector in
    let end = a.offset + 2 * a.count in
    eqb a.count (sectors + 1)
    && eqb (a.offset % 2) 0
    && leb 48 a.offset
    && leb end (le_at 2 e 20)
    && leb end body
    && ending sectors (le_at 2 e a.offset) e

-- the home of byte i, where its true value is stored, with the array at a: for the end of a sector its place in the array, else i itself
unfoldable pub home : ℕ → ℕ → ℕ
home a i = cond (ltb (i % sector) body) i (a + 2 * (i / sector + 1) + (i % sector - body))

-- an entry with the true value of every byte, and with the array that its header gives
unfoldable pub restored_by : ℕ → List ℕ → List ℕ
restored_by a e = rows (λ i. get_or e (home a i) 0) 0 (length e)

abbrev pub restored : List ℕ → List ℕ
restored e = restored_by (array_of e).offset e
