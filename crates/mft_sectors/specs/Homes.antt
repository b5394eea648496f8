-- Where the true bytes of a place of an image are stored.
use Rattle.std.specs.Prelude.{ℕ, ◌+◌, ◌-◌, List}
use Rattle.base.specs.Lists.{rows}
use Rattle.base.specs.declared.Place.{Place}
use Rattle.mft_sectors.specs.SectorEnds.{array_of, home}

-- one byte
abbrev pub byte_at : ℕ → Place
byte_at i = record { offset = i; length = 1 }

-- the homes of the bytes of a place of an image that lies in the entry e at o
abbrev pub homes : List ℕ → ℕ → Place → List Place
homes e o p = rows (λ i. byte_at (o + home (array_of e).offset (i - o))) p.offset p.length
