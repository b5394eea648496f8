-- Places in a lent slice, and the bytes at a place.
use Rattle.std.specs.Prelude.{ℕ, ◌+◌, ◌/◌, ◌*◌, List, cond, take, drop, eqb}
use Rattle.base.specs.declared.Place.{Place}

-- the n elements of s from o on
abbrev pub part : {A : Type 0} → List A → ℕ → ℕ → List A
part s o n = take n (drop o s)

-- the place of an empty name
abbrev pub empty_place : Place
empty_place = record { offset = 0; length = 0 }

-- a place in a part that begins at base, counted from where base counts; an empty one stays 0, 0
abbrev pub place_from : ℕ → Place → Place
place_from base p = cond (eqb p.length 0) empty_place (record { offset = base + p.offset; length = p.length })

-- n rounded up to a multiple of 8
abbrev pub round8 : ℕ → ℕ
round8 n = (n + 7) / 8 * 8
