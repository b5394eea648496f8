-- Up to which position it is read ahead: a matter of numbers alone, and of nothing that is read.
use Rattle.std.specs.Prelude.{ℕ, ◌+◌, ◌-◌, cond, ltb, eqb}

-- the records that are read ahead for at once
abbrev pub batch : ℕ
batch = 32

-- the slots from which on a table is large; for a smaller one nothing is read ahead
abbrev pub large : ℕ
large = 65536

-- of n records a batch, or all of them where they are fewer
abbrev pub at_most : ℕ → ℕ
at_most n = cond (ltb n batch) n batch

-- how many records are read ahead for from a position on, by how many records, slots and heads there are: none without an index or in a small table
unfoldable pub at_once : ℕ → ℕ → ℕ → ℕ → ℕ
at_once records slots heads position = cond (eqb heads 0) 0 (cond (ltb slots large) 0 (at_most (records - position)))

-- up to where it is read ahead, at a position, where that was done up to another one: up to that one where it is further on
unfoldable pub read_to : ℕ → ℕ → ℕ → ℕ → ℕ → ℕ
read_to records slots heads position done = cond (ltb position done) done (position + at_once records slots heads position)
