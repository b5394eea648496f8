-- A hash index of a table's used slots in lent words. For each hash the heads have the first slot whose key has it, and for each slot the nexts
-- have the next slot of the same hash. A link is one more than a slot, or 0 where there is none.
use Rattle.std.specs.Prelude.{ℕ, zero, suc, ◌+◌, ◌-◌, ◌*◌, ◌%◌, ◌≡◌, List, Bool, cond, ◌&&◌, length, eqb, ltb, leb}
use Rattle.base.specs.Outcome.{Outcome, refused, answered}
use Rattle.entry_slots.specs.Slots.{key_at}
use Rattle.base.specs.Lists.{rows}
use Rattle.entry_slots.specs.Table.{Table}
use Rattle.entry_slots.specs.declared.EntryKey.{EntryKey}

-- the hash of a key, below m
unfoldable pub hash : ℕ → EntryKey → ℕ
hash m k = (k.entry % 4294967296 + k.sequence % 65536 * 2654435761) % m

-- the link to the first of the n slots from i on whose key has the hash h
unfoldable pub first_link : ℕ → List ℕ → ℕ → ℕ → ℕ → ℕ
first_link m s h i zero = 0
first_link m s h i (suc n) = cond (eqb (hash m (key_at s i)) h) (suc i) (first_link m s h (i + 1) n)

-- the head of a hash, and the link that follows slot i, which is none from the last used slot on
abbrev pub head_of : ℕ → Table → ℕ → ℕ
head_of m t h = first_link m t.words h 0 t.used

abbrev pub next_of : ℕ → Table → ℕ → ℕ
next_of m t i = first_link m t.words (hash m (key_at t.words i)) (i + 1) (t.used - (i + 1))

-- the index of a table: as many heads as there are hashes, and as many nexts as words are lent for them. Without heads there is no index, and those
-- words are left alone
unfoldable pub heads_of : ℕ → Table → List ℕ
heads_of m t = rows (head_of m t) 0 m

unfoldable pub nexts_of : ℕ → Table → List ℕ → List ℕ
nexts_of m t w = cond (ltb 0 m) (rows (next_of m t) 0 (length w)) w

-- these words are the index of a table, or no index
abbrev pub Indexed : Table → List ℕ → List ℕ → Type 0
Indexed t heads nexts = (heads ≡ heads_of (length heads) t) × (nexts ≡ nexts_of (length heads) t nexts)

-- what they hold after a change of the table; a refusal writes nothing
abbrev pub heads_after : Outcome Table → List ℕ → List ℕ
heads_after (refused n) heads = heads
heads_after (answered t) heads = heads_of (length heads) t

abbrev pub nexts_after : ℕ → Outcome Table → List ℕ → List ℕ
nexts_after m (refused n) nexts = nexts
nexts_after m (answered t) nexts = nexts_of m t nexts

-- lent words are enough for the index of so many slots: there is a head, and a next for each slot
unfoldable pub enough : ℕ → List ℕ → List ℕ → Bool
enough slots heads nexts = ltb 0 (length heads) && leb slots (length nexts)

-- what a call leaves in lent words of any lengths, by the table that it makes: its index where they are enough, and otherwise what they held
abbrev pub heads_left : ℕ → Outcome Table → List ℕ → List ℕ → List ℕ
heads_left slots o heads nexts = cond (enough slots heads nexts) (heads_after o heads) heads

abbrev pub nexts_left : ℕ → Outcome Table → List ℕ → List ℕ → List ℕ
nexts_left slots o heads nexts = cond (enough slots heads nexts) (nexts_after (length heads) o nexts) nexts
