-- The start of a rewind: the walk from the last record to the first, over the first table, and the copy that the steps go forward on.
use Rattle.std.specs.Prelude.{ℕ, ◌+◌, ◌*◌, List, cond, ◌||◌, take, ltb}
use Rattle.base.specs.Outcome.{Outcome, refused, answered}
use Rattle.base.specs.Lists.{overwrite}
use Rattle.base.specs.Refusals.{table_full}
use Rattle.entry_slots.specs.Slots.{stride, slots_in}
use Rattle.entry_slots.specs.Table.{Table, table, known}
use Rattle.additions.specs.Storing.{add_all, new_keys, keys_of}
use Rattle.rewind_records.specs.Environment.{Environment, environment_of, additions, tested}
use Rattle.rewind.specs.declared.Rewind.{Rewind}

-- the slots that are used after it: those used before, and one for each different new key
abbrev pub used_backward : Environment → Table → ℕ
used_backward env t = t.used + new_keys (known t) (keys_of (additions env))

-- the used slots of a table in front of other words, which are left alone after them
abbrev pub copied : Table → List ℕ → Table
copied t words = table (overwrite words (take (t.used * stride) t.words)) t.used

-- both tables after the start
pub record Tables : Type 0 where
  pub first : Table
  pub forward : Table

-- a start over a first table, with these words for the copy: 1, 9, 12, 7; 6: the slots of either table are too few
unfoldable pub starting : Environment → Table → List ℕ → Outcome Tables
starting env t words =
    let used = used_backward env t in
    let first = add_all t (additions env) in
    tested env t
    (cond (ltb (slots_in t.words) used || ltb (slots_in words) used) (refused table_full)
    (answered (record { first = first; forward = copied first words })))

-- a call's: over a journal, an image, a list of records, the first table and the words for the copy
abbrev pub started : List ℕ → List ℕ → List ℕ → Table → List ℕ → Outcome Tables
started journal image records t words = starting (environment_of journal image records) t words

-- the state that it begins: as many slots are used in the copy as in the first table, and the first record is next
abbrev pub begun : Tables → Rewind
begun ts = record { used = ts.forward.used; position = 0 }

-- what the lent words of the two tables hold after it; a refusal writes nothing
abbrev pub first_after : Outcome Tables → List ℕ → List ℕ
first_after (refused n) s = s
first_after (answered ts) s = ts.first.words

abbrev pub forward_after : Outcome Tables → List ℕ → List ℕ
forward_after (refused n) s = s
forward_after (answered ts) s = ts.forward.words
