-- The records of a journal as the window lists them, from the journal alone: no buffer and no deliveries.
use Rattle.std.specs.Prelude.{ℕ, zero, suc, ◌+◌, ◌-◌, ◌*◌, List, [], ◌∷◌, ◌++◌, cond, ◌||◌, length, ltb, eqb}
use Rattle.base.specs.Outcome.{Outcome, refused, answered}
use Rattle.base.specs.Places.{round8}
use Rattle.base.specs.Walk.{Visit, stop, go}
use Rattle.base.specs.declared.Place.{Place}
use Rattle.usn_record.specs.Bytes.{le_at}
use Rattle.usn_record.specs.Record.{listed}
use Rattle.usn_record.specs.declared.UsnRecord.{UsnRecord}
use Rattle.window_numbers.specs.Numbers.{window_size, window_end}

-- what the window does at position p, where its window ends at e: it is over, or goes on at another position with another end
pub data WindowStep : Type 0 where
  over : WindowStep
  onto : List Place → ℕ → ℕ → WindowStep

-- a record of n bytes at p is listed where its parser accepts it
abbrev pub found : ℕ → ℕ → Outcome UsnRecord → List Place
found p n (refused m) = []
found p n (answered r) = record { offset = p; length = n } ∷ []

-- over, where the window's end e is the stream's; otherwise on to the position q with a window from p
abbrev pub refill_to : ℕ → ℕ → ℕ → ℕ → WindowStep
refill_to total p e q = cond (eqb e total) over (onto [] q (window_end p total))

unfoldable pub step_at : List ℕ → ℕ → ℕ → WindowStep
step_at s p e =
    let total = length s in
    let n = le_at 4 s p in
    cond (ltb e (p + 8)) (refill_to total p e p)
    (cond (ltb n 8 || ltb window_size n) (onto [] (p + 8) e)
    (cond (ltb e (p + n)) (refill_to total p e (cond (ltb total (p + n)) (p + 8) p))
    (onto (found p n (listed s p)) (p + round8 n) e)))

abbrev pub after_step : WindowStep → (ℕ → ℕ → List Place) → List Place
after_step over f = []
after_step (onto ps p e) f = ps ++ f p e

-- what at most k steps list
unfoldable pub steps : List ℕ → ℕ → ℕ → ℕ → List Place
steps s zero p e = []
steps s (suc k) p e = after_step (step_at s p e) (steps s k)

-- all that is still to come from p on, where the window ends at e: each 8 bytes take a step, and at most one refill
unfoldable pub to_come : List ℕ → ℕ → ℕ → List Place
to_come s p e = steps s (2 * (length s + 8 - p) + 2) p e

-- all records of a journal
abbrev pub window_list : List ℕ → List Place
window_list s = to_come s 0 0

-- the rule with no edge in it: for a journal none of whose records passes the end
unfoldable pub plain_visit : List ℕ → ℕ → Visit Place
plain_visit s p =
    let n = le_at 4 s p in
    cond (ltb (length s) (p + 8)) stop
    (cond (ltb n 8 || ltb window_size n) (go [] (p + 8))
    (go (found p n (listed s p)) (p + round8 n)))
