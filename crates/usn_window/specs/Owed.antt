-- Lists of calls by which a source delivers a journal. What it owes it knows by its own account: what was asked for, and what was accepted
-- since; never by the window's numbers.
use Rattle.std.specs.Prelude.{ℕ, ◌+◌, ◌-◌, ◌≡◌, List, [], ◌∷◌, cond, length, eqb, Ok, Err}
use Rattle.base.specs.Places.{part}
use Rattle.window_numbers.specs.Numbers.{window_size}
use Rattle.usn_window.specs.Run.{Call, next, give, next_other, give_other, State, reading_of, state_after, fresh_over}
use Rattle.usn_window.specs.Answers.{Answered}
use Rattle.usn_window.specs.declared.Answer.TheVariants.{Record, Wants, End}

-- the bytes that were asked for and are not delivered yet: so many, from this place of the journal on
pub record Owed : Type 0 where
  pub from : ℕ
  pub bytes : ℕ

abbrev pub nothing : Owed
nothing = record { from = 0; bytes = 0 }

-- what an answer asks for
abbrev pub asked_by : Answered → Owed
asked_by (Ok (Record o n r)) = nothing
asked_by (Ok (Wants from bytes)) = record { from = from; bytes = bytes }
asked_by (Ok End) = nothing
asked_by (Err r) = nothing

-- after asking: where nothing was owed, what the answer asks for; otherwise as before
abbrev pub owed_asked : Answered → Owed → Owed
owed_asked a o = cond (eqb o.bytes 0) (asked_by a) o

-- after k bytes that were accepted: the next one follows them
abbrev pub owed_less : ℕ → Owed → Owed
owed_less k o = record { from = o.from + k; bytes = o.bytes - k }

-- after a giving of k bytes: a refused one is not counted
abbrev pub owed_given : ℕ → Answered → Owed → Owed
owed_given k (Ok a) o = owed_less k o
owed_given k (Err r) o = o

-- after a call that was answered so
abbrev pub owed_after : Call → Answered → Owed → Owed
owed_after next a o = owed_asked a o
owed_after (give x) a o = owed_given (length x) a o
owed_after (next_other b) a o = owed_asked a o
owed_after (give_other b x) a o = owed_given (length x) a o

-- what is owed after a list of calls
abbrev pub owed_reached : List Call → Owed → State → Owed
owed_reached [] o st = o
owed_reached (c ∷ cs) o st = owed_reached cs (owed_after c (reading_of c st).answer o) (state_after c st)

-- each call of a list is so, by what is owed before it and by the state that it finds
abbrev pub Along : (Call → Owed → State → Type 0) → List Call → Owed → State → Type 0
Along P [] o st = Unit {0}
Along P (c ∷ cs) o st = P c o st × Along P cs (owed_after c (reading_of c st).answer o) (state_after c st)

-- the call was not refused
abbrev pub Accepted : Answered → Type 0
Accepted (Ok a) = Unit {0}
Accepted (Err r) = ⊥

-- an accepted giving carries the journal from the first byte that is owed; another buffer has another length
abbrev pub Delivers : List ℕ → Call → Owed → State → Type 0
Delivers s next o st = Unit {0}
Delivers s (give x) o st = Accepted (reading_of (give x) st).answer → x ≡ part s o.from (length x)
Delivers s (next_other b) o st = length b ≡ window_size → ⊥
Delivers s (give_other b x) o st = length b ≡ window_size → ⊥

-- any list of calls from a fresh window on, refused ones included, whose accepted givings carry, one after another, the journal from where each
-- refill began
abbrev pub Delivery : List ℕ → List ℕ → List Call → Type 0
Delivery s b cs = Along (Delivers s) cs nothing (fresh_over s b)

-- no empty giving while bytes are owed, which would end the reading
abbrev pub Lasts : Call → Owed → State → Type 0
Lasts next o st = Unit {0}
Lasts (give x) o st = length x ≡ 0 → o.bytes ≡ 0
Lasts (next_other b) o st = Unit {0}
Lasts (give_other b x) o st = Unit {0}

abbrev pub Lasting : List ℕ → List ℕ → List Call → Type 0
Lasting s b cs = Along Lasts cs nothing (fresh_over s b)

-- 1, or 0 for a refusal
abbrev pub count_if : Answered → ℕ
count_if (Ok a) = 1
count_if (Err r) = 0

-- 1 for a call that goes on: asking where nothing is owed, and an accepted giving of some bytes
abbrev pub step_given : Call → Answered → Owed → ℕ
step_given next a o = cond (eqb o.bytes 0) 1 0
step_given (give x) a o = cond (eqb (length x) 0) 0 (count_if a)
step_given (next_other b) a o = 0
step_given (give_other b x) a o = 0

-- how many calls of a list go on
abbrev pub goings : List Call → Owed → State → ℕ
goings [] o st = 0
goings (c ∷ cs) o st = step_given c (reading_of c st).answer o + goings cs (owed_after c (reading_of c st).answer o) (state_after c st)
