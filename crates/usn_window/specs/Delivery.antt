-- A source that delivers a journal to a fresh window, in pieces of any sizes, and what it has of it in the end.
use Rattle.std.specs.Prelude.{ℕ, suc, ◌+◌, ◌*◌, ◌≤◌, min, ◌≡◌, List, [], ◌∷◌, ◌++◌, cond, ◌||◌, ◌&&◌, length, eqb, Ok, Err}
use Rattle.base.specs.Outcome.{Outcome, refused, answered}
use Rattle.base.specs.Refusals.{number_of}
use Rattle.base.specs.Places.{part}
use Rattle.base.specs.declared.Place.{Place}
use Rattle.usn_record.specs.Record.{listed}
use Rattle.usn_record.specs.declared.UsnRecord.{UsnRecord}
use Rattle.window_numbers.specs.Numbers.{window_size}
use Rattle.usn_window.specs.Rule.{named_from}
use Rattle.usn_window.specs.Journal.{window_list}
use Rattle.usn_window.specs.Run.{Call, next, give, State, reading_of, state_after, fresh_over}
use Rattle.usn_window.specs.Owed.{Owed, nothing, owed_after}
use Rattle.usn_window.specs.Answers.{Answered}
use Rattle.usn_window.specs.declared.Answer.TheVariants.{Record, Wants, End}

-- Each size stands for one call: where bytes are owed it gives so many of them, or all if they are fewer; where none are, or the size is 0, it asks.
abbrev pub call_of : List ℕ → ℕ → Owed → Call
call_of s size o = cond (eqb o.bytes 0 || eqb size 0) next (give (part s o.from (min size o.bytes)))

-- a record as the source's caller has it: its place in the stream, its fields with the name's place in the stream, the bytes of the name
pub record Got : Type 0 where
  pub place : Place
  pub fields : UsnRecord
  pub name : List ℕ

-- from an answer: the place of the name counts from the start of the buffer, which is the window's, and its bytes stand there
abbrev pub got_of : ℕ → ℕ → UsnRecord → State → Got
got_of o n r st =
    record {
      place = record { offset = o; length = n };
      fields = named_from st.window.start r;
      name = part st.buffer r.filename.offset r.filename.length;
    }

-- how a delivery ends: at the end, with all records; at a refused call; at an answer that wants other bytes than are owed; or the sizes did
-- not suffice
pub data Result : Type 0 where
  ended : List Got → Result
  stopped : ℕ → Result
  misled : Result
  unfinished : Result

abbrev pub with : Got → Result → Result
with g (ended gs) = ended (g ∷ gs)
with g (stopped n) = stopped n
with g misled = misled
with g unfinished = unfinished

-- what comes of an answer, with what is owed and the state after it, where the calls after it come to x
abbrev pub result_of : Answered → Owed → State → Result → Result
result_of (Ok (Record o n r)) owed st x = with (got_of o n r st) x
result_of (Ok (Wants from bytes)) owed st x = cond (eqb from owed.from && eqb bytes owed.bytes) x misled
result_of (Ok End) owed st x = ended []
result_of (Err r) owed st x = stopped (number_of r)

unfoldable pub deliver : List ℕ → List ℕ → Owed → State → Result
deliver s [] o st = unfinished
deliver s (m ∷ ms) o st =
    let c = call_of s m o in
    let a = (reading_of c st).answer in
    result_of a (owed_after c a o) (state_after c st) (deliver s ms (owed_after c a o) (state_after c st))

-- the records from the journal alone
abbrev pub own_of : List ℕ → Place → Outcome UsnRecord → List Got
own_of s p (refused m) = []
own_of s p (answered r) =
    let f = named_from p.offset r in
    record { place = p; fields = f; name = part s f.filename.offset f.filename.length } ∷ []

abbrev pub records_at : List ℕ → List Place → List Got
records_at s [] = []
records_at s (p ∷ ps) = own_of s p (listed s p.offset) ++ records_at s ps

abbrev pub journal_records : List ℕ → List Got
journal_records s = records_at s (window_list s)

abbrev pub places_in : List Got → List Place
places_in [] = []
places_in (g ∷ gs) = g.place ∷ places_in gs

-- the sizes that are not 0: one byte or more, or an asking where none are owed
abbrev pub pieces : List ℕ → ℕ
pieces [] = 0
pieces (m ∷ ms) = cond (eqb m 0) (pieces ms) (suc (pieces ms))

-- calls enough for a journal of n bytes, even if each giving has one byte
abbrev pub calls_for : ℕ → ℕ
calls_for n = 4 * n + 17

-- a way of delivering a journal of n bytes: pieces enough, of any sizes, with as many askings in between as one likes, and a buffer that holds anything
pub record Way (n : ℕ) : Type 0 where
  pub sizes : List ℕ
  pub buffer : List ℕ
  pub enough : calls_for n ≤ pieces sizes
  pub whole : length buffer ≡ window_size

abbrev pub delivered_by : (s : List ℕ) → Way (length s) → Result
delivered_by s w = deliver s w.sizes nothing (fresh_over s w.buffer)

-- what every way of delivering a journal comes to
pub record Delivered (s : List ℕ) : Type 0 where
  -- the end, with no call refused and no answer that wants other bytes than are owed, and the journal's records in order: every place, every
  -- field, and the bytes of every name, so that its text is the same
  pub all : (w : Way (length s)) → delivered_by s w ≡ ended (journal_records s)
  -- the same as any other way
  pub same : (v w : Way (length s)) → delivered_by s v ≡ delivered_by s w
  -- one record at each place of the window's list
  pub places : places_in (journal_records s) ≡ window_list s
