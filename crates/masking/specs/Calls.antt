-- Lists of calls over the records of one reader: inserts, seeds, rewind starts and nexts, refused ones included, on any number of tables. Each call
-- gets what the last one left, or what its caller hands over. All is said by the definitions that the calls' contracts cite; that the list says of
-- each call what its contract says is stated in specs/Promised.antt.
use Rattle.std.specs.Prelude.{ℕ, List, [], ◌∷◌, map, Bool, true, false, cond, get_or, set, eqb}
use Rattle.base.specs.Outcome.{Outcome, refused, answered, map_outcome}
use Rattle.base.specs.Lists.{flatten, place_words}
use Rattle.base.specs.Refusals.{text_full}
use Rattle.base.specs.declared.Place.{Place}
use Rattle.entry_slots.specs.Names.{lengths_of}
use Rattle.entry_slots.specs.Table.{Table, table}
use Rattle.additions.specs.Storing.{inserting, used_after, words_after as stored_words}
use Rattle.additions.specs.Carved.{seeding}
use Rattle.entry_slots.specs.declared.EntryKey.{EntryKey}
use Rattle.entry_slots.specs.declared.EntryInfo.{EntryInfo}
use Rattle.rewind.specs.Starting.{Tables, started, first_after, forward_after, begun as rewind_begun}
use Rattle.rewind_records.specs.Turning.{Next}
use Rattle.rewind_steps.specs.Taking.{Step}
use Rattle.rewind.specs.Stepping.{stepped, rewind_after, words_after, chain_after}
use Rattle.rewind.specs.Written.{stepped_with_text}
use Rattle.rewind.specs.declared.Rewind.{Rewind}

-- what the calls of a run read: its journal, its image, and its reader's list of records, as words
pub record Sources : Type 0 where
  pub journal : List ℕ
  pub image : List ℕ
  pub records : List ℕ

-- the sources of a run whose reader listed these places
abbrev pub sources : List ℕ → List ℕ → List Place → Sources
sources journal image places = record { journal = journal; image = image; records = flatten place_words places }

-- a table, and the rewind over it: every word, how many slots are used, and how many records are behind
pub record Kept : Type 0 where
  pub words : List ℕ
  pub used : ℕ
  pub position : ℕ

abbrev pub kept : List ℕ → ℕ → ℕ → Kept
kept words used position = record { words = words; used = used; position = position }

abbrev pub table_of : Kept → Table
table_of k = table k.words k.used

abbrev pub rewind_of : Kept → Rewind
rewind_of k = record { used = k.used; position = k.position }

-- what a call leaves for the next one: any number of tables, and every word of the chain list. Any contents may stand there.
pub record State : Type 0 where
  pub tables : List Kept
  pub chain : List ℕ

-- table i, counted from 0; a number that no table has stands for a slice of no words
abbrev pub kept_at : ℕ → State → Kept
kept_at i st = get_or st.tables i (kept [] 0 0)

-- the state with another table i
abbrev pub with_kept : ℕ → Kept → State → State
with_kept i k st = record { tables = set st.tables i k; chain = st.chain }

-- A call without text, on table i: an insert, with or without replacing; a seed by a flat list of carved entries; a start over table i, with its copy
-- in table j; a next. And two that are no calls: the caller hands over other used slots and another position for table i, or lends another
-- chain list.
pub data Plain : Type 0 where
  insert : ℕ → EntryKey → EntryInfo → Plain
  insert_if_absent : ℕ → EntryKey → EntryInfo → Plain
  seed : ℕ → List ℕ → Plain
  start : ℕ → ℕ → Plain
  next : ℕ → Plain
  hand : ℕ → Rewind → Plain
  lend : List ℕ → Plain

-- a call: one without text, or a next on table i with a text of so many bytes. What the text holds decides nothing.
pub data Call : Type 0 where
  plain : Plain → Call
  next_text : ℕ → ℕ → Call

-- what a call answers: the used slots; the rewind that is begun; or that no record is left, or the next record with the forward table after it,
-- its parent's chain with all places and its end, and the place of its own name. A text and its length are no part of it. What is no call
-- answers nothing.
pub data Answer : Type 0 where
  used : ℕ → Answer
  begun : Rewind → Answer
  step : Next Step → Answer
  nothing : Answer

-- a call's outcome, and the state after it
pub record Result : Type 0 where
  pub outcome : Outcome Answer
  pub after : State

-- what an outcome answers, or where it is refused what there was before
abbrev pub or_before : {A : Type 0} → A → Outcome A → A
or_before a (refused n) = a
or_before a (answered b) = b

-- a call that stores in table i: it has the words that the call leaves, and as many used slots as it answers
unfoldable pub stored : ℕ → State → Outcome Table → Result
stored i st o =
    let k = kept_at i st in
    record {
      outcome = map_outcome used (used_after o);
      after = with_kept i (kept (stored_words o k.words) (or_before k.used (used_after o)) k.position) st;
    }

-- a start over table i into table j: the used slots that it answers are those of both, and the position is the second's
unfoldable pub start_result : ℕ → ℕ → State → Outcome Tables → Result
start_result i j st o =
    let k = kept_at i st in
    let l = kept_at j st in
    let r = map_outcome rewind_begun o in
    let slots = map_outcome (λ (x : Rewind). x.used) r in
    let position = map_outcome (λ (x : Rewind). x.position) r in
    let first = kept (first_after o k.words) (or_before k.used slots) k.position in
    let forward = kept (forward_after o l.words) (or_before l.used slots) (or_before l.position position) in
    record { outcome = map_outcome begun r; after = with_kept j forward (with_kept i first st) }

-- a next on table i
unfoldable pub next_result : ℕ → State → Outcome (Next Step) → Result
next_result i st o =
    let k = kept_at i st in
    let r = rewind_after o (rewind_of k) in
    record {
      outcome = map_outcome step o;
      after = record {
        tables = set st.tables i (kept (words_after o k.words) r.used r.position);
        chain = chain_after o st.chain;
      };
    }

-- other numbers for table i, and another chain list
unfoldable pub handed : ℕ → Rewind → State → Result
handed i r st = record { outcome = answered nothing; after = with_kept i (kept (kept_at i st).words r.used r.position) st }

unfoldable pub lent : List ℕ → State → Result
lent l st = record { outcome = answered nothing; after = record { tables = st.tables; chain = l } }

-- a call without text
abbrev pub plain_result : Sources → Plain → State → Result
plain_result s (insert i k e) st = stored i st (inserting (lengths_of s.journal s.image) (table_of (kept_at i st)) k e true)
plain_result s (insert_if_absent i k e) st = stored i st (inserting (lengths_of s.journal s.image) (table_of (kept_at i st)) k e false)
plain_result s (seed i es) st = stored i st (seeding (lengths_of s.journal s.image) (table_of (kept_at i st)) es)
plain_result s (start i j) st = start_result i j st (started s.journal s.image s.records (table_of (kept_at i st)) (kept_at j st).words)
plain_result s (next i) st = next_result i st (stepped s.journal s.image s.records (kept_at i st).words (rewind_of (kept_at i st)))
plain_result s (hand i r) st = handed i r st
plain_result s (lend l) st = lent l st

-- any call
abbrev pub result_of : Sources → Call → State → Result
result_of s (plain p) st = plain_result s p st
result_of s (next_text i room) st = next_result i st (stepped_with_text s.journal s.image s.records (kept_at i st).words (rewind_of (kept_at i st)) room)

-- a call with its result
pub record Done : Type 0 where
  pub call : Call
  pub result : Result

-- all calls of a list with their results, and the state after the last of them
abbrev pub results : Sources → List Call → State → List Done
results s [] st = []
results s (c ∷ cs) st = record { call = c; result = result_of s c st } ∷ results s cs (result_of s c st).after

abbrev pub reached : Sources → List Call → State → State
reached s [] st = st
reached s (c ∷ cs) st = reached s cs (result_of s c st).after

-- a next with text that 8 refused; no other call is refused with 8
abbrev pub is_struck : Call → Outcome Answer → Bool
is_struck (plain p) o = false
is_struck (next_text i room) (refused n) = eqb n text_full
is_struck (next_text i room) (answered a) = false

-- those are struck out
abbrev pub struck : List Done → List Done
struck [] = []
struck (d ∷ ds) = cond (is_struck d.call d.result.outcome) (struck ds) (d ∷ struck ds)

-- a call without its text, those of a list, and their results
abbrev pub plain_of : Call → Plain
plain_of (plain p) = p
plain_of (next_text i room) = next i

abbrev pub plains_of : List Done → List Plain
plains_of = map (λ (d : Done). plain_of d.call)

abbrev pub results_of : List Done → List Result
results_of = map (λ (d : Done). d.result)
