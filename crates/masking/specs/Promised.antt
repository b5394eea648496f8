-- Lists of calls are lists of the calls: for each call, what its contract says of its answer, of the state that it returns and of every lent slice at
-- exit is what the list says of it. The premise of each is the very record that the contract cites, over the tables that the state keeps.
-- What a call leaves is primed.
use Rattle.std.specs.Prelude.{ℕ, ◌+◌, ◌<◌, ◌≡◌, List, [], ◌∷◌, map, true, false, length, get_or, set, Result as Returned, Ok, Err}
use Rattle.base.specs.Outcome.{Outcome, refused, answered, outcome as outcome_of, map_outcome}
use Rattle.base.specs.declared.refusal.Refusal.{Refusal}
use Rattle.base.specs.Lists.{flatten}
use Rattle.mft_carver.specs.Carve.{entry_words}
use Rattle.mft_carver.specs.declared.CarvedMftEntry.{CarvedMftEntry}
use Rattle.entry_slots.specs.Names.{Lengths, lengths_of}
use Rattle.entry_slots.specs.Table.{table}
use Rattle.entry_slots.specs.declared.EntryKey.{EntryKey}
use Rattle.entry_slots.specs.declared.EntryInfo.{EntryInfo}
use Rattle.additions.specs.Storing.{inserting}
use Rattle.additions.specs.Carved.{seeding}
use Rattle.entry_table.specs.Promise.{Stores}
use Rattle.carved_seed.specs.Promise.{seeded_from}
use Rattle.chain.specs.Chain.{resolved}
use Rattle.chain.specs.declared.ResolvedPath.{ResolvedPath}
use Rattle.rewind_records.specs.Turning.{Next, ended, map_next, next_outcome}
use Rattle.rewind_records.specs.Turning as turning
use Rattle.rewind_steps.specs.Taking.{Step}
use Rattle.rewind.specs.Stepping.{state_of}
use Rattle.rewind.specs.Written.{stepped_with_text, written_step}
use Rattle.path.specs.declared.WrittenPath.{WrittenPath}
use Rattle.rewind.specs.Promise.{Starts, chain_out, ChainSteps, PathSteps}
use Rattle.rewind.specs.declared.Rewind.{Rewind}
use Rattle.rewind.specs.declared.Step.{Step as Stepped}
use Rattle.usn_window.specs.Calls.{next_of as next_with}
use Rattle.usn_window.specs.Run.{reading_of, state_after, State as WindowState, Call as WindowCall, next as asks, give as gives, next_other as asks_other, give_other as gives_other}
use Rattle.usn_window.specs.Promise.{Gives}
use Rattle.usn_window.specs.Rule.{buffer_reads}
use Rattle.usn_window.specs.declared.Reading.{Reading}
use Rattle.rewind_run.specs.Running.{run_outcome}
use Rattle.rewind_run.specs.Calls.{call_rooms}
use Rattle.rewind_run.specs.Promise.{RunsIndexed}
use Rattle.run_steps.specs.Running.{RunNumbers}
use Rattle.run_steps.specs.declared.RewindRun.{RewindRun}
use Rattle.masking.specs.Calls.{Sources, Kept, kept, State, Call, plain, next_text, insert, insert_if_absent, seed, start, Answer, used, begun, step, nothing, Result, result_of, Done, results, reached}
use Rattle.masking.specs.Calls as list

-- the used slots after a call that stores: those that it answers, or those there were
abbrev pub used_by : ℕ → Returned ℕ Refusal → ℕ
used_by n (Ok m) = m
used_by n (Err k) = n

-- the rewind after a start: the one that it answers, or the one there was
abbrev pub rewind_by : Rewind → Returned Rewind Refusal → Rewind
rewind_by r (Ok q) = q
rewind_by r (Err k) = r

-- what a call of a run answers: how many steps it made, none where it is refused; 0, its refusal or what stopped it; and the rewind after it
abbrev pub steps_by : Outcome RunNumbers → ℕ
steps_by (refused n) = 0
steps_by (answered x) = x.steps

abbrev pub stop_by : Outcome RunNumbers → ℕ
stop_by (refused n) = n
stop_by (answered x) = x.stopped

abbrev pub rewind_ran : Rewind → Outcome RunNumbers → Rewind
rewind_ran r (refused n) = r
rewind_ran r (answered x) = x.rewind

-- what a next answers, and as the two calls tell it: by the number of names and the end of the chain, and by the length of the text too
abbrev pub next_of : Answer → Next Step
next_of (used n) = ended
next_of (begun r) = ended
next_of (step x) = x
next_of nothing = ended

abbrev pub path_of : Answer → Next ResolvedPath
path_of a = map_next (λ (x : Step). resolved x.chain) (next_of a)

abbrev pub path_text_of : List ℕ → List ℕ → Answer → Next WrittenPath
path_text_of journal image a = map_next (written_step journal image) (next_of a)

-- how many records the calls of a list give, and the refusal of the first one that is refused, or 0
abbrev pub records_by : Outcome Answer → ℕ
records_by (refused n) = 0
records_by (answered (used n)) = 0
records_by (answered (begun r)) = 0
records_by (answered (step ended)) = 0
records_by (answered (step (turning.next x))) = 1
records_by (answered nothing) = 0

abbrev pub records_in : List Done → ℕ
records_in [] = 0
records_in (d ∷ ds) = records_by d.result.outcome + records_in ds

abbrev pub refusal_or : ℕ → Outcome Answer → ℕ
refusal_or rest (refused n) = n
refusal_or rest (answered a) = rest

abbrev pub refusal_in : List Done → ℕ
refusal_in [] = 0
refusal_in (d ∷ ds) = refusal_or (refusal_in ds) d.result.outcome

-- over the sources s, from the state st, on table i of it
module _ (s : Sources) (st : State) (i : ℕ) where
  abbrev here : Kept
  here = get_or st.tables i (kept [] 0 0)

  abbrev rewind : Rewind
  rewind = state_of here.used here.position

  abbrev lengths : Lengths
  lengths = lengths_of s.journal s.image

  -- a call that stores: its answer, and table i with the words that it leaves; all else as it was
  abbrev pub stored_as : Returned ℕ Refusal → List ℕ → Result
  stored_as r words' =
      record {
        outcome = map_outcome used (outcome_of r);
        after = record { tables = set st.tables i (kept words' (used_by here.used r) here.position); chain = st.chain };
      }

  abbrev pub InsertIs : Type 0
  InsertIs =
      (k : EntryKey) (e : EntryInfo) (r : Returned ℕ Refusal) (words' : List ℕ) → Stores (inserting lengths (table here.words here.used) k e true) here.words r words'
      → result_of s (plain (insert i k e)) st ≡ stored_as r words'

  abbrev pub InsertIfAbsentIs : Type 0
  InsertIfAbsentIs =
      (k : EntryKey) (e : EntryInfo) (r : Returned ℕ Refusal) (words' : List ℕ) → Stores (inserting lengths (table here.words here.used) k e false) here.words r words'
      → result_of s (plain (insert_if_absent i k e)) st ≡ stored_as r words'

  abbrev pub SeedIs : Type 0
  SeedIs =
      (es : List ℕ) (r : Returned ℕ Refusal) (words' : List ℕ) → Stores (seeding lengths (table here.words here.used) es) here.words r words'
      → result_of s (plain (seed i es)) st ≡ stored_as r words'

  -- seeding from the entries themselves stands in the list as a seed by their flat list
  abbrev pub SeedFromCarvedIs : Type 0
  SeedFromCarvedIs =
      (es : List CarvedMftEntry) (r : Returned ℕ Refusal) (words' : List ℕ) → Stores (seeded_from s.journal s.image here.words here.used es) here.words r words'
      → result_of s (plain (seed i (flatten entry_words es))) st ≡ stored_as r words'

  -- a start over table i with its copy in table j: both have the words that it leaves and the used slots that it answers, and j its position
  module _ (j : ℕ) where
    abbrev there : Kept
    there = get_or st.tables j (kept [] 0 0)

    abbrev pub started_as : Returned Rewind Refusal → List ℕ → List ℕ → Result
    started_as r first' words' =
        let first = kept first' (rewind_by rewind r).used here.position in
        let q = rewind_by (state_of there.used there.position) r in
        record {
          outcome = map_outcome begun (outcome_of r);
          after = record { tables = set (set st.tables i first) j (kept words' q.used q.position); chain = st.chain };
        }

    abbrev pub StartIs : Type 0
    StartIs =
        (r : Returned Rewind Refusal) (first' words' : List ℕ) → Starts s.journal s.image s.records (table here.words here.used) there.words r first' words'
        → result_of s (plain (start i j)) st ≡ started_as r first' words'

  -- a next: table i has the words that it leaves and the numbers of the rewind that it returns, and the chain list the words that it leaves
  abbrev pub next_leaves : Rewind → List ℕ → List ℕ → State
  next_leaves q words' list' = record { tables = set st.tables i (kept words' q.used q.position); chain = list' }

  -- the list's outcome is the one that the contract speaks of, chain and all; the call's answer is its names and its end
  pub record NextAs (r : Stepped ResolvedPath) (words' list' : List ℕ) (x : Result) : Type 0 where
    pub whole : x.outcome ≡ map_outcome step (chain_out s.journal s.image s.records here.words rewind st.chain)
    pub answer-is : next_outcome r.next ≡ map_outcome path_of x.outcome
    pub leaves : x.after ≡ next_leaves r.rewind words' list'

  abbrev pub NextIs : Type 0
  NextIs =
      (r : Stepped ResolvedPath) (words' list' : List ℕ) → ChainSteps s.journal s.image s.records here.words rewind st.chain r words' list'
      → NextAs r words' list' (result_of s (plain (list.next i)) st)

  -- a next with text
  abbrev text_in : ℕ → Outcome (Next Step)
  text_in room = stepped_with_text s.journal s.image s.records here.words rewind room

  pub record NextTextAs (room : ℕ) (r : Stepped WrittenPath) (words' list' : List ℕ) (x : Result) : Type 0 where
    pub whole : x.outcome ≡ map_outcome step (text_in room)
    pub answer-is : next_outcome r.next ≡ map_outcome (path_text_of s.journal s.image) x.outcome
    pub leaves : x.after ≡ next_leaves r.rewind words' list'

  abbrev pub NextTextIs : Type 0
  NextTextIs =
      (text : List ℕ) (r : Stepped WrittenPath) (words' list' text' : List ℕ)
      → PathSteps s.journal s.image (text_in (length text)) rewind here.words st.chain text r words' list' text'
      → NextTextAs (length text) r words' list' (result_of s (next_text i (length text)) st)

  -- A run of steps stands in the list as nexts with text, each with the room that the texts before it leave, up to the one that is refused or finds no
  -- record; one that is refused as one refused next, also where no step is asked for. It has no chain list: one of no words stands for it. It gives as many
  -- records as they do, and has the refusal of the one that is refused.
  pub record RunAs (r : Returned RewindRun Refusal) (words' : List ℕ) (cs : List Call) : Type 0 where
    pub gives : steps_by (run_outcome r) ≡ records_in (results s cs st)
    pub refuses : stop_by (run_outcome r) ≡ refusal_in (results s cs st)
    pub leaves : reached s cs st ≡ next_leaves (rewind_ran rewind (run_outcome r)) words' []

  abbrev pub RunIs : Type 0
  RunIs =
      (heads nexts ends text : List ℕ) (r : Returned RewindRun Refusal) (words' heads' nexts' ends' text' : List ℕ) → i < length st.tables → st.chain ≡ []
      → RunsIndexed s.journal s.image s.records here.words rewind heads nexts ends text r words' heads' nexts' ends' text'
      → RunAs r words' (map (next_text i) (call_rooms s.journal s.image s.records here.words rewind (length text) (length ends)))

-- the window's calls: the answer and the window that a call returns are the list's, and so is the buffer at exit. A call with another buffer leaves the window's own.
abbrev pub WindowLeaves : WindowCall → WindowState → Reading → List ℕ → Type 0
WindowLeaves c st r buffer' = (reading_of c st ≡ r) × (state_after c st ≡ record { window = r.reader; buffer = buffer' })

pub record WindowListsAreCalls : Type 0 where
  pub next-is : (st : WindowState) (r : Reading) → r ≡ next_with (buffer_reads st.buffer) (length st.buffer) st.window → WindowLeaves asks st r st.buffer
  pub give-is : (st : WindowState) (x : List ℕ) (r : Reading) (buffer' : List ℕ) → Gives st.window st.buffer x r buffer' → WindowLeaves (gives x) st r buffer'
  pub next-other-is : (st : WindowState) (b : List ℕ) (r : Reading) → r ≡ next_with (buffer_reads b) (length b) st.window → WindowLeaves (asks_other b) st r st.buffer
  pub give-other-is : (st : WindowState) (b x : List ℕ) (r : Reading) (b' : List ℕ) → Gives st.window b x r b' → WindowLeaves (gives_other b x) st r st.buffer

-- all of them, over any sources, from any state, on any of its tables
pub record ListsAreCalls : Type 0 where
  pub insert-is : (s : Sources) (st : State) (i : ℕ) → InsertIs s st i
  pub insert-if-absent-is : (s : Sources) (st : State) (i : ℕ) → InsertIfAbsentIs s st i
  pub seed-is : (s : Sources) (st : State) (i : ℕ) → SeedIs s st i
  pub seed-from-carved-is : (s : Sources) (st : State) (i : ℕ) → SeedFromCarvedIs s st i
  pub start_is : (s : Sources) (st : State) (i j : ℕ) → StartIs s st i j
  pub next-is : (s : Sources) (st : State) (i : ℕ) → NextIs s st i
  pub next-text-is : (s : Sources) (st : State) (i : ℕ) → NextTextIs s st i
  pub run_is : (s : Sources) (st : State) (i : ℕ) → RunIs s st i
  pub window-is : WindowListsAreCalls
