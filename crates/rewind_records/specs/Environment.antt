-- What rewinds know of a journal and an image: their lengths, and what the listed records say. They never see the bytes.
use Rattle.std.specs.Prelude.{ℕ, List, [], ◌∷◌, map, reverse, Bool, cond, not, ◌||◌, length, ltb, eqb}
use Rattle.base.specs.Outcome.{Outcome, refused, answered}
use Rattle.base.specs.Lists.{every}
use Rattle.base.specs.Refusals.{above_domain, bad_state, not_a_record, name_outside, domain}
use Rattle.usn_record.specs.Record.{is_answered}
use Rattle.entry_slots.specs.Names.{Lengths, lengths, all_inside}
use Rattle.entry_slots.specs.Slots.{slots_in, names_in}
use Rattle.entry_slots.specs.Table.{Table, Addition}
use Rattle.additions.specs.Entries.{entry_at, backward}
use Rattle.additions.specs.Walking.{offsets_in}
use Rattle.additions.specs.declared.entries.RecordEntry.{RecordEntry}

-- the records in their order, each as its entry or as 12
pub record Environment : Type 0 where
  pub lengths : Lengths
  pub records : List (Outcome RecordEntry)

-- that of the records at these offsets of a journal, beside an image of some length
abbrev pub environment : List ℕ → ℕ → List ℕ → Environment
environment journal image offsets = record { lengths = lengths (length journal) image; records = map (entry_at journal) offsets }

-- that of a list of words, beside an image of some length
abbrev pub environment_with : List ℕ → ℕ → List ℕ → Environment
environment_with journal image l = environment journal image (offsets_in l)

abbrev pub environment_of : List ℕ → List ℕ → List ℕ → Environment
environment_of journal image l = environment_with journal (length image) l

-- every listed record is one
abbrev pub all_answered : {A : Type 0} → List (Outcome A) → Bool
all_answered = every is_answered

-- the entries of the listed records, once every one is known to be a record
abbrev pub entries_of : List (Outcome RecordEntry) → List RecordEntry
entries_of [] = []
entries_of (refused n ∷ xs) = entries_of xs
entries_of (answered e ∷ xs) = e ∷ entries_of xs

-- what the records add, from the last one to the first
abbrev pub additions : Environment → List Addition
additions env = map backward (reverse (entries_of env.records))

-- the refusal of a rewind over a table, or 0. 1: journal or image is above the domain; 9: the used slots are above the slots; 12: a listed
-- record is none; 7: the name's place of a used slot is outside its slice
unfoldable pub rewind_refusal : Environment → Table → ℕ
rewind_refusal env t =
    cond (ltb domain env.lengths.journal || ltb domain env.lengths.image) above_domain
    (cond (ltb (slots_in t.words) t.used) bad_state
    (cond (not (all_answered env.records)) not_a_record
    (cond (not (all_inside env.lengths (names_in t.words t.used))) name_outside
    0)))

-- that refusal, or what comes after it
abbrev pub tested : {A : Type 0} → Environment → Table → Outcome A → Outcome A
tested env t o = cond (eqb (rewind_refusal env t) 0) o (refused (rewind_refusal env t))
