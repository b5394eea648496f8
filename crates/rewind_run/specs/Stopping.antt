-- Why a run is over where the tests have passed: what it says of that, and what makes it.
use Rattle.std.specs.Prelude.{ℕ, ◌-◌, ◌≤◌, ◌<◌, ◌≡◌, ◌⊎◌, List, Bool, false, ◌||◌, length, eqb}
use Rattle.base.specs.Outcome.{answered}
use Rattle.base.specs.Refusals.{table_full, text_full}
use Rattle.entry_slots.specs.Slots.{slots_in}
use Rattle.entry_slots.specs.Table.{known}
use Rattle.additions.specs.Walking.{records_in, entry_in}
use Rattle.rewind_records.specs.Turning.{next}
use Rattle.rewind_steps.specs.Taking.{Step}
use Rattle.rewind_steps.specs.StepText.{record_text}
use Rattle.rewind.specs.Stepping.{stepped}
use Rattle.run_steps.specs.Running.{Run, run_table}

-- the refusals of a step that stop a run: 6 and 8
abbrev pub stops : ℕ → Bool
stops n = eqb n table_full || eqb n text_full

-- over a journal, an image and a list of records, with room for so many bytes of text in all, where so many steps were asked for
module _ (journal image records : List ℕ) (room asked : ℕ) (r : Run) where
  -- 0: all of them are made
  pub record AllMade : Type 0 where
    pub says : r.stopped ≡ 0
    pub steps : length r.ends ≡ asked

  -- 0: no record is left
  pub record NoRecord : Type 0 where
    pub says : r.stopped ≡ 0
    pub steps : length r.ends < asked
    pub none_left : records_in records ≤ r.rewind.position

  -- 6: the key of the record that is next is new, and no slot is left
  pub record NoSlot : Type 0 where
    pub says : r.stopped ≡ table_full
    pub steps : length r.ends < asked
    pub ahead : r.rewind.position < records_in records
    pub fresh : known (run_table r) (entry_in journal records r.rewind.position).key ≡ false
    pub full : r.rewind.used ≡ slots_in r.words

  -- 8: there is a slot for it, and its text is longer than what is left behind the texts so far
  pub record NoRoom : Type 0 where
    pub says : r.stopped ≡ text_full
    pub steps : length r.ends < asked
    pub step : Step
    pub takes : stepped journal image records r.words r.rewind ≡ answered (next step)
    pub long : room - length r.text < length (record_text journal image step)

  abbrev pub Over : Type 0
  Over = AllMade ⊎ (NoRecord ⊎ (NoSlot ⊎ NoRoom))
