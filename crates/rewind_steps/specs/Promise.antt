-- What a step asks and promises. Each record says it of lists: what the lent slices hold before, and, with ', after. The promise itself takes the call's
-- parameters.
use Rattle.std.specs.Prelude.{ℕ, ◌-◌, ◌<◌, ◌≤◌, ◌≡◌, List, true, length, Result}
use Rattle.base.specs.Lent.{Lent, MutLent, before, before_mut, after}
use Rattle.base.specs.Outcome.{Outcome, outcome, map_outcome}
use Rattle.base.specs.Refusals.{domain}
use Rattle.entry_slots.specs.Names.{lengths_of, inside, all_inside}
use Rattle.entry_slots.specs.Slots.{slots_in, names_in, put_at}
use Rattle.entry_slots.specs.Table.{Table, table}
use Rattle.entry_slots.specs.declared.NamePlace.{NamePlace}
use Rattle.entry_slots.specs.Index.{heads_of, nexts_of, Indexed}
use Rattle.chain.specs.Settings.{levels}
use Rattle.rewind_records.specs.Turning.{Next, next}
use Rattle.rewind_steps.specs.Taking.{Step}
use Rattle.rewind_steps.specs.StepText.{step_with_text}
use Rattle.rewind_steps.specs.Making.{making, made_of, table_after, text_after, WayAfter}
use Rattle.additions.specs.declared.entries.RecordEntry.{RecordEntry}
use Rattle.rewind_steps.specs.declared.Entered.{Entered}
use Rattle.rewind_steps.specs.declared.Told.{Told}
use Rattle.base.specs.declared.refusal.Refusal.{Refusal}

-- what is known before a step: the table fits its words, the index is its own, with a link for every slot, all names are inside, the record's too, and the way
-- has a word for every level and one more
pub record StepAsks (journal image : List ℕ) (t : Table) (heads nexts : List ℕ) (name : NamePlace) (way : List ℕ) (at : ℕ) (text : List ℕ) : Type 0 where
  pub fits : t.used ≤ slots_in t.words
  pub index : Indexed t heads nexts
  pub wide : 0 < length heads → slots_in t.words ≤ length nexts
  pub names : all_inside (lengths_of journal image) (names_in t.words t.used) ≡ true
  pub near-journal : length journal ≤ domain
  pub near-image : length image ≤ domain
  pub own : inside (lengths_of journal image) name ≡ true
  pub long : levels < length way
  pub room : at ≤ length text

-- what a step that comes to o leaves, from a table t, an index of m heads beside the words of nexts, and a text
pub record StepLeaves (journal image : List ℕ) (at m : ℕ) (nexts text : List ℕ) (o : Outcome (Next Step)) (t : Table) (r : Outcome (Next Told)) (words' heads' nexts' way' text' : List ℕ) : Type 0 where
  pub answer : r ≡ made_of journal image at o
  pub forward : words' ≡ (table_after o t).words
  pub heads-are : heads' ≡ heads_of m (table_after o t)
  pub nexts-are : nexts' ≡ nexts_of m (table_after o t) nexts
  pub way-is : WayAfter o way'
  pub text-is : text' ≡ text_after journal image at o text

-- of lent slices
module _ (journal image : Lent) (forward heads nexts way text : MutLent) (at : ℕ) where
  abbrev pub StepPromise : Outcome (Next Step) → Table → Outcome (Next Told) → Type 0
  StepPromise o t r =
      StepLeaves (before journal) (before image) at (length (before_mut heads)) (before_mut nexts) (before_mut text) o t r (after forward) (after heads) (after nexts) (after way) (after text)

  -- the text of a record that the table has; where there is no room for it, the table is again as it was without the record
  abbrev pub TellPromise : ℕ → Entered → Result Told Refusal → Type 0
  TellPromise used entered r =
      let held = entered.held in
      let o = step_with_text (before journal) (before image) (table (before_mut forward) used) entered.info.parent entered.info.name (length (before_mut text) - at) in
      StepPromise o (table (put_at (before_mut forward) held.slot held.key held.info) held.used) (map_outcome next (outcome r))

  -- a step with a record
  abbrev pub MakePromise : RecordEntry → ℕ → Result Told Refusal → Type 0
  MakePromise entry used r =
      StepPromise (making (before journal) (before image) (table (before_mut forward) used) entry (length (before_mut text) - at)) (table (before_mut forward) used) (map_outcome next (outcome r))
