-- What the functions promise that write parts of a listing. A record says it of lists: what the lent slices hold before, and, with ', after. The promise itself
-- takes the call's parameters.
use Rattle.std.specs.Prelude.{ℕ, ◌*◌, ◌≤◌, ◌≡◌, List, [], length, take, Option, None, Some}
use Rattle.std.proofs.lemmas.List.Edits.{sets}
use Rattle.base.specs.Lent.{Lent, MutLent, before, before_mut, after}
use Rattle.base.specs.Lists.{overwrite}
use Rattle.usn_scan.specs.Scan.{scanned}
use Rattle.base.specs.Outcome.{Outcome, refused, answered}
use Rattle.rewind_records.specs.Turning.{Next, ended, next}
use Rattle.rewind_steps.specs.Taking.{Step}
use Rattle.rewind_steps.specs.StepText.{record_text}
use Rattle.rewind.specs.Stepping.{rewind_after, words_after}
use Rattle.rewind.specs.Written.{stepped_with_text}
use Rattle.rewind.specs.declared.Rewind.{Rewind}
use Rattle.run_steps.specs.Running.{RunNumbers}
use Rattle.usn_lines.specs.Listing.{Standing, standing, most_path, shown_path, onward, path_of, line, part, after_part, list_of, begins}
use Rattle.usn_lines.specs.declared.Begun.{Begun}
use Rattle.usn_lines.specs.declared.Put.{Put}

-- so many bytes are enough for any part
abbrev pub most_part : ℕ
most_part = 65736

-- a text vs at the front of a lent one, no longer than most, and where the listing stands after it
pub record Puts (text vs : List ℕ) (most : ℕ) (s : Standing) (r : Put) (words' text' : List ℕ) : Type 0 where
  pub end_is : r.end ≡ length vs
  pub written : text' ≡ sets text 0 vs
  pub fits : r.end ≤ most
  pub state : r.rewind ≡ s.rewind
  pub forward : words' ≡ s.words

-- the rewind after the next record alone
pub record Passes (s : Standing) (r : Rewind) (words' : List ℕ) : Type 0 where
  pub state : r ≡ s.rewind
  pub forward : words' ≡ s.words

abbrev pub PassPromise : Lent → Lent → Rewind → MutLent → Rewind → Type 0
PassPromise journal records rewind forward r =
    Passes (onward (before journal) (before records) (standing (before_mut forward) rewind)) r (after forward)

-- the run that a call answers, or one of no steps where it is refused
abbrev pub run_or : Rewind → Outcome RunNumbers → RunNumbers
run_or r (refused n) = record { steps = 0; stopped = 0; rewind = r }
run_or r (answered x) = x

-- what a step with text comes to: where its path ends and the rewind after it, where one is made, and the text of the path
abbrev pub put_of_step : List ℕ → Rewind → Outcome (Next Step) → Option Put
put_of_step journal q (refused n) = None
put_of_step journal q (answered ended) = None
put_of_step journal q (answered (next x)) = Some (record { end = length (record_text journal [] x); rewind = rewind_after (answered (next x)) q })

abbrev pub text_of_step : List ℕ → Outcome (Next Step) → List ℕ
text_of_step journal (refused n) = []
text_of_step journal (answered ended) = []
text_of_step journal (answered (next x)) = record_text journal [] x

-- the step, with its text at the front of a lent one
pub record StepsWithText (journal words : List ℕ) (q : Rewind) (text : List ℕ) (o : Outcome (Next Step)) (r : Option Put) (words' text' : List ℕ) : Type 0 where
  pub answer : r ≡ put_of_step journal q o
  pub forward : words' ≡ words_after o words
  pub written : text' ≡ overwrite text (text_of_step journal o)

abbrev pub TextStepPromise : Lent → Lent → Rewind → MutLent → MutLent → Option Put → Type 0
TextStepPromise journal records rewind forward text r =
    let o = stepped_with_text (before journal) [] (before records) (before_mut forward) rewind (length (before_mut text)) in
    StepsWithText (before journal) (before_mut forward) rewind (before_mut text) o r (after forward) (after text)

-- the next record's path, in at most so many bytes
abbrev pub WithinPromise : Lent → Lent → Rewind → MutLent → MutLent → ℕ → Put → Type 0
WithinPromise journal records rewind forward text most r =
    let o = stepped_with_text (before journal) [] (before records) (before_mut forward) rewind most in
    let s = onward (before journal) (before records) (standing (before_mut forward) rewind) in
    Puts (before_mut text) (shown_path (before journal) o) most s r (after forward) (after text)

-- the next record's path
abbrev pub PathPromise : Lent → Lent → Rewind → MutLent → MutLent → Put → Type 0
PathPromise journal records rewind forward text r =
    let s = standing (before_mut forward) rewind in
    Puts (before_mut text) (path_of (before journal) (before records) s) most_path (onward (before journal) (before records) s) r (after forward) (after text)

-- its line
abbrev pub LinePromise : Lent → Lent → ℕ → Rewind → MutLent → MutLent → Put → Type 0
LinePromise journal records number rewind forward text r =
    let s = standing (before_mut forward) rewind in
    Puts (before_mut text) (line (before journal) (before records) number s) most_part (onward (before journal) (before records) s) r (after forward) (after text)

-- a part of the listing of the first so many records of a list
abbrev pub PartPromise : Lent → Lent → ℕ → ℕ → Rewind → MutLent → MutLent → Put → Type 0
PartPromise journal list count number rewind forward text r =
    let s = standing (before_mut forward) rewind in
    let records = take (2 * count) (before list) in
    Puts (before_mut text) (part (before journal) records number s) most_part (after_part (before journal) records number s) r (after forward) (after text)

-- the start of the rewind
abbrev pub StartPromise : Lent → Lent → MutLent → MutLent → Rewind → Type 0
StartPromise journal records first forward r = Passes (begins (before journal) (before records) (before_mut first) (before_mut forward)) r (after forward)

-- where a listing begins: how many records there are, the list of them, and the start of their rewind
pub record Begins (journal words₀ words : List ℕ) (r : Begun) (list' words' : List ℕ) : Type 0 where
  pub count : r.records ≡ length (scanned journal)
  pub list-is : take (2 * r.records) list' ≡ list_of journal
  pub inside : 2 * r.records ≤ length list'
  pub state : r.rewind ≡ (begins journal (list_of journal) words₀ words).rewind
  pub forward : words' ≡ (begins journal (list_of journal) words₀ words).words

abbrev pub BeginPromise : Lent → MutLent → MutLent → MutLent → Begun → Type 0
BeginPromise journal list first forward r = Begins (before journal) (before_mut first) (before_mut forward) r (after list) (after forward)
