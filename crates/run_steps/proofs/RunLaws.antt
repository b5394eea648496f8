-- A run by its turns: what is left, from where it stands, leads to where all of it leads. Assumes nothing.
use Prim.Native.Nat.{ℕ, suc, ◌+◌, ◌-◌, ◌≤◌, ◌<◌}
use mathlib.Core.Path.{◌≡◌, refl, ap, sym, ◌∙◌}
use mathlib.Core.List.{List, [], ◌∷◌, ◌++◌}
use native.Mathlib.Omega.{arith}
use native.Mathlib.Nat.{zero-add}
use lib.ListN.{length, length-append, length-set, set}
use lib.Seq.{sets, length-sets}
use Rattle.base.specs.Outcome.{Outcome, refused, answered}
use Rattle.base.specs.Lists.{overwrite}
use Rattle.base.proofs.ListLaws.{sets-append, sets-front}
use Rattle.entry_slots.specs.Slots.{slots_in}
use Rattle.entry_slots.specs.Table.{Table, table}
use Rattle.entry_slots.specs.Index.{heads_of, nexts_of}
use Rattle.entry_table.proofs.SeedLaws.{heads-long, nexts-long, index-again, index-then}
use Rattle.rewind_records.specs.Environment.{environment_of, rewind_refusal}
use Rattle.additions.specs.Walking.{records_in}
use Rattle.rewind_records.specs.Turning.{Next, ended, next}
use Rattle.rewind_steps.specs.Taking.{Step}
use Rattle.rewind.specs.Stepping.{state_of}
use Rattle.rewind_steps.specs.StepText.{record_text}
use Rattle.rewind.specs.Written.{stepped_with_text}
use Rattle.rewind.specs.declared.Rewind.{Rewind}
use Rattle.run_steps.specs.declared.RewindRun.{RewindRun}
use Rattle.run_steps.specs.Running.{Run, run_from, stop_number, onward, running, ran}
use Rattle.rewind_steps.specs.Making.{told_of, made_of}
use Rattle.rewind_steps.specs.Promise.{StepLeaves}
use Rattle.run_steps.specs.Promise.{RunAsks, RunLeaves}
use Rattle.std.specs.Prelude.{Result, Ok, Err, Option, None, Some}
use Rattle.base.specs.Refusals.{number_of}
use Rattle.base.specs.declared.refusal.Refusal.{Refusal}
use Rattle.rewind_records.specs.Turning.{next_outcome}
use Rattle.rewind_steps.specs.declared.Told.{Told}
use Rattle.run_steps.proofs.StepLaws.{MadeStep, made-step}

-- what is written behind what is written
pub written_behind : (l vs more : List ℕ) → length vs + length more ≤ length l → sets (overwrite l vs) (length vs) more ≡ overwrite l (vs ++ more)
written_behind l vs more h =
    ap (λ (w : List ℕ). sets w (length vs) more) (sym (sets-front l vs (omega arith)))
    ∙ ap (λ (i : ℕ). sets (sets l 0 vs) i more) (sym (zero-add (length vs)))
    ∙ sym (sets-append l 0 vs more)
    ∙ sets-front l (vs ++ more) (omega (arith, length-append vs more))

-- a run that goes on, and one that was asked for no more
pub run-turn : (journal image records : List ℕ) (room n : ℕ) (r : Run)
    → running journal image records room (suc n) r ≡ onward (running journal image records room n) journal image r (stepped_with_text journal image records r.words r.rewind (room - length r.text))
unfolding running
run-turn journal image records room n r = refl

pub run_none : (journal image records : List ℕ) (room : ℕ) (r : Run) → running journal image records room 0 r ≡ r
unfolding running
run_none journal image records room r = refl

-- a run that stopped with a refusal, and one that has none so far
abbrev pub stop_at : List ℕ → ℕ → ℕ → List ℕ → List ℕ → ℕ → Run
stop_at words used position texts marks k = record { words = words; rewind = state_of used position; text = texts; ends = marks; stopped = k }

abbrev pub now_at : List ℕ → ℕ → ℕ → List ℕ → List ℕ → Run
now_at words used position texts marks = stop_at words used position texts marks 0

-- what a step's answer says of what it comes to
module _ (journal image : List ℕ) (at : ℕ) where
  ended_of : (o : Outcome (Next Step)) → answered ended ≡ made_of journal image at o → o ≡ answered ended
  ended_of (refused n) e = let z : ◌≡◌ {A = ℕ} 0 1 = cc in absurd (omega arith)
  ended_of (answered ended) e = refl
  ended_of (answered (next x)) e = let z : ◌≡◌ {A = ℕ} 0 1 = cc in absurd (omega arith)

  refused-of : {k : ℕ} (o : Outcome (Next Step)) → refused k ≡ made_of journal image at o → o ≡ refused k
  refused-of {k} (refused n) e = let same : k ≡ n = cc in sym (ap refused same)
  refused-of (answered ended) e = let z : ◌≡◌ {A = ℕ} 0 1 = cc in absurd (omega arith)
  refused-of (answered (next x)) e = let z : ◌≡◌ {A = ℕ} 0 1 = cc in absurd (omega arith)

  next-of : {A : Type 0} {told : Told} (o : Outcome (Next Step)) → answered (next told) ≡ made_of journal image at o
      → ((x : Step) → o ≡ answered (next x) → told ≡ told_of journal image at x → A) → A
  next-of (refused n) e f = let z : ◌≡◌ {A = ℕ} 0 1 = cc in absurd (omega arith)
  next-of (answered ended) e f = let z : ◌≡◌ {A = ℕ} 0 1 = cc in absurd (omega arith)
  next-of (answered (next x)) e f = f x refl cc

module _ (journal image records words₀ : List ℕ) (r₀ : Rewind) (heads₀ nexts₀ ends₀ text₀ : List ℕ) where
  abbrev room : ℕ
  room = length text₀

  abbrev asked : ℕ
  asked = length ends₀

  abbrev all : Run
  all = ran journal image records words₀ r₀ room asked

  abbrev Runs : RewindRun → List ℕ → List ℕ → List ℕ → List ℕ → List ℕ → Type 0
  Runs = RunLeaves journal image records words₀ r₀ heads₀ nexts₀ ends₀ text₀

  -- where the loop stands: the steps that are left lead to the whole run, the texts and the ends so far are written, the tests pass, and the index is the
  -- table's
  pub record Going (words heads nexts ends text : List ℕ) (used position at i : ℕ) : Type 0 where
    pub texts : List ℕ
    pub marks : List ℕ
    pub leads : running journal image records room (asked - i) (now_at words used position texts marks) ≡ all
    pub passes : rewind_refusal (environment_of journal image records) (table words used) ≡ 0
    pub text-is : text ≡ overwrite text₀ texts
    pub ends-are : ends ≡ overwrite ends₀ marks
    pub words_long : length words ≡ length words₀
    pub text-long : length text ≡ room
    pub ends-long : length ends ≡ asked
    pub at-is : at ≡ length texts
    pub at_room : at ≤ room
    pub i-is : i ≡ length marks
    pub i-room : i ≤ asked
    pub heads-are : heads ≡ heads_of (length heads₀) (table words used)
    pub nexts-are : nexts ≡ nexts_of (length heads₀) (table words used) nexts₀
    pub wide : 0 < length heads₀ → slots_in words ≤ length nexts₀

  pub going_start : RunAsks journal image records words₀ r₀ heads₀ nexts₀
      → Going words₀ heads₀ nexts₀ ends₀ text₀ r₀.used r₀.position 0 0
  going_start asks =
      let n : asked - 0 ≡ asked = omega arith in
      record {
        texts = [];
        marks = [];
        leads = ap (λ (k : ℕ). running journal image records room k (run_from words₀ r₀)) n;
        passes = asks.passes;
        text-is = refl;
        ends-are = refl;
        words_long = refl;
        text-long = refl;
        ends-long = refl;
        at-is = refl;
        at_room = omega arith;
        i-is = refl;
        i-room = omega arith;
        heads-are = asks.index.0;
        nexts-are = asks.index.1;
        wide = asks.wide;
      }

  module _ {words heads nexts ends text : List ℕ} {used position at i : ℕ} (w : Going words heads nexts ends text used position at i) where
    abbrev now : Run
    now = now_at words used position w.texts w.marks

    -- what a step asks
    pub going-asks : RunAsks journal image records words (state_of used position) heads nexts
    going-asks =
        let long-heads = heads-long (length heads₀) (table words used) nexts₀ w.heads-are w.nexts-are in
        let long-nexts = nexts-long (length heads₀) (table words used) nexts₀ w.heads-are w.nexts-are in
        record {
          passes = w.passes;
          index = index-again (length heads₀) (table words used) nexts₀ w.heads-are w.nexts-are;
          wide = λ p. let g = w.wide (omega (arith, long-heads)) in omega (arith, long-nexts);
        }

    pub going-heads : length heads ≡ length heads₀
    going-heads = heads-long (length heads₀) (table words used) nexts₀ w.heads-are w.nexts-are

    pub going-nexts : length nexts ≡ length nexts₀
    going-nexts = nexts-long (length heads₀) (table words used) nexts₀ w.heads-are w.nexts-are

    pub going-room : at ≤ length text
    going-room = omega (arith, w.at_room, w.text-long)

    -- the index of another table, made of this one's
    anew : (u : Table) {h n : List ℕ} → h ≡ heads_of (length heads) u → n ≡ nexts_of (length heads) u nexts → (h ≡ heads_of (length heads₀) u) × (n ≡ nexts_of (length heads₀) u nexts₀)
    anew u eh en = index-then (length heads₀) (table words used) nexts₀ w.heads-are w.nexts-are {u = u} {o = answered u} refl eh en

    -- a run that stands here and is over
    over : (k : Option Refusal) → all ≡ stop_at words used position w.texts w.marks (stop_number k) → {f h n x : List ℕ} → f ≡ words → h ≡ heads_of (length heads) (table words used)
        → n ≡ nexts_of (length heads) (table words used) nexts → x ≡ text → Runs (record { steps = i; stopped = k; rewind = state_of used position }) f h n ends x
    over k e {f} {h} {n} {x} ef eh en ex =
        let both = anew (table words used) eh en in
        record {
          answer = rw e (ap (λ (j : ℕ). record { steps = j; stopped = stop_number k; rewind = state_of used position }) w.i-is);
          forward = rw e ef;
          heads-are = rw e both.0;
          nexts-are = rw e both.1;
          ends-are = rw e w.ends-are;
          text-is = rw e (ex ∙ w.text-is);
        }

    -- all that were asked for are made
    pub going-all : length ends ≤ i → {m : ℕ} → m ≡ length ends → Runs (record { steps = m; stopped = None; rewind = state_of used position }) words heads nexts ends text
    going-all h {m} e =
        let n : 0 ≡ asked - i = omega (arith, w.ends-long) in
        let same : m ≡ i = omega (arith, e, w.ends-long, w.i-room) in
        rw same
        (over None (sym (sym (run_none journal image records room now) ∙ ap (λ (k : ℕ). running journal image records room k now) n ∙ w.leads)) refl
        going-asks.index.0 going-asks.index.1 refl)

    module _ (less : i < length ends) where
      abbrev o : Outcome (Next Step)
      o = stepped_with_text journal image records words (state_of used position) (length text - at)

      abbrev rest : ℕ
      rest = asked - (i + 1)

      turns : onward (running journal image records room rest) journal image now o ≡ all
      turns =
          let left : length text - at ≡ room - length w.texts = omega (arith, w.text-long, w.at-is) in
          let fuel : suc rest ≡ asked - i = omega (arith, w.ends-long) in
          ap (λ (m : ℕ). onward (running journal image records room rest) journal image now (stepped_with_text journal image records words (state_of used position) m)) left
          ∙ sym (run-turn journal image records room rest now)
          ∙ ap (λ (k : ℕ). running journal image records room k now) fuel
          ∙ w.leads

      turned : {q : Outcome (Next Step)} → o ≡ q → all ≡ onward (running journal image records room rest) journal image now q
      turned e = sym turns ∙ ap (onward (running journal image records room rest) journal image now) e

      -- by what the step answers
      abbrev Leaves : Result (Option Told) Refusal → List ℕ → List ℕ → List ℕ → List ℕ → List ℕ → Type 0
      Leaves a = StepLeaves journal image at (length heads) nexts text o (table words used) (next_outcome a)

      pub going_end : {a : Result (Option Told) Refusal} {f h n way x : List ℕ} → a ≡ Ok None → Leaves a f h n way x
          → Runs (record { steps = i; stopped = None; rewind = state_of used position }) f h n ends x
      going_end g c =
          let e : o ≡ answered ended = ended_of journal image at o (sym (ap next_outcome g) ∙ c.answer) in
          let d = rw e at c in
          over None (turned e) d.forward d.heads-are d.nexts-are d.text-is

      pub going-refused : {a : Result (Option Told) Refusal} {k : Refusal} {f h n way x : List ℕ} → a ≡ Err k → Leaves a f h n way x
          → Runs (record { steps = i; stopped = Some k; rewind = state_of used position }) f h n ends x
      going-refused {k = k} g c =
          let e : o ≡ refused (number_of k) = refused-of journal image at o (sym (ap next_outcome g) ∙ c.answer) in
          let d = rw e at c in
          over (Some k) (turned e) d.forward d.heads-are d.nexts-are d.text-is

      -- a step that is made leads on
      module _ {x : Step} (e : o ≡ answered (next x)) where
        abbrev more : List ℕ
        more = record_text journal image x

        made : MadeStep journal image records words used position w.passes (length text - at) x
        made = made-step journal image records words used position w.passes (length text - at) e

        from-made : {to : ℕ} {h n y : List ℕ} → to ≡ at + length more → h ≡ heads_of (length heads) x.table → n ≡ nexts_of (length heads) x.table nexts
            → y ≡ sets text at more → Going x.table.words h n (set ends i to) y x.table.used (position + 1) to (i + 1)
        from-made {to} {h} {n} {y} eto eh en ey =
            let texts = w.texts ++ more in
            let long-texts : length texts ≡ length w.texts + length more = length-append w.texts more in
            let to_is : to ≡ length texts = omega (arith, w.at-is) in
            let fits : length w.texts + length more ≤ room = omega (arith, w.at-is, w.at_room, w.text-long, made.fits) in
            let fits-ends : length w.marks + length (to ∷ []) ≤ asked = omega (arith, w.i-is, w.ends-long) in
            record {
              texts = texts;
              marks = w.marks ++ (length texts ∷ []);
              leads = sym (turned e);
              passes = made.passes;
              text-is = ey ∙ rw (w.text-is, w.at-is) (written_behind text₀ w.texts more fits);
              ends-are = rw (w.ends-are, w.i-is, to_is) (written_behind ends₀ w.marks (length texts ∷ []) (omega arith));
              words_long = made.long ∙ w.words_long;
              text-long = ap length ey ∙ length-sets text at more ∙ w.text-long;
              ends-long = length-set ends i to ∙ w.ends-long;
              at-is = to_is;
              at_room = omega (arith, w.at-is);
              i-is = omega (arith, w.i-is, length-append w.marks (length texts ∷ []));
              i-room = omega (arith, w.ends-long);
              heads-are = (anew x.table eh en).0;
              nexts-are = (anew x.table eh en).1;
              wide = λ p. omega (arith, w.wide p, made.long);
            }

      pub going-made : {a : Result (Option Told) Refusal} {told : Told} {f h n way y : List ℕ} → a ≡ Ok (Some told) → Leaves a f h n way y
          → Going f h n (set ends i told.at) y told.used (position + 1) told.at (i + 1)
      going-made g c =
          next-of journal image at o (sym (ap next_outcome g) ∙ c.answer)
          (λ x e is. let d = rw e at c in rw (d.forward, ap (λ (t : Told). t.used) is) (from-made e (ap (λ (t : Told). t.at) is) d.heads-are d.nexts-are d.text-is))

      -- the position is below the records
      pub going-near : {a : Result (Option Told) Refusal} {told : Told} → a ≡ Ok (Some told) → next_outcome a ≡ made_of journal image at o → position < records_in records
      going-near g q = next-of journal image at o (sym (ap next_outcome g) ∙ q) (λ x e is. (made e).near)
