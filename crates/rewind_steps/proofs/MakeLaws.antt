-- A step of a run by its ways out: the answer, and what the table, its index and the text then are. Assumes nothing.
use Prim.Native.Nat.{ℕ, ◌+◌, ◌-◌, ◌*◌, ◌≤◌, ◌<◌}
use mathlib.Core.Path.{◌≡◌, refl, ap, sym, ◌∙◌}
use mathlib.Core.List.{List, [], ◌∷◌}
use mathlib.Core.Bool.{Bool, true, false}
use native.Mathlib.Omega.{arith}
use lib.ListN.{length}
use lib.Seq.{sets}
use lib.Dec.{ltb}
use Rattle.base.specs.Outcome.{Outcome, refused, answered}
use Rattle.base.specs.Refusals.{table_full, text_full}
use Rattle.entry_slots.specs.Names.{lengths_of, inside, all_inside}
use Rattle.entry_slots.specs.Slots.{stride, slots_in, key_at, info_at, put_at, names_in}
use Rattle.entry_slots.specs.Table.{Table, table, slot_for, Addition}
use Rattle.additions.specs.Storing.{adding, used_after, words_after}
use Rattle.entry_slots.specs.declared.EntryKey.{EntryKey}
use Rattle.entry_slots.specs.declared.NamePlace.{NamePlace}
use Rattle.entry_slots.specs.declared.EntryInfo.{EntryInfo}
use Rattle.additions.proofs.OneLaws.{Added, adding-added, added-fits, added_none, added-table, names-added, put_back, slot-full}
use Rattle.additions.proofs.KeptLaws.{add-keeps}
use Rattle.entry_slots.specs.Index.{heads_of, nexts_of, Indexed, heads_after, nexts_after}
use Rattle.entry_table.proofs.SeedLaws.{heads-long, nexts-long, index-again, index-then}
use Rattle.chain.specs.Settings.{depth}
use Rattle.path.specs.Ways.{entry_text}
use Rattle.chain.specs.Chain.{chain_of}
use Rattle.chain.specs.Way.{Slots, way_places, chain_by, resolved_by}
use Rattle.chain.specs.Promise.{Climbs}
use Rattle.chain.specs.declared.ResolvedPath.{ResolvedPath}
use Rattle.chain.specs.declared.way.Climbed.{Climbed}
use Rattle.chain.proofs.WayLaws.{climbed-names, climbed-resolved, climbed-places, climbed-slots}
use Rattle.path.proofs.WayLaws.{climbed-asks}
use Rattle.path.specs.Promise.{WayAsks, Behinds}
use Rattle.additions.specs.Entries.{forward}
use Rattle.rewind_steps.specs.Taking.{Step, step_with}
use Rattle.rewind_steps.specs.StepText.{record_text, step_with_text}
use Rattle.additions.specs.declared.entries.RecordEntry.{RecordEntry}
use Rattle.rewind_steps.specs.Making.{making, table_after}
use Rattle.rewind_steps.specs.Promise.{StepAsks, StepLeaves}
use Rattle.rewind_records.specs.Turning.{Next, next}
use Rattle.rewind_steps.specs.declared.Told.{Told}
use Rattle.std.specs.Prelude.{Option, None, Some}

-- what a step asks is enough for the way up, and for its text
pub tell-asks : {journal image : List ℕ} {t : Table} {heads nexts : List ℕ} {name : NamePlace} {way : List ℕ} {at : ℕ} {text : List ℕ}
    → StepAsks journal image t heads nexts name way at text → t.used * stride ≤ length t.words
tell-asks asks = omega (arith, asks.fits)

pub way-asks : (journal image : List ℕ) {t : Table} {heads nexts : List ℕ} {name : NamePlace} {way : List ℕ} {at : ℕ} {text : List ℕ}
    → StepAsks journal image t heads nexts name way at text → {k : EntryKey} {r : Climbed} {way' : List ℕ} → Climbs t k r way'
    → WayAsks journal image t.words way' r
way-asks journal image asks g = climbed-asks journal image _ _ g (tell-asks asks) asks.names asks.near-journal asks.near-image

-- the text of a record that the table has
module _ (journal image : List ℕ) (u : Table) (parent : EntryKey) (name : NamePlace) (text : List ℕ) (at : ℕ) {way' : List ℕ} {p : Climbed}
    (up : Climbs u parent p way') (fits : u.used * stride ≤ length u.words) where
  abbrev step : Step
  step = step_with depth parent name u

  abbrev more : List ℕ
  more = entry_text journal image (chain_of u depth parent) name

  slots : Slots u.words way' (length (chain_of u depth parent).places)
  slots = rw (climbed-names u parent up) at (climbed-slots u parent up fits)

  names-are : way_places u.words way' (length (chain_of u depth parent).places) ≡ (chain_of u depth parent).places
  names-are = rw (climbed-names u parent up) at (climbed-places u parent up)

  same_text : more ≡ record_text journal image step
  unfolding entry_text record_text
  same_text = refl

  module _ (m : ℕ) (nexts : List ℕ) (t : Table) {v : Option ℕ} {y : List ℕ} (told : Behinds (entry_text journal image (chain_by u.words way' p) name) text at v y) where
    g : Behinds more text at v y
    g = rw up.chain-is at told

    abbrev Leaves : Outcome (Next Told) → List ℕ → List ℕ → List ℕ → List ℕ → List ℕ → Type 0
    Leaves = StepLeaves journal image at m nexts text (step_with_text journal image u parent name (length text - at)) t

    pub tell-to : {to : ℕ} {h n : List ℕ} {q : ResolvedPath} → v ≡ Some to → q ≡ resolved_by p → h ≡ heads_of m u → n ≡ nexts_of m u nexts → Leaves (answered (next (record { at = to; used = u.used; path = q }))) u.words h n way' y
    tell-to {to} {h} {n} {q} f eq eh en = go (ltb (length text - at) (length more)) refl
      where
        go : (b : Bool) → ltb (length text - at) (length more) ≡ b → Leaves (answered (next (record { at = to; used = u.used; path = q }))) u.words h n way' y
        go true l = let z : Some to ≡ None = sym f ∙ g.answer ∙ rw l in let z : ◌≡◌ {A = ℕ} 0 1 = cc in absurd (omega arith)
        go false l =
            let l' : ltb (length text - at) (length (record_text journal image step)) ≡ false = rw (← same_text) l in
            let is : Some to ≡ Some (at + length more) = sym f ∙ g.answer ∙ rw l in
            let to-more : to ≡ at + length more = cc in
            let to_is : to ≡ at + length (record_text journal image step) = to-more ∙ ap (λ (x : List ℕ). at + length x) same_text in
            let text-is : y ≡ sets text at more = g.written ∙ rw l in
            rw l'
            (record {
              answer = λ i. answered (next (record { at = to_is i; used = u.used; path = (eq ∙ climbed-resolved u parent up) i }));
              forward = refl;
              heads-are = eh;
              nexts-are = en;
              way-is = (slots, names-are);
              text-is = text-is ∙ ap (sets text at) same_text;
            })

    pub tell-full : {f h n : List ℕ} → v ≡ None → f ≡ t.words → h ≡ heads_of m t → n ≡ nexts_of m t nexts → Leaves (refused text_full) f h n way' y
    tell-full {f} {h} {n} e ef eh en = go (ltb (length text - at) (length more)) refl
      where
        go : (b : Bool) → ltb (length text - at) (length more) ≡ b → Leaves (refused text_full) f h n way' y
        go true l =
            let l' : ltb (length text - at) (length (record_text journal image step)) ≡ true = rw (← same_text) l in
            let text-is : y ≡ text = g.written ∙ rw l in
            rw l' (record { answer = refl; forward = ef; heads-are = eh; nexts-are = en; way-is = tt; text-is = text-is })
        go false l =
            let z : None ≡ Some (at + length more) = sym e ∙ g.answer ∙ rw l in
            let z : ◌≡◌ {A = ℕ} 0 1 = cc in
            absurd (omega arith)

-- a step with the record that is next
module _ (journal image : List ℕ) (t : Table) (e : RecordEntry) (text : List ℕ) (at : ℕ) (heads nexts : List ℕ) where
  abbrev Makes : Outcome (Next Told) → List ℕ → List ℕ → List ℕ → List ℕ → List ℕ → Type 0
  Makes = StepLeaves journal image at (length heads) nexts text (making journal image t e (length text - at)) t

  module _ (fits : t.used ≤ slots_in t.words) (index : Indexed t heads nexts) where
    -- nothing is changed where no slot is left
    full : {k : ℕ} {way : List ℕ} → adding t (forward e ∷ []) ≡ refused k → Makes (refused k) t.words heads nexts way text
    full g = rw g (record { answer = refl; forward = refl; heads-are = index.0; nexts-are = index.1; way-is = tt; text-is = refl })

    pub make-none : {slot : ℕ} {way : List ℕ} → slot ≡ slot_for t e.key → slots_in t.words ≤ slot → Makes (refused table_full) t.words heads nexts way text
    make-none q h = full (slot-full t (forward e) fits (rw q at h))

    module _ {a : Addition} {o : Outcome ℕ} {s h n : List ℕ} (q : a ≡ forward e) (x : o ≡ used_after (adding t (a ∷ [])))
        (z : s ≡ words_after (adding t (a ∷ [])) t.words) (zh : h ≡ heads_after (adding t (a ∷ [])) heads)
        (zn : n ≡ nexts_after (length heads) (adding t (a ∷ [])) nexts) where
      pub make-refused : {k : ℕ} {way : List ℕ} → o ≡ refused k → Makes (refused k) s h n way text
      make-refused {k} y =
          let f : adding t (a ∷ []) ≡ refused k = (added_none t a x z y).0 in
          let eh : h ≡ heads = zh ∙ ap (λ (p : Outcome Table). heads_after p heads) f in
          let en : n ≡ nexts = zn ∙ ap (λ (p : Outcome Table). nexts_after (length heads) p nexts) f in
          rw ((added_none t a x z y).1, eh, en) (full (rw (← q) f))

      module _ {k : ℕ} (y : o ≡ answered k) where
        goes : adding t (a ∷ []) ≡ answered (table s k)
        goes = added-table t a x z y

        w : Added t a (table s k)
        w = adding-added t a goes

        heads-are : h ≡ heads_of (length heads) (table s k)
        heads-are = zh ∙ ap (λ (p : Outcome Table). heads_after p heads) goes

        nexts-are : n ≡ nexts_of (length heads) (table s k) nexts
        nexts-are = zn ∙ ap (λ (p : Outcome Table). nexts_after (length heads) p nexts) goes

        long-words : length s ≡ length t.words
        long-words = ap (λ (u : Table). length u.words) w.leaves ∙ (add-keeps t a).long

        -- what the telling asks
        after-fits : k ≤ slots_in s
        after-fits = rw (← w.leaves) at (added-fits t a w.room)

        after-old : t.used ≤ slots_in s
        after-old = omega (arith, long-words)

        after-slot : {slot : ℕ} → slot < slots_in t.words → slot < slots_in s
        after-slot g = omega (arith, long-words)

        after-index : Indexed (table s k) h n
        after-index = index-again (length heads) (table s k) nexts heads-are nexts-are

        after-nexts : (0 < length heads → slots_in t.words ≤ length nexts) → 0 < length h → slots_in s ≤ length n
        after-nexts g p = let l = g (omega (arith, heads-long (length heads) (table s k) nexts heads-are nexts-are)) in omega (arith, long-words, nexts-long (length heads) (table s k) nexts heads-are nexts-are)

        after-inside : all_inside (lengths_of journal image) (names_in t.words t.used) ≡ true → inside (lengths_of journal image) e.info.name ≡ true
            → all_inside (lengths_of journal image) (names_in s k) ≡ true
        after-inside old own =
            rw (← w.leaves) at (names-added t a w.room (lengths_of journal image) old (rw q own))

        pub make-asks : {slot : ℕ} {way : List ℕ} → slot < slots_in t.words → StepAsks journal image t heads nexts e.info.name way at text
            → StepAsks journal image (table s k) h n e.info.name way at text × ((slot < slots_in s) × (t.used ≤ slots_in s))
        make-asks g asks = (
          record {
            fits = after-fits;
            index = after-index;
            wide = after-nexts asks.wide;
            names = after-inside asks.names asks.own;
            near-journal = asks.near-journal;
            near-image = asks.near-image;
            own = asks.own;
            long = asks.long;
            room = asks.room;
          },
          (after-slot g, after-old),
        )

        -- what stood in the slot leads back to the table
        back : {slot : ℕ} {key : EntryKey} {info : EntryInfo} → slot ≡ slot_for t e.key → key ≡ key_at t.words slot → info ≡ info_at t.words slot
            → table (put_at s slot key info) t.used ≡ t
        back {slot} {key} {info} qs qk qi =
            let same : put_at s slot key info ≡ t.words = rw (qk, qi) (rw (← w.leaves) at (put_back t a w.room (qs ∙ rw q))) in
            λ i. record { words = same i; used = t.used }

        pub make-written : {slot : ℕ} {key : EntryKey} {info : EntryInfo} → slot ≡ slot_for t e.key → key ≡ key_at t.words slot → info ≡ info_at t.words slot
            → {r : Outcome (Next Told)} {f' h' n' w' x' : List ℕ}
            → StepLeaves journal image at (length h) n text (step_with_text journal image (table s k) e.info.parent e.info.name (length text - at)) (table (put_at s slot key info) t.used) r f' h' n' w' x'
            → Makes r f' h' n' w' x'
        make-written qs qk qi c =
            let o' = step_with_text journal image (table s k) e.info.parent e.info.name (length text - at) in
            let goes' : adding t (forward e ∷ []) ≡ answered (table s k) = rw (← q) goes in
            let c' = rw (back qs qk qi) at c in
            let both = index-then (length heads) (table s k) nexts heads-are nexts-are {u = table_after o' t} {o = answered (table_after o' t)} refl c'.heads-are c'.nexts-are in
            rw goes' (record { answer = c'.answer; forward = c'.forward; heads-are = both.0; nexts-are = both.1; way-is = c'.way-is; text-is = c'.text-is })
