-- The loop over the parts: what is left from where it stands leaves what all parts leave from the start. Assumes nothing.
use Prim.Native.Nat.{ℕ, zero, suc, ◌+◌, ◌-◌, ◌*◌, ◌≤◌, ◌<◌}
use mathlib.Core.Path.{◌≡◌, refl, ap, sym, ◌∙◌, subst}
use mathlib.Core.List.{List, [], ◌++◌, append_assoc, append-nil}
use native.Mathlib.Omega.{arith}
use lib.ListN.{length, take}
use lib.Seq.{sets, take-append_seam}
use Rattle.std.specs.declared.option.Option.{Option}
use Rattle.std.specs.Prelude.{Result, Ok, Err, OnOk}
use Rattle.std.specs.Io.KnownBytes.{Appends}
use Rattle.std.proofs.KnownBytes.{Appends-nil, Appends-trans}
use Rattle.base.specs.Lists.{flatten}
use Rattle.base.proofs.ListLaws.{sets-front}
use Rattle.additions.specs.Walking.{records_in}
use Rattle.rewind.specs.declared.Rewind.{Rewind}
use Rattle.usn_lines.specs.Listing.{Standing, standing, part, after_part, parts, all_parts, after_parts, after_all, list_of, begins, listing_from}
use Rattle.usn_lines.specs.Promise.{Puts, Begins}
use Rattle.usn_lines.specs.declared.Begun.{Begun}
use Rattle.usn_lines.specs.declared.Put.{Put}
use Rattle.usn_lines.proofs.ListingLaws.{parts_next, parts_none, parts-make-listing}

-- what follows from what holds on success
pub on_ok : {A E P Q : Type 0} (x : Result A E) → (P → Q) → OnOk x P → OnOk x Q
on_ok (Ok a) f p = f p
on_ok (Err e) f p = p

module _ (journal records words₀ : List ℕ) (start : Rewind) (count : ℕ) where
  abbrev whole : Standing
  whole = after_parts journal records 0 (count + 2) (standing words₀ start)

  pub record Going (words : List ℕ) (r : Rewind) (number : ℕ) : Type 0 where
    pub same : length words ≡ length words₀
    pub near : number ≤ count + 2
    pub left : after_parts journal records number (count + 2 - number) (standing words r) ≡ whole

  pub going_start : Going words₀ start 0
  going_start = record { same = refl; near = omega arith; left = let none : count + 2 - 0 ≡ count + 2 = omega arith in rw none }

  module _ {words : List ℕ} {r : Rewind} {number : ℕ} (g : Going words r number) where
    pub going_next : {text : List ℕ} {p : Put} {words' text' : List ℕ} → number < count + 2
        → Puts text (part journal records number (standing words r)) 65736 (after_part journal records number (standing words r)) p words' text'
        → length words' ≡ length words → Going words' p.rewind (number + 1)
    going_next {text} {p} {words'} {text'} h w k =
        let fewer : count + 2 - (number + 1) ≡ count + 2 - number - 1 = omega arith in
        let stands : standing words' p.rewind ≡ after_part journal records number (standing words r) = λ i. record { words = w.forward i; rewind = w.state i } in
        record {
          same = k ∙ g.same;
          near = omega (arith, h);
          left =
              ap (λ (m : ℕ). after_parts journal records (number + 1) m (standing words' p.rewind)) fewer
              ∙ ap (after_parts journal records (number + 1) (count + 2 - number - 1)) stands
              ∙ sym (parts_next journal records number (count + 2 - number) (standing words r) (omega (arith, h)))
              ∙ g.left;
        }

    pub going_end : records_in records ≡ count → count + 2 ≤ number → words ≡ (after_all journal records (standing words₀ start)).words
    going_end e h =
        ap (λ (s : Standing). s.words) (sym (parts_none journal records number (count + 2 - number) (standing words r) (omega (arith, h))) ∙ g.left)
        ∙ ap (λ (k : ℕ). (after_parts journal records 0 (k + 2) (standing words₀ start)).words) (sym e)

-- what begins and then goes through every part goes through the whole listing
pub all_listed : (journal first words : List ℕ) {r : Begun} {list' words' words'' : List ℕ} → Begins journal first words r list' words'
    → words'' ≡ (after_all journal (take (2 * r.records) list') (standing words' r.rewind)).words
    → words'' ≡ (after_all journal (list_of journal) (begins journal (list_of journal) first words)).words
all_listed journal first words {r} {list'} {words'} {words''} b e =
    let stands : standing words' r.rewind ≡ begins journal (list_of journal) first words = λ i. record { words = b.forward i; rewind = b.state i } in
    e
    ∙ ap (λ (l : List ℕ). (after_all journal l (standing words' r.rewind)).words) b.list-is
    ∙ ap (λ (s : Standing). (after_all journal (list_of journal) s).words) stands

abbrev all : List (List ℕ) → List ℕ
all = flatten (λ l. l)

-- the text of parts: the first one, and then the others; none of no parts
text_next : (journal records : List ℕ) (k m : ℕ) (s : Standing) → 0 < m
    → all (parts journal records k m s) ≡ part journal records k s ++ all (parts journal records (k + 1) (m - 1) (after_part journal records k s))
unfolding parts
text_next journal records k zero s h = absurd (omega arith)
text_next journal records k (suc m) s h = let one : suc m - 1 ≡ m = omega arith in rw one refl

text_none : (journal records : List ℕ) (k m : ℕ) (s : Standing) → m ≡ 0 → all (parts journal records k m s) ≡ []
unfolding parts
text_none journal records k m s h = rw h refl

-- what is at the front of a text is what was put there
front_is : (text vs : List ℕ) {n : ℕ} {text' : List ℕ} → length vs ≤ length text → n ≡ length vs → text' ≡ sets text 0 vs → take n text' ≡ vs
front_is text vs h e f = rw (e, f, sets-front text vs h) (take-append_seam vs _)

-- what a writer has got where the loop stands, and the text of the parts that are left
module _ (journal records words₀ : List ℕ) (start : Rewind) (count : ℕ) where
  abbrev whole_text : List ℕ
  whole_text = all (parts journal records 0 (count + 2) (standing words₀ start))

  pub record Written (before now : Option (List ℕ)) (words : List ℕ) (r : Rewind) (number : ℕ) : Type 0 where
    pub so-far : List ℕ
    pub holds : Appends before now so-far
    pub rest : so-far ++ all (parts journal records number (count + 2 - number) (standing words r)) ≡ whole_text

  pub written_start : (before : Option (List ℕ)) → Written before before words₀ start 0
  written_start before =
      record { so-far = []; holds = Appends-nil before; rest = let none : count + 2 - 0 ≡ count + 2 = omega arith in rw none refl }

  module _ {before now : Option (List ℕ)} {words : List ℕ} {r : Rewind} {number : ℕ} (g : Written before now words r number) where
    pub written_next : {text : List ℕ} {p : Put} {words' text' : List ℕ} {now' : Option (List ℕ)} → number < count + 2 → 65736 ≤ length text
        → Puts text (part journal records number (standing words r)) 65736 (after_part journal records number (standing words r)) p words' text'
        → Appends now now' (take p.end text') → Written before now' words' p.rewind (number + 1)
    written_next {text} {p} {words'} {text'} {now'} h room w a =
        let this = part journal records number (standing words r) in
        let fewer : count + 2 - (number + 1) ≡ count + 2 - number - 1 = omega arith in
        let stands : standing words' p.rewind ≡ after_part journal records number (standing words r) = λ i. record { words = w.forward i; rewind = w.state i } in
        let front : take p.end text' ≡ this = front_is text this (omega (arith, w.end_is, w.fits, room)) w.end_is w.written in
        record {
          so-far = g.so-far ++ this;
          holds = Appends-trans before now now' g.so-far this g.holds (subst (Appends now now') front a);
          rest =
              append_assoc g.so-far this (all (parts journal records (number + 1) (count + 2 - (number + 1)) (standing words' p.rewind)))
              ∙ ap (λ (l : List ℕ). g.so-far ++ (this ++ l))
              (ap (λ (m : ℕ). all (parts journal records (number + 1) m (standing words' p.rewind))) fewer
              ∙ ap (λ (s : Standing). all (parts journal records (number + 1) (count + 2 - number - 1) s)) stands)
              ∙ ap (λ (l : List ℕ). g.so-far ++ l) (sym (text_next journal records number (count + 2 - number) (standing words r) (omega (arith, h))))
              ∙ g.rest;
        }

    pub written_end : records_in records ≡ count → count + 2 ≤ number → Appends before now (all (all_parts journal records (standing words₀ start)))
    written_end e h =
        subst (Appends before now)
        (sym (append-nil g.so-far)
        ∙ ap (λ (l : List ℕ). g.so-far ++ l) (sym (text_none journal records number (count + 2 - number) (standing words r) (omega (arith, h))))
        ∙ g.rest
        ∙ ap (λ (k : ℕ). all (parts journal records 0 (k + 2) (standing words₀ start))) (sym e))
        g.holds

-- all parts of what begins are the listing
pub listing_written : (journal first words : List ℕ) (before now : Option (List ℕ)) {r : Begun} {list' words' : List ℕ} → Begins journal first words r list' words'
    → Appends before now (all (all_parts journal (take (2 * r.records) list') (standing words' r.rewind)))
    → Appends before now (listing_from journal (list_of journal) (begins journal (list_of journal) first words))
listing_written journal first words before now {r} {list'} {words'} b a =
    let stands : standing words' r.rewind ≡ begins journal (list_of journal) first words = λ i. record { words = b.forward i; rewind = b.state i } in
    subst (Appends before now)
    (ap (λ (l : List ℕ). all (all_parts journal l (standing words' r.rewind))) b.list-is
    ∙ ap (λ (s : Standing). all (all_parts journal (list_of journal) s)) stands
    ∙ parts-make-listing journal (list_of journal) (begins journal (list_of journal) first words))
    a
