-- What is known of a way once it is climbed, a path written name by name, and a text that is written only where it has room. Assumes nothing.
use Prim.Native.Nat.{ℕ, ◌+◌, ◌-◌, ◌*◌, ◌≤◌}
use Rattle.std.specs.Prelude.{Some, None}
use mathlib.Core.Path.{◌≡◌, ap, sym, ◌∙◌}
use mathlib.Core.List.{List, [], ◌++◌}
use mathlib.Core.Bool.{Bool, true, cond}
use native.Mathlib.Omega.{arith}
use borrow.Author.Tests.{leb-true, le-ltb}
use lib.ListN.{length, length-append}
use lib.Seq.{sets, length-sets}
use lib.Dec.{leb}
use Rattle.base.specs.Refusals.{domain}
use Rattle.base.proofs.ListLaws.{sets-append}
use Rattle.utf16.proofs.PutLaws.{Put}
use Rattle.entry_slots.specs.Names.{lengths_of, all_inside}
use Rattle.entry_slots.specs.Slots.{stride, slot_name, names_in}
use Rattle.entry_slots.specs.Table.{Table}
use Rattle.entry_slots.specs.declared.EntryKey.{EntryKey}
use Rattle.entry_slots.proofs.NameLaws.{all-inside-at}
use Rattle.chain.specs.Promise.{Climbs}
use Rattle.chain.specs.declared.way.Climbed.{Climbed}
use Rattle.chain.proofs.WayLaws.{climbed-slots}
use Rattle.path.specs.Promise.{WayAsks, Behinds}

-- the names of a way up a table whose names are inside
pub climbed-asks : (journal image : List ℕ) (t : Table) (k : EntryKey) {r : Climbed} {way' : List ℕ} → Climbs t k r way'
    → t.used * stride ≤ length t.words → all_inside (lengths_of journal image) (names_in t.words t.used) ≡ true → length journal ≤ domain → length image ≤ domain
    → WayAsks journal image t.words way' r
climbed-asks journal image t k g fits names hj hm =
    record {
      slots = climbed-slots t k g fits;
      insides = λ i h. all-inside-at (lengths_of journal image) (slot_name t.words) 0 t.used _ names (omega arith) (omega (arith, g.below.each i h));
      bounds = g.bounds;
      near-journal = hj;
      near-image = hm;
    }

-- The text was l₀ and is l, the next byte goes to `to`, and of the whole that begins at `at` the rest is still to be written: what goes on to be written ends in
-- the whole.
pub record WayText (l₀ l : List ℕ) (at to : ℕ) (rest whole : List ℕ) : Type 0 where
  pub ends : sets l to rest ≡ sets l₀ at whole
  pub same : length l ≡ length l₀
  pub count : to + length rest ≡ at + length whole

pub way-text-start : (l₀ : List ℕ) (at : ℕ) (front rest : List ℕ) {whole l : List ℕ} {to : ℕ} → whole ≡ front ++ rest → Put l₀ l at to front → WayText l₀ l at to rest whole
way-text-start l₀ at front rest {whole} {l} {to} e p =
    record {
      ends = rw (p.text_after, p.value, e) (sym (sets-append l₀ at front rest));
      same = ap length p.text_after ∙ length-sets l₀ at front;
      count = omega (arith, p.value, ap length e, length-append front rest);
    }

module _ {l₀ l : List ℕ} {at to : ℕ} {rest whole : List ℕ} (w : WayText l₀ l at to rest whole) where
  pub way-text-room : (first more : List ℕ) → rest ≡ first ++ more → at + length whole ≤ length l₀ → to + length first ≤ length l
  way-text-room first more e h = omega (arith, w.count, w.same, ap length e, length-append first more)

  pub way-text-more : (first more : List ℕ) → rest ≡ first ++ more → {l' : List ℕ} {to' : ℕ} → Put l l' to to' first → WayText l₀ l' at to' more whole
  way-text-more first more e p =
      record {
        ends = rw (p.text_after, p.value) (sym (sets-append l to first more) ∙ ap (sets l to) (sym e) ∙ w.ends);
        same = ap length p.text_after ∙ length-sets l to first ∙ w.same;
        count = omega (arith, p.value, w.count, ap length e, length-append first more);
      }

  pub way-text-end : rest ≡ [] → Put l₀ l at to whole
  way-text-end e = record { value = omega (arith, w.count, ap length e); text_after = ap (sets l to) (sym e) ∙ w.ends }

-- a text that has no room for more is left alone, and one that has holds it
module _ (more text : List ℕ) (at : ℕ) {fits : Bool} (e : fits ≡ leb (length more) (length text - at)) where
  pub behind-room : fits ≡ true → at ≤ length text → at + length more ≤ length text
  behind-room h g = omega (arith, leb-true (length more) (length text - at) (sym e ∙ h))

  pub behind-put : fits ≡ true → {to : ℕ} {x : List ℕ} → Put text x at to more → Behinds more text at (Some to) x
  behind-put h p =
      let q = le-ltb (length text - at) (length more) (leb-true _ _ (sym e ∙ h)) in
      record {
        answer = ap Some p.value ∙ sym (ap (λ (b : Bool). cond b None (Some (at + length more))) q);
        written = p.text_after ∙ sym (ap (λ (b : Bool). cond b text (sets text at more)) q);
      }
