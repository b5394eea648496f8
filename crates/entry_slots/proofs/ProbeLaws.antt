-- A walk along the links of a key's hash: the slots between two links have other hashes, so that they do not have the key. Assumes nothing.
use Prim.Native.Nat.{ℕ, zero, suc, ◌+◌, ◌-◌, ◌≤◌, ◌<◌}
use mathlib.Core.Path.{◌≡◌, refl, ap, sym, ◌∙◌, subst}
use mathlib.Core.List.{List}
use mathlib.Core.Bool.{Bool, true, false, cond}
use native.Mathlib.Omega.{arith}
use borrow.Author.Tests.{eqb-true, eqb-false}
use lib.ListN.{length, get_or}
use lib.Dec.{eqb}
use Rattle.entry_slots.specs.Slots.{same_key, key_at, find_from}
use Rattle.entry_slots.specs.Table.{Table, find, slot_or, slot_for}
use Rattle.entry_slots.specs.declared.EntryKey.{EntryKey}
use Rattle.std.specs.Prelude.{Option, Some, None}
use Rattle.entry_slots.proofs.FindLaws.{same-equal}
use Rattle.entry_slots.specs.Index.{hash, first_link, head_of}
use Rattle.entry_slots.specs.Probing.{following, LinkOf, LastOf, Probed, slot_by}
use Rattle.entry_slots.specs.declared.links.Probe.{Probe}
use Rattle.entry_slots.specs.declared.links.Probe.TheVariants.{Hit, Last}
use Rattle.entry_slots.proofs.IndexLaws.{hash-below, Links}

-- the hash of the key in slot i
abbrev pub hash_at : ℕ → List ℕ → ℕ → ℕ
hash_at m s i = hash m (key_at s i)

-- the slot of a key among those from a link on
unfoldable pub from_link : List ℕ → ℕ → EntryKey → ℕ → Option ℕ
from_link s used k zero = None
from_link s used k (suc i) = find_from s k i (used - i)

-- how many slots there are from a link on, which is less at every link
unfoldable pub left : ℕ → ℕ → ℕ
left used zero = 0
left used (suc i) = used - i

-- a slot of another hash does not have the key
other-hash : (m : ℕ) (s : List ℕ) (i : ℕ) (k : EntryKey) → (hash_at m s i ≡ hash m k → ⊥) → same_key (key_at s i) k ≡ false
other-hash m s i k h = go (same_key (key_at s i) k) refl
  where
    go : (b : Bool) → same_key (key_at s i) k ≡ b → b ≡ false
    go true e = absurd (h (ap (hash m) (same-equal (key_at s i) k e)))
    go false e = refl

find-pass : (s : List ℕ) (k : EntryKey) (i n : ℕ) → same_key (key_at s i) k ≡ false → find_from s k i (suc n) ≡ find_from s k (i + 1) n
unfolding find_from
find-pass s k i n e = rw (find_from, e)

find-here : (s : List ℕ) (k : EntryKey) (i n : ℕ) → same_key (key_at s i) k ≡ true → find_from s k i (suc n) ≡ Some i
unfolding find_from
find-here s k i n e = rw (find_from, e)

-- so that the key's slot is found from the next link on
pub jump : (m : ℕ) (s : List ℕ) (used : ℕ) (k : EntryKey) (n i : ℕ) → i + n ≡ used → find_from s k i n ≡ from_link s used k (first_link m s (hash m k) i n)
unfolding find_from first_link from_link
jump m s used k zero i e = refl
jump m s used k (suc n) i e = go (eqb (hash_at m s i) (hash m k)) refl (jump m s used k n (i + 1) (omega arith))
  where
    go : (b : Bool) → eqb (hash_at m s i) (hash m k) ≡ b → find_from s k (i + 1) n ≡ from_link s used k (first_link m s (hash m k) (i + 1) n)
        → find_from s k i (suc n) ≡ from_link s used k (cond b (suc i) (first_link m s (hash m k) (i + 1) n))
    go true x ih = let l : used - i ≡ suc n = omega arith in rw l
    go false x ih = find-pass s k i n (other-hash m s i k (eqb-false _ _ x)) ∙ ih

-- a link of the hash h to a slot from i on, or none
pub record FirstFrom (m : ℕ) (s : List ℕ) (used h i link : ℕ) : Type 0 where
  pub within : link ≤ used
  pub from : (j : ℕ) → link ≡ suc j → i ≤ j
  pub same : (j : ℕ) → link ≡ suc j → hash_at m s j ≡ h

pub first-from : (m : ℕ) (s : List ℕ) (used h n i : ℕ) → i + n ≡ used → FirstFrom m s used h i (first_link m s h i n)
unfolding first_link
first-from m s used h zero i e = record { within = omega arith; from = λ j x. absurd (omega arith); same = λ j x. absurd (omega arith) }
first-from m s used h (suc n) i e = go (eqb (hash_at m s i) h) refl (first-from m s used h n (i + 1) (omega arith))
  where
    go : (b : Bool) → eqb (hash_at m s i) h ≡ b → FirstFrom m s used h (i + 1) (first_link m s h (i + 1) n) → FirstFrom m s used h i (cond b (suc i) (first_link m s h (i + 1) n))
    go true x ih =
        record {
          within = omega arith;
          from = λ j y. omega arith;
          same = λ j y. let z : i ≡ j = omega arith in subst (λ (a : ℕ). hash_at m s a ≡ h) z (eqb-true _ _ x);
        }
    go false x ih = record { within = ih.within; from = λ j y. omega (arith, ih.from j y); same = ih.same }

-- one link of the walk
module _ (m : ℕ) (s : List ℕ) (used : ℕ) (k : EntryKey) (link : ℕ) (some : 0 < link) (within : link ≤ used) where
  turn-hit : same_key (key_at s (link - 1)) k ≡ true → from_link s used k link ≡ Some (link - 1)
  unfolding from_link
  turn-hit e =
      let a : link ≡ suc (link - 1) = omega arith in
      let b : used - (link - 1) ≡ suc (used - link) = omega arith in
      ap (from_link s used k) a ∙ ap (find_from s k (link - 1)) b ∙ find-here s k (link - 1) (used - link) e

  turn_on : same_key (key_at s (link - 1)) k ≡ false
      → from_link s used k link ≡ from_link s used k (first_link m s (hash m k) (link - 1 + 1) (used - (link - 1 + 1)))
  unfolding from_link
  turn_on e =
      let a : link ≡ suc (link - 1) = omega arith in
      let b : used - (link - 1) ≡ suc (used - (link - 1 + 1)) = omega arith in
      ap (from_link s used k) a ∙ ap (find_from s k (link - 1)) b ∙ find-pass s k (link - 1) (used - (link - 1 + 1)) e
      ∙ jump m s used k (used - (link - 1 + 1)) (link - 1 + 1) (omega arith)

  turn-less : (h next : ℕ) → FirstFrom m s used h (link - 1 + 1) next → left used next < left used link
  unfolding left
  turn-less h next l = go next l link some within refl
    where
      go : (x : ℕ) → FirstFrom m s used h (link - 1 + 1) x → (y : ℕ) → 0 < y → y ≤ used → y ≡ link → left used x < left used y
      go x l zero a b c = absurd (omega arith)
      go zero l (suc j) a b c = omega arith
      go (suc i) l (suc j) a b c = omega (arith, l.from i refl, l.within)

-- what the walk keeps: it stands at the link that follows the last one, and the key's slot is found from there on
pub record Walking (m : ℕ) (t : Table) (k : EntryKey) (link last : ℕ) : Type 0 where
  pub within : link ≤ t.used
  pub same : (i : ℕ) → link ≡ suc i → hash_at m t.words i ≡ hash m k
  pub rest : find t k ≡ from_link t.words t.used k link
  pub last-links : LinkOf m t (hash m k) last
  pub follows : link ≡ following m t (hash m k) last

module _ {m : ℕ} {t : Table} {heads nexts : List ℕ} (x : Links m t heads nexts) (k : EntryKey) where
  pub walking-below : {h : ℕ} → h ≡ hash m k → h < m
  walking-below e = rw e (hash-below m k x.some)

  pub walking_start : {h : ℕ} → h ≡ hash m k → Walking m t k (get_or heads h 0) 0
  unfolding LinkOf following
  walking_start {h} e =
      let f : get_or heads h 0 ≡ head_of m t (hash m k) = x.head h (walking-below e) ∙ ap (head_of m t) e in
      let l = first-from m t.words t.used (hash m k) t.used 0 (omega arith) in
      rw f
      record {
        within = l.within;
        same = l.same;
        rest = jump m t.words t.used k t.used 0 (omega arith);
        last-links = tt;
        follows = refl;
      }

  module _ {link last : ℕ} (room : t.used ≤ length nexts) (some : 0 < link) (w : Walking m t k link last) where
    here : hash_at m t.words (link - 1) ≡ hash m k
    here = w.same (link - 1) (omega arith)

    next : get_or nexts (link - 1) 0 ≡ first_link m t.words (hash m k) (link - 1 + 1) (t.used - (link - 1 + 1))
    next = x.next (link - 1) (omega (arith, w.within)) ∙ ap (λ (h : ℕ). first_link m t.words h (link - 1 + 1) (t.used - (link - 1 + 1))) here

    step : FirstFrom m t.words t.used (hash m k) (link - 1 + 1) (get_or nexts (link - 1) 0)
    step = rw next (first-from m t.words t.used (hash m k) (t.used - (link - 1 + 1)) (link - 1 + 1) (omega (arith, w.within)))

    pub walking-less : left t.used (get_or nexts (link - 1) 0) < left t.used link
    walking-less = turn-less m t.words t.used k link some w.within (hash m k) (get_or nexts (link - 1) 0) step

    pub walking-next : {q : EntryKey} {b : Bool} → q ≡ key_at t.words (link - 1) → b ≡ same_key q k → b ≡ false → Walking m t k (get_or nexts (link - 1) 0) link
    unfolding LinkOf following
    walking-next e c y =
        let a : link ≡ suc (link - 1) = omega arith in
        record {
          within = step.within;
          same = step.same;
          rest =
              w.rest ∙ turn_on m t.words t.used k link some w.within (ap (λ (q : EntryKey). same_key q k) (sym e) ∙ sym c ∙ y)
              ∙ ap (from_link t.words t.used k) (sym next);
          last-links = subst (LinkOf m t (hash m k)) (sym a) (omega (arith, w.within), here);
          follows = next ∙ sym (ap (following m t (hash m k)) a);
        }

    pub walking-hit : {q : EntryKey} {b : Bool} → q ≡ key_at t.words (link - 1) → b ≡ same_key q k → b ≡ true → Probed m t k (Hit (link - 1))
    unfolding Probed
    walking-hit e c y = w.rest ∙ turn-hit m t.words t.used k link some w.within (ap (λ (q : EntryKey). same_key q k) (sym e) ∙ sym c ∙ y)

pub walking-last : {m : ℕ} {t : Table} {k : EntryKey} {link last : ℕ} → Walking m t k link last → link ≤ 0 → Probed m t k (Last last)
unfolding Probed from_link
walking-last {m} {t} {k} {link} {last} w h =
    let z : link ≡ 0 = omega arith in
    (w.rest ∙ ap (from_link t.words t.used k) z, λ _. record { is = w.last-links; none = sym w.follows ∙ z })

-- what a walk said
module _ (m : ℕ) (t : Table) (k : EntryKey) {p : Probe} (x : Probed m t k p) where
  pub probed-hit : {i : ℕ} → p ≡ Hit i → Some i ≡ find t k
  unfolding Probed
  probed-hit e = sym (subst (Probed m t k) e x)

  pub probed_none : {l : ℕ} → p ≡ Last l → None ≡ find t k
  unfolding Probed
  probed_none e = sym (subst (Probed m t k) e x).0

  pub probed-last : {l : ℕ} → p ≡ Last l → 0 < m → LastOf m t (hash m k) l
  unfolding Probed
  probed-last e some = (subst (Probed m t k) e x).1 some

-- the slot that an entry under the key goes to
pub probed-slot : (m : ℕ) (t : Table) (k : EntryKey) (p : Probe) → Probed m t k p → slot_by t.used p ≡ slot_for t k
unfolding Probed
probed-slot m t k (Hit i) x = ap (slot_or t.used) (sym x)
probed-slot m t k (Last l) x = ap (slot_or t.used) (sym x.0)

-- and a lookup with no heads
pub found-hit : (m : ℕ) (t : Table) (k : EntryKey) {f : Option ℕ} {i : ℕ} → f ≡ find t k → f ≡ Some i → Probed m t k (Hit i)
unfolding Probed
found-hit m t k e g = sym e ∙ g

pub found_none : (m : ℕ) (t : Table) (k : EntryKey) {f : Option ℕ} → m ≤ 0 → f ≡ find t k → f ≡ None → Probed m t k (Last 0)
unfolding Probed
found_none m t k z e g = (sym e ∙ g, λ some. absurd (omega arith))

pub last_within : {m : ℕ} {t : Table} {h : ℕ} (l : ℕ) → LastOf m t h l → l ≤ t.used
unfolding LinkOf
last_within zero d = omega arith
last_within (suc i) d = omega (arith, d.is.0)
