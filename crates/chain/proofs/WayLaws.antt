-- The slots of a way and the places of their names: a slot more, and the chain that they are of. Assumes nothing.
use Prim.Native.Nat.{ℕ, zero, suc, ◌+◌, ◌-◌, ◌*◌, ◌/◌, ◌≤◌, ◌<◌}
use mathlib.Core.Path.{◌≡◌, refl, ap, sym, ◌∙◌}
use mathlib.Core.List.{List, [], ◌∷◌, ◌++◌, append_assoc, append-nil}
use native.Mathlib.Nat.{add-zero, zero-add}
use native.Mathlib.Numerals.{add-one}
use native.Mathlib.Omega.{arith}
use lib.Dec.{eqb}
use borrow.Author.Tests.{lt-ltb, le-ltb, eq-eqb, ne_eqb, eqb-true, eqb-false}
use mathlib.Core.Bool.{Bool, true, false, cond}
use lib.ListN.{length, length-append, length-set, get_or, set}
use lib.Seq.{get_or-set_same, get_or-set_other}
use Rattle.entry_slots.specs.Slots.{stride, slot_name, info_at}
use Rattle.entry_slots.specs.Index.{Indexed}
use Rattle.entry_slots.specs.Table.{Table, table, find}
use Rattle.entry_slots.proofs.IndexLaws.{none-indexed}
use Rattle.entry_slots.specs.declared.EntryKey.{EntryKey}
use Rattle.entry_slots.specs.declared.EntryInfo.{EntryInfo}
use Rattle.entry_slots.specs.declared.NamePlace.{NamePlace}
use Rattle.chain.specs.declared.ChainEnd.{ChainEnd}
use Rattle.chain.specs.declared.way.Climbed.{Climbed}
use Rattle.chain.specs.declared.steps.Way.TheVariants.{End, Slot}
use Rattle.chain.specs.declared.ChainEnd.TheVariants.{Root, Unknown, Unresolved}
use Rattle.std.specs.Prelude.{Option, Some, None}
use Rattle.chain.specs.Settings.{depth, levels}
use Rattle.chain.specs.Chain.{Chain, chain, chain_of, resolved, is_root, way_found, way_of}
use Rattle.chain.specs.Way.{way_places, step_bound, names_bound, top_key, end_under, end_by, resolved_by, Slots, Below}
use Rattle.chain.specs.Promise.{Rises, RiseAsks, Climbs}
use Rattle.chain.proofs.ChainLaws.{chain-end, chain-up}

-- the last slot's name comes first
pub places-more : (words way : List ℕ) (n : ℕ) → way_places words way (n + 1) ≡ slot_name words (get_or way n 0) ∷ way_places words way n
unfolding way_places
places-more words way n = rw (add-one n)

pub places-less : (words way : List ℕ) (n : ℕ) → 0 < n → way_places words way n ≡ slot_name words (get_or way (n - 1) 0) ∷ way_places words way (n - 1)
places-less words way n h = let e : n - 1 + 1 ≡ n = omega arith in ap (way_places words way) (sym e) ∙ places-more words way (n - 1)

pub places-none : (words way : List ℕ) → way_places words way 0 ≡ []
unfolding way_places
places-none words way = refl

pub places_count : (words way : List ℕ) (n : ℕ) → length (way_places words way n) ≡ n
unfolding way_places
places_count words way zero = refl
places_count words way (suc n) = ap suc (places_count words way n)

-- a slot behind the first n does not change their names
places-set : (words way : List ℕ) (n i v : ℕ) → n ≤ i → way_places words (set way i v) n ≡ way_places words way n
unfolding way_places
places-set words way zero i v h = refl
places-set words way (suc n) i v h = rw (get_or-set_other way i n v 0 (λ e. omega arith), places-set words way n i v (omega arith))

-- used slots are slots of the words
pub below-slots : {used n : ℕ} {words way : List ℕ} → used * stride ≤ length words → Below used way n → Slots words way n
below-slots fits b = record { short = b.near; within = λ i h. omega (arith, b.each i h) }

-- one name more at the end
bound-more : (ps : List NamePlace) (p : NamePlace) → names_bound (ps ++ (p ∷ [])) ≡ names_bound ps + step_bound p
unfolding names_bound
bound-more [] p = omega arith
bound-more (q ∷ ps) p = omega (arith, bound-more ps p)

bound-none : names_bound [] ≡ 0
unfolding names_bound
bound-none = refl

-- the most that a name counts for, by its length
pub bound-short : (p : NamePlace) → p.length / 2 < 4294967296 → step_bound p ≡ 1 + 3 * (p.length / 2)
unfolding step_bound
bound-short p h = simp (lt-ltb (p.length / 2) 4294967296 h)

pub bound-long : (p : NamePlace) → 4294967296 ≤ p.length / 2 → step_bound p ≡ 1099511627776
unfolding step_bound
bound-long p h = simp (le-ltb (p.length / 2) 4294967296 h)

-- what a way with slots hangs under does not depend on the key that was asked for
end-other : (words way : List ℕ) (n : ℕ) (k j : EntryKey) → 0 < n → end_by words way n k ≡ end_by words way n j
unfolding end_by
end-other words way n k j h = rw (ne_eqb n 0 (λ z. omega arith))

-- a slot behind the first n does not change what they hang under
end-set : (words way : List ℕ) (n i v : ℕ) (k : EntryKey) → n ≤ i → end_by words (set way i v) n k ≡ end_by words way n k
unfolding end_by
end-set words way zero i v k h = refl
end-set words way (suc n) i v k h =
    let e : suc n - 1 ≡ n = omega arith in
    rw (e, get_or-set_other way i n v 0 (λ z. omega arith))

-- it is what the step from the key comes to
end-here : (t : Table) (way : List ℕ) (n : ℕ) (k : EntryKey) {e : ChainEnd} → n ≤ levels → (0 < levels - n → (info_at t.words (get_or way (levels - n - 1) 0)).parent ≡ k) → End e ≡ way_of t n k
    → end_by t.words way (levels - n) k ≡ e
unfolding end_by way_of
end-here t way n k {e} near reached h = rw top (go (eqb n 0) refl (is_root k) refl (find t k) h)
  where
    top : top_key t.words way (levels - n) k ≡ k
    top = go' (eqb (levels - n) 0) refl
      where
        go' : (b : Bool) → eqb (levels - n) 0 ≡ b → cond b k (info_at t.words (get_or way (levels - n - 1) 0)).parent ≡ k
        go' true q = refl
        go' false q = reached (omega (arith, eqb-false (levels - n) 0 q))

    go : (b : Bool) → eqb n 0 ≡ b → (c : Bool) → is_root k ≡ c → (f : Option ℕ) → End e ≡ cond b (End (Unresolved k)) (cond c (End Root) (way_found k f))
        → cond (eqb (levels - n) levels) (Unresolved k) (cond (is_root k) Root (Unknown k)) ≡ e
    go true q c x f g = rw (eq-eqb (levels - n) levels (omega (arith, eqb-true n 0 q))) (cc)
    go false q true x f g = rw (ne_eqb (levels - n) levels (λ z. eqb-false n 0 q (omega arith)), x) (cc)
    go false q false x None g = rw (ne_eqb (levels - n) levels (λ z. eqb-false n 0 q (omega arith)), x) (cc)
    go false q false x (Some i) g = let z : ◌≡◌ {A = ℕ} 0 1 = cc in absurd (omega arith)

-- the way ends at once, or goes on from a slot
module _ (t : Table) (n : ℕ) (k : EntryKey) (way : List ℕ) (bound : ℕ) (asks : RiseAsks t.words way n k bound) where
  abbrev last : ℕ
  last = length way - 1

  abbrev gone : ℕ
  gone = levels - n

  pub rise-end : {e : ChainEnd} → End e ≡ way_of t n k → Rises t n k way bound gone (set way last bound)
  rise-end {e} h =
      let is = chain-end t n k h in
      record {
        count = rw is (sym (add-zero gone));
        ends = rw is (end-set t.words way gone last bound k (omega (arith, asks.room, asks.near)) ∙ end-here t way n k asks.near asks.reached h);
        bounds = rw is (get_or-set_same way last bound 0 (omega (arith, asks.room, asks.near)) ∙ none);
        places = rw is (places-set t.words way gone last bound (omega (arith, asks.room, asks.near)));
        below = λ b. record { near = omega (arith, asks.room, length-set way last bound); each = λ j p. rw (get_or-set_other way last j bound 0 (λ z. omega (arith, asks.room, asks.near))) (b.each j p) };
      }
    where
      none : bound ≡ bound + names_bound []
      none = omega (arith, bound-none)

  module _ {i : ℕ} (h : Slot i ≡ way_of t n k) {info : EntryInfo} (e : info ≡ info_at t.words i) {step : ℕ} (long : step ≡ step_bound info.name) where
    abbrev upper : Chain
    upper = chain t (n - 1) info.parent

    abbrev whole : Chain
    whole = chain t n k

    one_more : levels - (n - 1) ≡ gone + 1
    one_more = omega (arith, asks.near, (chain-up t n k h).level)

    here : get_or (set way gone i) gone 0 ≡ i
    here = get_or-set_same way gone i 0 (omega (arith, asks.room, asks.near))

    pub rise-asks : step ≤ 1099511627776 → RiseAsks t.words (set way gone i) (n - 1) info.parent (bound + step)
    rise-asks small =
        let level = (chain-up t n k h).level in
        let at : levels - (n - 1) - 1 ≡ gone = omega (arith, asks.near, level) in
        record {
          near = omega (arith, asks.near);
          room = omega (arith, asks.room, length-set way gone i);
          sum = omega (arith, level, asks.sum);
          reached = λ _. rw (at, here, e);
        }

    module _ {r : ℕ} {way' : List ℕ} (g : Rises t (n - 1) info.parent (set way gone i) (bound + step) r way') where
      whole-places : whole.places ≡ upper.places ++ (slot_name t.words i ∷ [])
      whole-places = rw ((chain-up t n k h).rest, e) refl

      whole-end : whole.end ≡ upper.end
      whole-end = rw ((chain-up t n k h).rest, e) refl

      names-long : length whole.places ≡ length upper.places + 1
      names-long = ap length whole-places ∙ length-append upper.places (slot_name t.words i ∷ [])

      all-bound : bound + step + names_bound upper.places ≡ bound + names_bound whole.places
      all-bound =
          let same : step_bound info.name ≡ step_bound (slot_name t.words i) = ap (λ (x : EntryInfo). step_bound x.name) e in
          omega (arith, long, same, ap names_bound whole-places, bound-more upper.places (slot_name t.words i))

      behind : way_places t.words (set way gone i) (levels - (n - 1)) ≡ slot_name t.words i ∷ way_places t.words way gone
      behind =
          ap (way_places t.words (set way gone i)) one_more
          ∙ places-more t.words (set way gone i) gone
          ∙ rw (here, places-set t.words way gone gone i (omega (arith, asks.room, asks.near)))

      first : Below t.used way gone → Below t.used (set way gone i) (levels - (n - 1))
      first b =
          record {
            near = omega (arith, one_more, asks.room, length-set way gone i);
            each = λ j p. go j (omega (arith, one_more)) (eqb j gone) refl;
          }
        where
          go : (j : ℕ) → j < gone + 1 → (b : Bool) → eqb j gone ≡ b → get_or (set way gone i) j 0 < t.used
          go j p true q = rw (eqb-true j gone q, here) (chain-up t n k h).slot
          go j p false q = rw (get_or-set_other way gone j i 0 (eqb-false j gone q)) (b.each j (omega (arith, eqb-false j gone q)))

      pub rise-up : Rises t n k way bound r way'
      rise-up =
          record {
            count = omega (arith, g.count, one_more, names-long);
            ends = end-other t.words way' r k info.parent (omega (arith, g.count, one_more)) ∙ g.ends ∙ sym whole-end;
            bounds = ap (λ (l : ℕ). get_or way' (l - 1) 0) (sym (length-set way gone i)) ∙ g.bounds ∙ all-bound;
            places =
                g.places
                ∙ ap (λ (ps : List NamePlace). upper.places ++ ps) behind
                ∙ sym (append_assoc upper.places (slot_name t.words i ∷ []) (way_places t.words way gone))
                ∙ ap (λ (ps : List NamePlace). ps ++ way_places t.words way gone) (sym whole-places);
            below = λ b. g.below (first b);
          }

-- what a way hangs under, by the key above it
pub end_is : (words way : List ℕ) (n : ℕ) (k : EntryKey) {j : EntryKey} {e : ChainEnd} → e ≡ end_under n j → j ≡ top_key words way n k → e ≡ end_by words way n k
unfolding end_by
end_is words way n k x y = x ∙ ap (end_under n) y

-- the whole way of a key
pub risen-below : (t : Table) (k : EntryKey) (way : List ℕ) {r : ℕ} {way' : List ℕ} → Rises t levels k way 0 r way' → Below t.used way' r
risen-below t k way g = g.below (record { near = omega arith; each = λ i h. absurd (omega arith) })

pub risen : (t : Table) (k : EntryKey) (way : List ℕ) {r : ℕ} {way' : List ℕ} → Rises t levels k way 0 r way' → length way' ≡ length way
    → {end : ChainEnd} → end ≡ end_by t.words way' r k → Climbs t k (record { names = r; bound = get_or way' (length way' - 1) 0; end = end }) way'
risen t k way {r} {way'} g same {end} e =
    record {
      chain-is = λ i. record { places = places-are i; end = (e ∙ g.ends) i };
      bounds = rw same g.bounds ∙ zero-add (names_bound (chain t levels k).places) ∙ ap names_bound (sym places-are);
      below = risen-below t k way g;
    }
  where
    places-are : way_places t.words way' r ≡ (chain t levels k).places
    places-are = g.places ∙ rw (places-none t.words way) (append-nil (chain t levels k).places)

module _ (t : Table) (k : EntryKey) {r : Climbed} {way' : List ℕ} (g : Climbs t k r way') where
  pub climbed-places : way_places t.words way' r.names ≡ (chain_of t depth k).places
  climbed-places = ap (λ (c : Chain). c.places) g.chain-is

  pub climbed-names : r.names ≡ length (chain_of t depth k).places
  climbed-names = sym (places_count t.words way' r.names) ∙ ap length climbed-places

  pub climbed-resolved : resolved_by r ≡ resolved (chain_of t depth k)
  climbed-resolved = λ i. record { names = climbed-names i; end = ap (λ (c : Chain). c.end) g.chain-is i }

  pub climbed-slots : t.used * stride ≤ length t.words → Slots t.words way' r.names
  climbed-slots fits = below-slots fits g.below

-- what the way up asks, with no index, and whatever else
pub none-climbs : (s : List ℕ) (used : ℕ) {Room : Type 0} → used * stride ≤ length s → Room
    → record {
      stride_in_bounds : (used * stride ≤ length s) × (0 < length {A = ℕ} [] → used ≤ length {A = ℕ} []);
      indexed : Indexed (table s used) [] [];
      levels_of_in_bounds : Room;
    }
none-climbs s used fits more =
    let none = none-indexed s [] [] used fits (omega arith) in
    record { stride_in_bounds = none.0; indexed = none.1; levels_of_in_bounds = more }
