-- Two runs over extracts that differ in carved names alone: no visit reads a byte of a name, save a rejected version 3 candidate 8 bytes
-- before a carved version 2 record, so without such a pair the runs are the same. Assumes nothing.
use Prim.Native.Nat.{ℕ, zero, suc, ◌+◌, ◌-◌, ◌≤◌, ◌<◌}
use mathlib.Core.Path.{◌≡◌, refl, sym, ap}
use mathlib.Core.Logic.{⊎_elim}
use mathlib.Core.List.Memᴰ
use mathlib.Core.List.{List, [], ◌∷◌, ◌++◌}
use native.Mathlib.Omega.{arith}
use lib.ListN.{length}
use Rattle.base.specs.Lists.{All}
use Rattle.base.specs.Agree.{Agree}
use Rattle.base.specs.Masked.{Apart, Masked, places_of}
use Rattle.base.specs.Outcome.{Outcome, refused, answered, listed_by}
use Rattle.base.specs.Places.{round8}
use Rattle.base.specs.Walk.{Visit, go, going_on, walk, from}
use Rattle.base.specs.declared.Place.{Place}
use Rattle.base.proofs.MaskedLaws.{masked-none, Same, Before, apart-append, walk-two-runs}
use Rattle.base.proofs.WalkLaws.{Forward, Finds}
use Rattle.usn_record.specs.Names.{fixed_of, name_at}
use Rattle.usn_record.specs.Record.{listed}
use Rattle.usn_record.proofs.NameLaws.{fixed-low, fixed-high, fixed-v2, listed-agrees, name-after-fixed, name-before-end}
use Rattle.usn_carver.specs.Settings.{Settings}
use Rattle.usn_carver.specs.Events.{Reason, Event, rejected, carved, records}
use Rattle.usn_carver.specs.Carve.{carver_visit, events, carving, carving_list, carved_places}
use Rattle.usn_carver.specs.Masking.{name_of, NoOverlap, IfAnswered, carved_records, carved_names}
use Rattle.usn_carver.specs.declared.CarvingStats.{CarvingStats}
use Rattle.usn_carver.proofs.VisitLaws.{Candidate, CandidateShape, stops, passes, rejects, carves, visit-shape}
use Rattle.usn_carver.proofs.RunLaws.{visit-forward}
use Rattle.usn_carver.proofs.CallLaws.{outcome-agrees}
use Rattle.usn_carver.proofs.ReadLaws.{reach, visit-reads}

-- the record that a carved event is about is the same in both runs
abbrev pub SameRecord : List ℕ → List ℕ → Event → Type 0
SameRecord s t (rejected why o v) = Unit {0}
SameRecord s t (carved o v n) = listed t o ≡ listed s o

no-overlap-rest : (es fs : List Event) → NoOverlap (es ++ fs) → NoOverlap fs
no-overlap-rest es fs h why o n x y = h why o n (Memᴰ.append_right es x) (Memᴰ.append_right es y)

module _ (st : Settings) (s : List ℕ) where
  -- i lies in none of these names
  abbrev Off : List Event → ℕ → Type 0
  Off es i = Apart (places_of (name_of s) es) i

  own_name : {o v n i : ℕ} → Candidate st s o v n → i < o + fixed_of v → Apart (name_at s o) i
  own_name {o} {i = i} k h = name-after-fixed s o i (rw k.version at h)

  -- the names of what is found from o on begin 60 bytes after it
  after-low : {o : ℕ} {x : Visit Event} → CandidateShape st s o x → (f : ℕ → List Event) (i : ℕ) → i < o + 60 → ((p : ℕ) → i < p + 60 → Off (f p) i) → Off (going_on x f) i
  after-low (stops h) f i b ih = tt
  after-low {o} (passes h) f i b ih = ih (o + 8) (omega arith)
  after-low {o} (rejects why v n h k) f i b ih = ih (o + 8) (omega arith)
  after-low {o} (carves v n h k) f i b ih =
      apart-append (name_at s o) (places_of (name_of s) (f (o + round8 n))) i (own_name k (omega (arith, fixed-low v))) (ih (o + round8 n) (omega arith))

  walk-low : (k o i : ℕ) → i < o + 60 → Off (walk (carver_visit st s) k o) i
  unfolding walk
  walk-low zero o i b = tt
  walk-low (suc k) o i b = after-low (visit-shape st s o) (walk (carver_visit st s) k) i b (λ p. walk-low k p i)

  -- after a rejected version 3 candidate at o, which has read up to o + 76
  after_next : {o : ℕ} {x : Visit Event} → CandidateShape st s (o + 8) x → (f : ℕ → List Event) (i : ℕ) (why : Reason) → NoOverlap (rejected why o 3 ∷ going_on x f)
      → i < o + 76 → ((p : ℕ) → i < p + 60 → Off (f p) i) → Off (going_on x f) i
  after_next (stops h) f i why g b ih = tt
  after_next {o} (passes h) f i why g b ih = ih (o + 8 + 8) (omega arith)
  after_next {o} (rejects w v n h k) f i why g b ih = ih (o + 8 + 8) (omega arith)
  after_next {o} (carves v n h k) f i why g b ih =
      apart-append (name_at s (o + 8)) (places_of (name_of s) (f (o + 8 + round8 n))) i
      (⊎_elim
      (λ e. absurd (g why o n (Memᴰ.head refl) (Memᴰ.tail (Memᴰ.head (ap (λ (m : ℕ). carved (o + 8) m n) (sym e))))))
      (λ e. own_name k (rw e (omega arith)))
      k.known)
      (ih (o + 8 + round8 n) (omega (arith, k.whole, fixed-low v)))

  walk-next : (k o i : ℕ) (why : Reason) → NoOverlap (rejected why o 3 ∷ walk (carver_visit st s) k (o + 8)) → i < o + 76 → Off (walk (carver_visit st s) k (o + 8)) i
  unfolding walk
  walk-next zero o i why g b = tt
  walk-next (suc k) o i why g b = after_next (visit-shape st s (o + 8)) (walk (carver_visit st s) k) i why g b (λ p. walk-low k p i)

  -- so a visit reads no byte of what is found from its offset on
  after-clear : {o : ℕ} {x : Visit Event} → CandidateShape st s o x → (f : ℕ → List Event) (i : ℕ) → NoOverlap (going_on x f) → i < o + reach x
      → ((p : ℕ) → i < p + 60 → Off (f p) i)
      → ((why : Reason) → NoOverlap (rejected why o 3 ∷ f (o + 8)) → i < o + 76 → Off (f (o + 8)) i)
      → Off (going_on x f) i
  after-clear (stops h) f i g b low next = tt
  after-clear {o} (passes h) f i g b low next = low (o + 8) (omega arith)
  after-clear {o} (rejects why v n h k) f i g b low next =
      ⊎_elim
      (λ e. low (o + 8) (omega (arith, fixed-v2 v e)))
      (λ e. next why (rw e at g) (omega (arith, fixed-high v)))
      k.known
  after-clear {o} (carves v n h k) f i g b low next =
      apart-append (name_at s o) (places_of (name_of s) (f (o + round8 n))) i (own_name k b)
      (low (o + round8 n) (omega (arith, k.whole, fixed-low v, fixed-high v)))

  walk-clear : (k o i : ℕ) → NoOverlap (walk (carver_visit st s) (suc k) o) → i < o + reach (carver_visit st s o) → Off (walk (carver_visit st s) (suc k) o) i
  unfolding walk
  walk-clear k o i g b =
      after-clear (visit-shape st s o) (walk (carver_visit st s) k) i g b (λ p. walk-low k p i) (λ why. walk-next k o i why)

  -- what the engine asks of one visit
  forward : (o p : ℕ) (es : List Event) → carver_visit st s o ≡ go es p → o ≤ p
  forward o p es e = let f : Forward (length s) o (go es p) = rw e at (visit-forward st s o) in omega arith

  shape-before : {o : ℕ} {x : Visit Event} → CandidateShape st s o x → Before (name_of s) x
  shape-before (stops h) = tt
  shape-before (passes h) = λ i b. tt
  shape-before (rejects why v n h k) = λ i b. tt
  shape-before {o} (carves v n h k) = λ i b. apart-append (name_at s o) [] i (name-before-end s o i (omega (arith, k.size))) tt

  shape_same : {t : List ℕ} {o : ℕ} {x : Visit Event} → CandidateShape st s o x → Agree s t o (o + reach x) → Finds (SameRecord s t) x
  shape_same (stops h) a = tt
  shape_same (passes h) a = tt
  shape_same (rejects why v n h k) a = (tt, tt)
  shape_same {o = o} (carves v n h k) a = (listed-agrees o (rw k.version at a), tt)

  module _ (t : List ℕ) (long : length t ≡ length s) where
    reads : (k o : ℕ) → NoOverlap (walk (carver_visit st s) (suc k) o) → Same s t (places_of (name_of s) (walk (carver_visit st s) (suc k) o)) o
        → (carver_visit st t o ≡ carver_visit st s o) × Finds (SameRecord s t) (carver_visit st s o)
    reads k o g m =
        let a : Agree s t o (o + reach (carver_visit st s o)) = record { long = long; at = λ i h b. m i h (walk-clear k o i g b) } in
        (visit-reads st s t o a, shape_same (visit-shape st s o) a)

-- The events of two runs whose extracts differ in the names of the first run's carved records alone, without the exception, are the same,
-- and so are the records that are carved.
pub carve-two-runs : (st : Settings) (s t : List ℕ) → NoOverlap (events st s) → Masked s t (places_of (name_of s) (events st s))
    → (events st t ≡ events st s) × All (SameRecord s t) (events st s)
unfolding from
carve-two-runs st s t g m =
    rw m.long
    (walk-two-runs s t (name_of s) (carver_visit st s) (carver_visit st t) (SameRecord s t) NoOverlap no-overlap-rest
    (forward st s) (λ o. shape-before st s (visit-shape st s o)) (reads st s t m.long)
    (length s - 0) 0 g (λ i _ a. m.same i a))

-- the names of the carved events are those of the records in the list
pub names_of : (s : List ℕ) (es : List Event) → places_of (name_of s) es ≡ places_of (λ p. name_at s p.offset) (records es)
names_of s [] = refl
names_of s (rejected why o v ∷ es) = names_of s es
names_of s (carved o v n ∷ es) = ap (λ (ps : List Place). name_at s o ++ ps) (names_of s es)

same_of : (s t : List ℕ) (es : List Event) → All (SameRecord s t) es → All (λ p. listed t p.offset ≡ listed s p.offset) (records es)
same_of s t [] h = tt
same_of s t (rejected why o v ∷ es) h = same_of s t es h.1
same_of s t (carved o v n ∷ es) h = (h.0, same_of s t es h.1)

-- a call over t, with the same list, comes out as that over s
pub record SameCarving (st : Settings) (s t l : List ℕ) : Type 0 where
  pub outcome : carving st t (length l) ≡ carving st s (length l)
  pub list : carving_list st t l ≡ carving_list st s l
  pub places : carved_records st t (length l) ≡ carved_records st s (length l)
  pub parsed : All (λ p. listed t p.offset ≡ listed s p.offset) (carved_records st s (length l))

module _ (st : Settings) (s t l : List ℕ) where
  same-carving : (x : Outcome CarvingStats) → carving st s (length l) ≡ x → IfAnswered x (NoOverlap (events st s))
      → Masked s t (places_of (λ p. name_at s p.offset) (listed_by (λ _. carved_places st s) x)) → SameCarving st s t l
  same-carving (refused n) e g m =
      rw (masked-none s t m) (record { outcome = refl; list = refl; places = refl; parsed = rw e tt })
  same-carving (answered a) e g m =
      let two = carve-two-runs st s t g (rw (names_of s (events st s)) m) in
      let o : carving st t (length l) ≡ carving st s (length l) = outcome-agrees st s t (length l) m.long two.0 in
      record {
        outcome = o;
        list = rw (o, two.0);
        places = rw (o, two.0);
        parsed = rw e (same_of s t (events st s) two.1);
      }

-- Two calls whose extracts differ in the names of the records that the first one lists alone: a refused call lists none, and the exception
-- is asked of an answered one only.
pub call-two-runs : (st : Settings) (s t l : List ℕ) → IfAnswered (carving st s (length l)) (NoOverlap (events st s))
    → Masked s t (carved_names st s (length l)) → SameCarving st s t l
call-two-runs st s t l g m = same-carving st s t l (carving st s (length l)) refl g m
