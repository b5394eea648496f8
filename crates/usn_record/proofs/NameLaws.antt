-- Two journals that agree on a record's fixed part have the same record there, and its name lies past that part and inside the record.
-- Assumes nothing.
use Prim.Native.Nat.{ℕ, ◌+◌, ◌≤◌, ◌<◌}
use mathlib.Core.Path.{◌≡◌, refl, sym, ap, ◌∙◌}
use mathlib.Core.List.{List}
use mathlib.Core.Bool.{false}
use native.Mathlib.Omega.{arith}
use lib.ListN.{length, length-take}
use lib.Dec.{ltb, eqb}
use borrow.Author.Tests.{ltb-false, eqb-true}
use Rattle.base.specs.Outcome.{Outcome, refused, answered}
use Rattle.base.specs.Places.{part, place_from}
use Rattle.base.specs.Agree.{Agree}
use Rattle.base.specs.Masked.{Within, Apart}
use Rattle.base.specs.declared.Place.{Place}
use Rattle.base.proofs.ChoiceLaws.{cond_cases, cond-two}
use Rattle.base.proofs.AgreeLaws.{agree-in}
use Rattle.usn_record.specs.Bytes.{le_at}
use Rattle.usn_record.specs.Layout.{Layout, v2, v3}
use Rattle.usn_record.specs.Record.{parsed, record_of, name_end, as_listed, listed}
use Rattle.usn_record.specs.Names.{fixed_of, name_past, name_at}
use Rattle.usn_record.specs.declared.UsnRecord.{UsnRecord}
use Rattle.usn_record.proofs.ByteLaws.{read-agree}
use Rattle.usn_record.proofs.RecordLaws.{v2-inside, v3-inside, part-agrees, accepts, name-lies, major-of}

pub fixed-low : (v : ℕ) → 60 ≤ fixed_of v
fixed-low v = cond_cases (λ (n : ℕ). 60 ≤ n) (eqb v 2) (λ _. omega arith) (λ _. omega arith)

pub fixed-high : (v : ℕ) → fixed_of v ≤ 76
fixed-high v = cond_cases (λ (n : ℕ). n ≤ 76) (eqb v 2) (λ _. omega arith) (λ _. omega arith)

pub fixed-v2 : (v : ℕ) → v ≡ 2 → fixed_of v ≡ 60
fixed-v2 v h = rw h

-- the record at o depends on its fixed part alone
pub listed-agrees : {s t : List ℕ} (o : ℕ) → Agree s t o (o + fixed_of (le_at 2 s (o + 4))) → listed t o ≡ listed s o
unfolding listed
listed-agrees {s} {t} o a =
    let version = le_at 2 s (o + 4) in
    let n = le_at 4 s o in
    let low : 60 ≤ fixed_of version = fixed-low version in
    let x : le_at 4 t o ≡ n = read-agree 4 o a (omega arith) (omega arith) in
    let y : le_at 2 t (o + 4) ≡ version = read-agree 2 (o + 4) a (omega arith) (omega arith) in
    let R : Outcome UsnRecord → Outcome UsnRecord → Type 0 = λ p q. p ≡ q in
    rw (a.long, x, y)
    (cond-two R (ltb (length s) (o + 8)) (λ _. refl) λ _.
    cond-two R (ltb (length s) (o + n)) (λ _. refl) λ _.
    cond-two R (eqb version 2) (λ e. ap as_listed (part-agrees v2 v2-inside o n (agree-in o (o + 60) a (omega arith) (omega arith)))) λ e.
    cond-two R (eqb version 3) (λ _. ap as_listed (part-agrees v3 v3-inside o n (agree-in o (o + 76) a (omega arith) (omega (arith, other version e))))) λ _. refl)
  where
    other : (v : ℕ) → eqb v 2 ≡ false → fixed_of v ≡ 76
    other v e = rw e

-- the name of the record of n bytes at o, whose version is v, lies from the fixed part up to the end
abbrev NameBetween : ℕ → ℕ → ℕ → Outcome UsnRecord → Type 0
NameBetween o n v x = (i : ℕ) → (o + fixed_of v ≤ i → i < o + n → ⊥) → Apart (name_past o x) i

within-from : (o n f : ℕ) (p : Place) (i : ℕ) → f ≤ p.offset → p.offset + p.length ≤ n → Within (place_from o p) i → (o + f ≤ i) × (i < o + n)
within-from o n f p i h k =
    cond_cases (λ (q : Place). Within q i → (o + f ≤ i) × (i < o + n)) (eqb p.length 0) (λ _ w. absurd (omega arith)) (λ _ w. omega arith)

module _ (s : List ℕ) (o n : ℕ) (l : Layout) (slice : l.name_in_record ≡ false) where
  name-end : name_end l (part s o n) ≤ n
  name-end = rw slice (simp length-take (omega arith))

  record-lies : (r : UsnRecord) → r ≡ record_of l (part s o n) → (v : ℕ) → v ≡ l.major → NameBetween o n v (answered r)
  record-lies r er v ev i out =
      let e : r.major_version ≡ v = ap (λ (x : UsnRecord). x.major_version) er ∙ major-of l (part s o n) ∙ sym ev in
      let k : r.filename.offset + r.filename.length ≤ n = rw er (omega (arith, (name-lies l (part s o n)).0, name-end)) in
      rw e
      (cond_cases (λ (ps : List Place). Apart ps i) (ltb r.filename.offset (fixed_of v)) (λ _. tt)
      (λ f. (λ w. let x = within-from o n (fixed_of v) r.filename i (ltb-false _ _ f) k w in out x.0 x.1, tt)))

  -- what a parser said of the record
  parsed-lies : (x : Outcome UsnRecord) → parsed l (part s o n) ≡ x → (v : ℕ) → v ≡ l.major → NameBetween o n v (as_listed x)
  parsed-lies (refused m) e v ev = λ i out. tt
  parsed-lies (answered r) e v ev = record-lies r (accepts l (part s o n) r e).1 v ev

listed-lies : (s : List ℕ) (o : ℕ) → NameBetween o (le_at 4 s o) (le_at 2 s (o + 4)) (listed s o)
unfolding listed
listed-lies s o =
    let n = le_at 4 s o in
    let v = le_at 2 s (o + 4) in
    let P : Outcome UsnRecord → Type 0 = NameBetween o n v in
    cond_cases P (ltb (length s) (o + 8)) (λ _ i out. tt) λ _.
    cond_cases P (ltb (length s) (o + n)) (λ _ i out. tt) λ _.
    cond_cases P (eqb v 2) (λ e. parsed-lies s o n v2 refl (parsed v2 (part s o n)) refl v (eqb-true v 2 e)) λ _.
    cond_cases P (eqb v 3) (λ e. parsed-lies s o n v3 refl (parsed v3 (part s o n)) refl v (eqb-true v 3 e)) λ _ i out. tt

-- so i lies apart from the record's name below the fixed part's end, and from the record's end on
pub name-after-fixed : (s : List ℕ) (o i : ℕ) → i < o + fixed_of (le_at 2 s (o + 4)) → Apart (name_at s o) i
unfolding name_at
name-after-fixed s o i h = listed-lies s o i (λ a b. omega arith)

pub name-before-end : (s : List ℕ) (o i : ℕ) → o + le_at 4 s o ≤ i → Apart (name_at s o) i
unfolding name_at
name-before-end s o i h = listed-lies s o i (λ a b. omega arith)

-- a listed record's name lies in the record
abbrev NameInside : ℕ → Outcome UsnRecord → Type 0
NameInside n (refused m) = Unit {0}
NameInside n (answered r) = r.filename.offset + r.filename.length ≤ n

parsed-inside : (s : List ℕ) (o n : ℕ) (l : Layout) → l.name_in_record ≡ false → (x : Outcome UsnRecord) → parsed l (part s o n) ≡ x → NameInside n (as_listed x)
parsed-inside s o n l k (refused m) e = tt
parsed-inside s o n l k (answered r) e = rw (accepts l (part s o n) r e).1 (omega (arith, (name-lies l (part s o n)).0, name-end s o n l k))

listed-inside : (s : List ℕ) (o : ℕ) → NameInside (le_at 4 s o) (listed s o)
unfolding listed
listed-inside s o =
    let n = le_at 4 s o in
    let P : Outcome UsnRecord → Type 0 = NameInside n in
    cond_cases P (ltb (length s) (o + 8)) (λ _. tt) λ _.
    cond_cases P (ltb (length s) (o + n)) (λ _. tt) λ _.
    cond_cases P (eqb (le_at 2 s (o + 4)) 2) (λ _. parsed-inside s o n v2 refl (parsed v2 (part s o n)) refl) λ _.
    cond_cases P (eqb (le_at 2 s (o + 4)) 3) (λ _. parsed-inside s o n v3 refl (parsed v3 (part s o n)) refl) λ _. tt

pub listed-name : (s : List ℕ) (o : ℕ) {r : UsnRecord} → answered r ≡ listed s o → r.filename.offset + r.filename.length ≤ le_at 4 s o
listed-name s o e = rw (sym e) at (listed-inside s o)

-- and the record in the journal
abbrev Whole : List ℕ → ℕ → Outcome UsnRecord → Type 0
Whole s o (refused m) = Unit {0}
Whole s o (answered r) = o + le_at 4 s o ≤ length s

as-whole : (s : List ℕ) (o : ℕ) (x : Outcome UsnRecord) → o + le_at 4 s o ≤ length s → Whole s o (as_listed x)
as-whole s o (refused m) h = tt
as-whole s o (answered r) h = h

listed-ends : (s : List ℕ) (o : ℕ) → Whole s o (listed s o)
unfolding listed
listed-ends s o =
    let n = le_at 4 s o in
    let P : Outcome UsnRecord → Type 0 = Whole s o in
    cond_cases P (ltb (length s) (o + 8)) (λ _. tt) λ _.
    cond_cases P (ltb (length s) (o + n)) (λ _. tt) λ e.
    cond_cases P (eqb (le_at 2 s (o + 4)) 2) (λ _. as-whole s o (parsed v2 (part s o n)) (ltb-false _ _ e)) λ _.
    cond_cases P (eqb (le_at 2 s (o + 4)) 3) (λ _. as-whole s o (parsed v3 (part s o n)) (ltb-false _ _ e)) λ _. tt

pub listed-whole : (s : List ℕ) (o : ℕ) {r : UsnRecord} → answered r ≡ listed s o → o + le_at 4 s o ≤ length s
listed-whole s o e = rw (sym e) at (listed-ends s o)
