-- Where the names of an entry lie: past the first 66 bytes of their attribute, and inside it. Assumes nothing.
use Prim.Native.Nat.{ℕ, zero, suc, ◌+◌, ◌*◌, ◌≤◌, ◌<◌}
use Rattle.std.specs.Prelude.{Option, Some, None}
use mathlib.Core.Path.{◌≡◌, ap, sym, subst, ◌∙◌}
use mathlib.Core.List.{List, [], ◌∷◌}
use mathlib.Core.Bool.{◌&&◌, ◌||◌}
use native.Mathlib.Omega.{arith}
use lib.ListN.{length}
use lib.Dec.{ltb, leb, eqb}
use borrow.Author.Tests.{ltb-true, ltb-false, leb-true}
use Rattle.base.specs.Lists.{All}
use Rattle.base.specs.Walk.{Visit, stop, go, going_on, walk}
use Rattle.base.proofs.ChoiceLaws.{cond_cases, and_left, and_right, or_left, or_right}
use Rattle.base.proofs.WalkLaws.{Forward}
use Rattle.usn_record.specs.Bytes.{le_at}
use Rattle.mft_attributes.specs.Filename.{replaces, Attribute, other, named, keep, keep_all}
use Rattle.mft_attributes.specs.Attributes.{end_marker, fixed, AttributeHeader, attribute_header_at, Content, content_at, is_filename, given, attribute_at, attribute_visit, attributes_in, filename_in}
use Rattle.mft_attributes.specs.Step.{attribute_of, filename_at}
use Rattle.mft_attributes.specs.declared.attributes.AttributeStep.{AttributeStep}
use Rattle.mft_attributes.specs.declared.attributes.AttributeStep.TheVariants.{Named}
use Rattle.mft_attributes.specs.declared.filename.Filename.{Filename}

-- a name that begins at low or after, is not empty, and ends at end or before
pub record FilenameLies (low end : ℕ) (f : Filename) : Type 0 where
  pub begins : low ≤ f.place.offset
  pub some : 0 < f.place.length
  pub ends : f.place.offset + f.place.length ≤ end

abbrev pub NameLies : ℕ → ℕ → Attribute → Type 0
NameLies low end other = Unit {0}
NameLies low end (named f) = FilenameLies low end f

pub lies-wider : {low low' end end' : ℕ} (x : Attribute) → low' ≤ low → end ≤ end' → NameLies low end x → NameLies low' end' x
lies-wider other h k l = tt
lies-wider (named f) h k l = record { begins = omega (arith, l.begins); some = l.some; ends = omega (arith, l.ends) }

pub given-lies : (end attribute_end c : ℕ) (x : Content) → NameLies (c + fixed) attribute_end (given end attribute_end c x)
unfolding given
given-lies end attribute_end c x =
    let some = ltb 0 x.units in
    let in_entry = leb (c + fixed + 2 * x.units) end in
    let in_attribute = leb (c + fixed + 2 * x.units) attribute_end in
    cond_cases (NameLies (c + fixed) attribute_end) (some && in_entry && in_attribute)
    (λ e.
    record {
      begins = omega arith;
      some = omega (arith, ltb-true 0 x.units (and_left some in_entry (and_left (some && in_entry) in_attribute e)));
      ends = leb-true _ _ (and_right (some && in_entry) in_attribute e);
    })
    (λ _. tt)

pub attribute-lies : (e : List ℕ) (a : ℕ) (h : AttributeHeader) → NameLies (a + fixed) (a + h.length) (attribute_at e a h)
unfolding attribute_at
attribute-lies e a h =
    let c = a + h.content_offset in
    cond_cases (NameLies (a + fixed) (a + h.length)) (is_filename (length e) a h)
    (λ _. lies-wider (given (length e) (a + h.length) c (content_at e c)) (omega arith) (omega arith) (given-lies (length e) (a + h.length) c (content_at e c)))
    (λ _. tt)

-- what any visit of a is like
pub data AttributeShape (e : List ℕ) (a : ℕ) : Visit Attribute → Type 0 where
  ends : AttributeShape e a stop
  passes : (n : ℕ) (x : Attribute) → 8 ≤ n → a + n ≤ length e → NameLies (a + fixed) (a + n) x → AttributeShape e a (go (x ∷ []) (a + n))

pub visit-shape : (e : List ℕ) (a : ℕ) → AttributeShape e a (attribute_visit e a)
unfolding attribute_visit
visit-shape e a =
    let P : Visit Attribute → Type 0 = AttributeShape e a in
    let n = le_at 4 e (a + 4) in
    cond_cases P (ltb (length e) (a + 8)) (λ _. ends) λ _.
    cond_cases P (eqb (le_at 4 e a) end_marker) (λ _. ends) λ _.
    cond_cases P (ltb n 8 || ltb (length e) (a + n)) (λ _. ends) λ f.
    passes n (attribute_at e a (attribute_header_at e a)) (ltb-false n 8 (or_left (ltb n 8) (ltb (length e) (a + n)) f))
    (ltb-false (length e) (a + n) (or_right (ltb n 8) (ltb (length e) (a + n)) f)) (attribute-lies e a (attribute_header_at e a))

pub visit-forward : (e : List ℕ) (a : ℕ) → Forward (length e) a (attribute_visit e a)
visit-forward e a = by (visit-shape e a)
  where
    by : {v : Visit Attribute} → AttributeShape e a v → Forward (length e) a v
    by ends = tt
    by (passes n x s i l) = omega arith

all-wider : (low low' end : ℕ) (xs : List Attribute) → low' ≤ low → All (NameLies low end) xs → All (NameLies low' end) xs
all-wider low low' end [] h l = tt
all-wider low low' end (x ∷ xs) h l = (lies-wider x h (omega arith) l.0, all-wider low low' end xs h l.1)

after-lies : {e : List ℕ} {a : ℕ} {v : Visit Attribute} → AttributeShape e a v → (f : ℕ → List Attribute)
    → ((p : ℕ) → All (NameLies (p + fixed) (length e)) (f p)) → All (NameLies (a + fixed) (length e)) (going_on v f)
after-lies ends f h = tt
after-lies {e} {a} (passes n x s i l) f h =
    (lies-wider x (omega arith) (omega arith) l, all-wider (a + n + fixed) (a + fixed) (length e) (f (a + n)) (omega arith) (h (a + n)))

-- the names of the attributes from a on lie past 66 bytes more, and inside the entry
pub attributes-lie : (e : List ℕ) (n a : ℕ) → All (NameLies (a + fixed) (length e)) (attributes_in n e a)
unfolding walk
attributes-lie e zero a = tt
attributes-lie e (suc n) a = after-lies (visit-shape e a) (walk (attribute_visit e) n) (attributes-lie e n)

-- what holds of every name holds of the one that is kept
abbrev pub KeptIs : (Filename → Type 0) → Option Filename → Type 0
KeptIs P None = Unit {0}
KeptIs P (Some f) = P f

keep-is : (P : Filename → Type 0) (k : Option Filename) (new : Filename) → KeptIs P k → P new → KeptIs P (keep k new)
unfolding keep
keep-is P None new h g = g
keep-is P (Some old) new h g = cond_cases (KeptIs P) (replaces old.namespace new.namespace) (λ _. g) (λ _. h)

keep_all-lies : (low end : ℕ) (k : Option Filename) (xs : List Attribute) → KeptIs (FilenameLies low end) k → All (NameLies low end) xs → KeptIs (FilenameLies low end) (keep_all k xs)
keep_all-lies low end k [] h g = h
keep_all-lies low end k (other ∷ xs) h g = keep_all-lies low end k xs h g.1
keep_all-lies low end k (named f ∷ xs) h g = keep_all-lies low end (keep k f) xs (keep-is (FilenameLies low end) k f h g.0) g.1

pub filename-lies : (n : ℕ) (e : List ℕ) (a : ℕ) → KeptIs (FilenameLies (a + fixed) (length e)) (filename_in n e a)
unfolding filename_in
filename-lies n e a = keep_all-lies (a + fixed) (length e) None (attributes_in n e a) tt (attributes-lie e n a)

-- so the name that was found lies there
pub found-lies : (n : ℕ) (e : List ℕ) (a : ℕ) {x : Option Filename} {f : Filename} → x ≡ filename_in n e a → x ≡ Some f → FilenameLies (a + fixed) (length e) f
found-lies n e a g h =
    let r : KeptIs (FilenameLies (a + fixed) (length e)) (filename_in n e a) = filename-lies n e a in
    rw (sym g ∙ h) at r

-- a step that gives a name tells where its content lies inside the entry
pub content-inside : (e : List ℕ) (a : ℕ) {r : AttributeStep} {c p : ℕ} → r ≡ Named c p → attribute_of e r ≡ attribute_visit e a → c < length e
content-inside e a {c = c} {p} g f =
    let h : go (named (filename_at e c) ∷ []) p ≡ attribute_visit e a = ap (attribute_of e) (sym g) ∙ f in
    let P : Visit Attribute → Type 0 = λ v. All (NameLies (a + fixed) (length e)) (going_on v (λ _. [])) in
    let l : P (go (named (filename_at e c) ∷ []) p) = subst P (sym h) (after-lies (visit-shape e a) (λ _. []) (λ _. tt)) in
    omega (arith, l.0.ends)
