-- Two entries that differ in names of their attributes alone, or in the kept one alone, keep the same name. Assumes nothing.
--
-- A name's length is a byte before the name. Where the content that it stands in passes its attribute, that byte may lie in the name of
-- another attribute; but then no name could end inside the attribute, whatever the byte says.
use Prim.Native.Nat.{ℕ, suc, ◌+◌, ◌*◌, ◌≤◌, ◌<◌}
use Rattle.std.specs.Prelude.{Option, Some, None}
use mathlib.Core.Path.{◌≡◌, refl, ap, sym, ◌∙◌}
use mathlib.Core.List.{List, [], ◌∷◌}
use mathlib.Core.Bool.{Bool, true, false, ◌&&◌, ◌||◌}
use native.Mathlib.Omega.{arith}
use lib.ListN.{length, get_or}
use lib.Dec.{ltb, leb, eqb}
use borrow.Author.Tests.{leb-true, leb-false, lt-leb}
use Rattle.base.specs.Lists.{All}
use Rattle.base.specs.Agree.{Agree}
use Rattle.base.specs.Masked.{Apart, places_of}
use Rattle.base.specs.Walk.{Visit, go, going_on, walk}
use Rattle.base.specs.declared.Place.{Place}
use Rattle.base.proofs.ChoiceLaws.{cond_cases, cond-two, and-false}
use Rattle.base.proofs.MaskedLaws.{apart-append, apart-all, Same, Before, walk_same}
use Rattle.base.proofs.WalkLaws.{Forward}
use Rattle.usn_record.specs.Bytes.{le_at}
use Rattle.usn_record.proofs.ByteLaws.{read-agree}
use Rattle.mft_attributes.specs.Filename.{replaces, Attribute, other, named, keep, keep_all}
use Rattle.mft_attributes.specs.Attributes.{end_marker, fixed, attribute_header_at, Content, content_at, is_filename, given, attribute_at, attribute_visit, attributes_in, filename_in}
use Rattle.mft_attributes.specs.declared.filename.Filename.{Filename}
use Rattle.mft_attributes.proofs.LieLaws.{NameLies, given-lies, AttributeShape, ends, passes, visit-shape, visit-forward, attributes-lie}

-- the name of an attribute, and the one that is kept
abbrev pub name_of : Attribute → List Place
name_of other = []
name_of (named f) = f.place ∷ []

abbrev pub kept_name : Option Filename → List Place
kept_name None = []
kept_name (Some f) = f.place ∷ []

-- content that passes its attribute gives no name, whatever it says
pub given-past : (end attribute_end c : ℕ) (x : Content) → attribute_end < c + fixed + 2 * x.units → other ≡ given end attribute_end c x
unfolding given
given-past end attribute_end c x h =
    simp (and-false (ltb 0 x.units && leb (c + fixed + 2 * x.units) end) (leb (c + fixed + 2 * x.units) attribute_end) (λ _. lt-leb _ _ h))

-- i lies before a name, or past it
below : (low end : ℕ) (x : Attribute) (i : ℕ) → NameLies low end x → i < low → Apart (name_of x) i
below low end other i l h = tt
below low end (named f) i l h = (λ w. omega (arith, w.from, l.begins), tt)

past : (low end : ℕ) (x : Attribute) (i : ℕ) → NameLies low end x → end ≤ i → Apart (name_of x) i
past low end other i l h = tt
past low end (named f) i l h = (λ w. omega (arith, w.to, l.ends), tt)

all-below : (low end : ℕ) (xs : List Attribute) (i : ℕ) → All (NameLies low end) xs → i < low → All (λ x. Apart (name_of x) i) xs
all-below low end [] i l h = tt
all-below low end (x ∷ xs) i l h = (below low end x i l.0 h, all-below low end xs i l.1 h)

module _ (e d : List ℕ) (long : length d ≡ length e) where
  -- the names from a on leave the bytes below alone
  clear : (n a i : ℕ) → i < a + fixed → Apart (places_of name_of (attributes_in n e a)) i
  clear n a i h = apart-all name_of (attributes_in n e a) i (all-below (a + fixed) (length e) (attributes_in n e a) i (attributes-lie e n a) h)

  -- one attribute, x in the first run, with so many to come after it
  abbrev Then : ℕ → ℕ → ℕ → Attribute → Type 0
  Then k a n x = Same e d (places_of name_of (x ∷ attributes_in k e (a + n))) a

  -- the content at c of the attribute of n bytes at a
  content-same : (k a n c : ℕ) → a ≤ c → (b : Bool) → leb (c + fixed) (a + n) ≡ b → Then k a n (given (length e) (a + n) c (content_at e c))
      → given (length e) (a + n) c (content_at d c) ≡ given (length e) (a + n) c (content_at e c)
  content-same k a n c h true f m =
      let x = given (length e) (a + n) c (content_at e c) in
      let g : c + fixed ≤ a + n = leb-true (c + fixed) (a + n) f in
      let q : Agree e d c (c + fixed) =
      record {
        long = long;
        at = λ i l u. m i (omega arith) (apart-append (name_of x) (places_of name_of (attributes_in k e (a + n))) i
            (below (c + fixed) (a + n) x i (given-lies (length e) (a + n) c (content_at e c)) u) (clear k (a + n) i (omega arith)));
      } in
      let namespace : (content_at d c).namespace ≡ (content_at e c).namespace = read-agree 1 (c + 65) q (omega arith) (omega arith) in
      rw (read-agree 8 c q (omega arith) (omega arith), read-agree 1 (c + 64) q (omega arith) (omega arith), namespace)
  content-same k a n c h false f m =
      let g : a + n < c + fixed = leb-false (c + fixed) (a + n) f in
      sym (given-past (length e) (a + n) c (content_at d c) (omega arith)) ∙ given-past (length e) (a + n) c (content_at e c) (omega arith)

  attribute-same : (k a : ℕ) → Agree e d a (a + fixed) → Then k a (le_at 4 e (a + 4)) (attribute_at e a (attribute_header_at e a))
      → attribute_at d a (attribute_header_at e a) ≡ attribute_at e a (attribute_header_at e a)
  unfolding attribute_at
  attribute-same k a g =
      let n = le_at 4 e (a + 4) in
      let c = a + le_at 2 e (a + 20) in
      rw long
      (cond-two (λ (y x : Attribute). Then k a n x → y ≡ x) (is_filename (length e) a (attribute_header_at e a))
      (λ _ m. content-same k a n c (omega arith) (leb (c + fixed) (a + n)) refl m) (λ _ _. refl))

  visit-same : (k a : ℕ) → Agree e d a (a + fixed) → Same e d (places_of name_of (going_on (attribute_visit e a) (walk (attribute_visit e) k))) a → attribute_visit d a ≡ attribute_visit e a
  unfolding attribute_visit
  visit-same k a g =
      let n = le_at 4 e (a + 4) in
      let R : Visit Attribute → Visit Attribute → Type 0 = λ y x. Same e d (places_of name_of (going_on x (walk (attribute_visit e) k))) a → y ≡ x in
      let read : (w i : ℕ) → i + w ≤ fixed → le_at w d (a + i) ≡ le_at w e (a + i) = λ w i h. read-agree w (a + i) g (omega arith) (omega arith) in
      let type : le_at 4 d a ≡ le_at 4 e a = read-agree 4 a g (omega arith) (omega arith) in
      rw (long, type, read 4 4 (omega arith), read 1 8 (omega arith), read 4 16 (omega arith), read 2 20 (omega arith))
      (cond-two R (ltb (length e) (a + 8)) (λ _ _. refl) λ _.
      cond-two R (eqb (le_at 4 e a) end_marker) (λ _ _. refl) λ _.
      cond-two R (ltb n 8 || ltb (length e) (a + n)) (λ _ _. refl) λ _ m.
      ap (λ (x : Attribute). go (x ∷ []) (a + n)) (attribute-same k a g m))

  reads : (k a : ℕ) → Same e d (places_of name_of (attributes_in (suc k) e a)) a → attribute_visit d a ≡ attribute_visit e a
  unfolding walk
  reads k a m = visit-same k a (record { long = long; at = λ i l u. m i l (clear (suc k) a i u) }) m

  forward : (a p : ℕ) (xs : List Attribute) → attribute_visit e a ≡ go xs p → a ≤ p
  forward a p xs f = let g : Forward (length e) a (go xs p) = rw f at (visit-forward e a) in omega arith

  before : (a : ℕ) → Before name_of (attribute_visit e a)
  before a = by (visit-shape e a)
    where
      by : {v : Visit Attribute} → AttributeShape e a v → Before name_of v
      by ends = tt
      by (passes n x s i l) = λ j h. apart-append (name_of x) [] j (past (a + fixed) (a + n) x j l h) tt

  -- entries that differ in names of their attributes alone have the same attributes
  pub attributes-two-runs : (n a : ℕ) → Same e d (places_of name_of (attributes_in n e a)) a → attributes_in n d a ≡ attributes_in n e a
  attributes-two-runs = walk_same e d name_of (attribute_visit e) (attribute_visit d) forward before reads

-- the name that is kept is one of the names
keep_apart : (k : Option Filename) (new : Filename) (i : ℕ) → Apart (kept_name k) i → Apart (new.place ∷ []) i → Apart (kept_name (keep k new)) i
unfolding keep
keep_apart None new i h g = g
keep_apart (Some old) new i h g =
    cond_cases (λ (x : Option Filename). Apart (kept_name x) i) (replaces old.namespace new.namespace) (λ _. g) (λ _. h)

keep_all-apart : (k : Option Filename) (xs : List Attribute) (i : ℕ) → Apart (kept_name k) i → Apart (places_of name_of xs) i → Apart (kept_name (keep_all k xs)) i
keep_all-apart k [] i h g = h
keep_all-apart k (other ∷ xs) i h g = keep_all-apart k xs i h g
keep_all-apart k (named f ∷ xs) i h g = keep_all-apart (keep k f) xs i (keep_apart k f i h (g.0, tt)) g.1

-- entries that differ, from the first attribute on, in the name alone that is kept of the first keep the same name
pub filename-two-runs : (e d : List ℕ) → length d ≡ length e → (n a : ℕ) → ((i : ℕ) → a ≤ i → Apart (kept_name (filename_in n e a)) i → get_or d i 0 ≡ get_or e i 0)
    → filename_in n d a ≡ filename_in n e a
unfolding filename_in
filename-two-runs e d long n a m =
    ap (keep_all None) (attributes-two-runs e d long n a (λ i l h. m i l (keep_all-apart None (attributes_in n e a) i tt h)))
