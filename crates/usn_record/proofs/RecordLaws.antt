-- What callers go by, with `parsed` and `record_of` shut: when a slice is accepted, what a record handed over exactly gives, which bytes
-- the fields read, and where the name lies. Each holds of any layout. Assumes nothing.
use Prim.Native.Nat.{ℕ, ◌+◌, ◌-◌, ◌≤◌, ◌<◌}
use mathlib.Core.Path.{◌≡◌, refl, sym, ap, ◌∙◌}
use mathlib.Core.List.{List}
use mathlib.Core.Bool.{Bool, true, false, ◌&&◌, ◌||◌}
use native.Mathlib.Nat.{add-zero}
use native.Mathlib.Omega.{arith}
use lib.IntN.{ℤ}
use lib.ListN.{length, take, drop}
use lib.Dec.{ltb}
use mir.Syntax.{w64}
use mir.Val.{to_z}
use borrow.Author.Tests.{lt-ltb, le-ltb, ltb-false, ne_eqb}
use Rattle.base.specs.Outcome.{Outcome, refused, answered}
use Rattle.base.specs.Places.{part}
use Rattle.base.specs.Agree.{Agree}
use Rattle.base.specs.Refusals.{above_domain, short_slice, bad_length, length_past_slice, not_a_record, domain}
use Rattle.base.specs.declared.Place.{Place}
use Rattle.base.proofs.ChoiceLaws.{cond_cases, or_left, or_right, and-false}
use Rattle.base.proofs.AgreeLaws.{agree-part, part_length, part-lent}
use Rattle.usn_record.specs.Bytes.{le_at}
use Rattle.usn_record.specs.Layout.{Layout, v2, v3, layout_at}
use Rattle.usn_record.specs.Fields.{timestamp_of, reference_of, filename_of}
use Rattle.usn_record.specs.Record.{max_record, name_end, record_of, parsed, as_listed, listed}
use Rattle.usn_record.specs.declared.Timestamp.{Timestamp}
use Rattle.usn_record.specs.declared.UsnRecord.{UsnRecord}
use Rattle.usn_record.specs.declared.fields.Reference.{Reference}
use Rattle.usn_record.proofs.ByteLaws.{read-part, read-agree}
use Rattle.usn_record.proofs.FieldLaws.{NameAt, filename-lies}

-- the slices that a layout's parser accepts
pub record Accepts (l : Layout) (s : List ℕ) : Type 0 where
  pub small : length s ≤ domain
  pub whole : l.fixed ≤ length s
  pub least : l.fixed ≤ le_at 4 s 0
  pub most : le_at 4 s 0 ≤ max_record
  pub held : l.length_in_slice ≡ true → le_at 4 s 0 ≤ length s

-- the refusals, each with what its test and those before it say, and the acceptance
module _ (l : Layout) (s : List ℕ) where
  pub refused-above-domain : domain < length s → refused above_domain ≡ parsed l s
  unfolding parsed
  refused-above-domain h = simp (lt-ltb _ _ h)

  pub refused-short-slice : length s ≤ domain → length s < l.fixed → refused short_slice ≡ parsed l s
  unfolding parsed
  refused-short-slice a h = simp (le-ltb _ _ a, lt-ltb _ _ h)

  module _ (a : length s ≤ domain) (b : l.fixed ≤ length s) where
    pub refused-below-fixed : le_at 4 s 0 < l.fixed → refused bad_length ≡ parsed l s
    unfolding parsed
    refused-below-fixed h = simp (le-ltb _ _ a, le-ltb _ _ b, lt-ltb _ _ h)

    pub refused-above-most : l.fixed ≤ le_at 4 s 0 → max_record < le_at 4 s 0 → refused bad_length ≡ parsed l s
    unfolding parsed
    refused-above-most g h = simp (le-ltb _ _ a, le-ltb _ _ b, le-ltb _ _ g, lt-ltb _ _ h)

    pub refused-past-slice : l.fixed ≤ le_at 4 s 0 → le_at 4 s 0 ≤ max_record → l.length_in_slice ≡ true → length s < le_at 4 s 0
        → refused length_past_slice ≡ parsed l s
    unfolding parsed
    refused-past-slice g h k m = simp (le-ltb _ _ a, le-ltb _ _ b, le-ltb _ _ g, le-ltb _ _ h, k, lt-ltb _ _ m)

  pub accepted : Accepts l s → answered (record_of l s) ≡ parsed l s
  unfolding parsed
  accepted h =
      simp (
        le-ltb _ _ h.small,
        le-ltb _ _ h.whole,
        le-ltb _ _ h.least,
        le-ltb _ _ h.most,
        and-false l.length_in_slice (ltb (length s) (le_at 4 s 0)) (λ k. le-ltb _ _ (h.held k)),
      )

  -- only such a slice is accepted, and its record is `record_of`
  abbrev Answers : Outcome UsnRecord → Type 0
  Answers x = (r : UsnRecord) → x ≡ answered r → Accepts l s × (r ≡ record_of l s)

  refuses : (n : ℕ) → Answers (refused n)
  refuses n r e = absurd (let z : ◌≡◌ {A = ℕ} 0 1 = cc in omega arith)

  holds : Accepts l s → Answers (answered (record_of l s))
  holds h r e = (h, cc)

  held_of : (k : Bool) → (k && ltb (length s) (le_at 4 s 0)) ≡ false → k ≡ true → le_at 4 s 0 ≤ length s
  held_of true e q = ltb-false _ _ e
  held_of false e q = absurd (let z : ◌≡◌ {A = Bool} true false = sym q in let y : ◌≡◌ {A = ℕ} 0 1 = cc in omega arith)

  pub accepts : (r : UsnRecord) → parsed l s ≡ answered r → Accepts l s × (r ≡ record_of l s)
  unfolding parsed
  accepts =
      cond_cases Answers (ltb domain (length s)) (λ _. refuses above_domain) λ a.
      cond_cases Answers (ltb (length s) l.fixed) (λ _. refuses short_slice) λ b.
      cond_cases Answers (ltb (le_at 4 s 0) l.fixed || ltb max_record (le_at 4 s 0)) (λ _. refuses bad_length) λ d.
      cond_cases Answers (l.length_in_slice && ltb (length s) (le_at 4 s 0)) (λ _. refuses length_past_slice) λ e.
      holds
      (record {
        small = ltb-false _ _ a;
        whole = ltb-false _ _ b;
        least = ltb-false _ _ (or_left (ltb (le_at 4 s 0) l.fixed) (ltb max_record (le_at 4 s 0)) d);
        most = ltb-false _ _ (or_right (ltb (le_at 4 s 0) l.fixed) (ltb max_record (le_at 4 s 0)) d);
        held = held_of l.length_in_slice e;
      })

  -- the record put together from what its reads gave; z and y are the USN and the time as the code passes them on
  pub assembled : {usn time minor size reason attributes source security name_offset name_length : ℕ} {file parent : Reference} {z z' y y' : ℤ}
      {timestamp : Timestamp} {name : Place}
      → size ≡ le_at 4 s 0
      → file ≡ reference_of l.sequenced (le_at l.reference s l.file)
      → parent ≡ reference_of l.sequenced (le_at l.reference s l.parent)
      → time ≡ le_at 8 s l.time
      → usn ≡ le_at 8 s l.usn → z ≡ to_z w64 usn → z' ≡ z
      → timestamp ≡ timestamp_of (to_z w64 time)
      → reason ≡ le_at 4 s l.reason
      → name_offset ≡ le_at 2 s l.name_offset → name_length ≡ le_at 2 s l.name_length → name ≡ filename_of (name_end l s) name_offset name_length
      → attributes ≡ le_at 4 s l.attributes
      → source ≡ le_at 4 s l.source
      → security ≡ le_at 4 s l.security
      → minor ≡ le_at 2 s 6
      → y ≡ to_z w64 time → y' ≡ y
      → ◌≡◌ {A = UsnRecord} (record {
        mft_entry = file.entry;
        mft_sequence = file.sequence;
        parent_mft_entry = parent.entry;
        parent_mft_sequence = parent.sequence;
        usn = z';
        timestamp = timestamp;
        reason = reason;
        filename = name;
        file_attributes = attributes;
        source_info = source;
        security_id = security;
        major_version = l.major;
        minor_version = minor;
        record_length = size;
        filetime = y';
        file_reference_high = file.high;
        parent_reference_high = parent.high;
      }) (record_of l s)
  unfolding record_of
  assembled a b c d e f g h i j k m n o p q r t = cc

-- every field of a layout lies in its fixed part
pub record FieldsInside (l : Layout) : Type 0 where
  pub file : l.file + l.reference ≤ l.fixed
  pub parent : l.parent + l.reference ≤ l.fixed
  pub usn : l.usn + 8 ≤ l.fixed
  pub time : l.time + 8 ≤ l.fixed
  pub reason : l.reason + 4 ≤ l.fixed
  pub source : l.source + 4 ≤ l.fixed
  pub security : l.security + 4 ≤ l.fixed
  pub attributes : l.attributes + 4 ≤ l.fixed
  pub name_length : l.name_length + 2 ≤ l.fixed
  pub name_offset : l.name_offset + 2 ≤ l.fixed
  pub header : 8 ≤ l.fixed

-- as those of a layout that is made of its numbers
pub layout-inside : (parent tail : ℕ) (wide sequenced length_in_slice : Bool) (major : ℕ) → parent ≤ tail → FieldsInside (layout_at parent tail wide sequenced length_in_slice major)
layout-inside p u true q h m k = record { file = omega arith; parent = omega arith; usn = omega arith; time = omega arith; reason = omega arith; source = omega arith; security = omega arith; attributes = omega arith; name_length = omega arith; name_offset = omega arith; header = omega arith }
layout-inside p u false q h m k = record { file = omega arith; parent = omega arith; usn = omega arith; time = omega arith; reason = omega arith; source = omega arith; security = omega arith; attributes = omega arith; name_length = omega arith; name_offset = omega arith; header = omega arith }

pub v2-inside : FieldsInside v2
v2-inside = layout-inside 16 24 false true true 2 (omega arith)

pub v3-inside : FieldsInside v3
v3-inside = layout-inside 24 40 true false false 3 (omega arith)

module _ (l : Layout) (k : FieldsInside l) where
  -- the fields read only the fixed part, and the length of the slice
  module _ {s t : List ℕ} (a : Agree s t 0 l.fixed) where
    read : (w i : ℕ) → i + w ≤ l.fixed → le_at w t i ≡ le_at w s i
    read w i h = read-agree w i a (omega arith) h

    pub record-agrees : record_of l t ≡ record_of l s
    unfolding record_of
    record-agrees =
        rw (
          a.long,
          read 4 0 (omega (arith, k.header)),
          read 2 6 k.header,
          read l.reference l.file k.file,
          read l.reference l.parent k.parent,
          read 8 l.usn k.usn,
          read 8 l.time k.time,
          read 4 l.reason k.reason,
          read 4 l.source k.source,
          read 4 l.security k.security,
          read 4 l.attributes k.attributes,
          read 2 l.name_length k.name_length,
          read 2 l.name_offset k.name_offset,
        )

    pub parsed-agrees : parsed l t ≡ parsed l s
    unfolding parsed
    parsed-agrees = rw (a.long, read 4 0 (omega (arith, k.header)), record-agrees)

  -- so two extracts that agree on a record's fixed part hand over records that parse alike
  pub part-agrees : {s t : List ℕ} (o n : ℕ) → Agree s t o (o + l.fixed) → parsed l (part t o n) ≡ parsed l (part s o n)
  part-agrees o n a = parsed-agrees (agree-part o n l.fixed a (omega arith) (omega arith))

  -- a record that is handed over exactly, as the part as long as its length field, is accepted
  module _ (s : List ℕ) (o : ℕ) {n : ℕ} (e : n ≡ le_at 4 s o) (b : o + n ≤ length s) (f : l.fixed ≤ n) where
    pub part-length-field : le_at 4 (part s o n) 0 ≡ n
    part-length-field = read-part s o n 4 0 b (omega (arith, k.header)) ∙ ap (le_at 4 s) (add-zero o) ∙ sym e

    pub part-accepts : n ≤ max_record → Accepts l (part s o n)
    part-accepts h =
        let len : length (part s o n) ≡ n = part_length s o n b in
        let fld : le_at 4 (part s o n) 0 ≡ n = part-length-field in
        record { small = omega arith; whole = omega arith; least = omega arith; most = omega arith; held = λ _. omega arith }

  pub part-accepted : (s : List ℕ) (o : ℕ) {n : ℕ} → n ≡ le_at 4 s o → o + n ≤ length s → l.fixed ≤ n → n ≤ max_record
      → parsed l (part s o n) ≡ answered (record_of l (part s o n))
  part-accepted s o e b f h = sym (accepted l _ (part-accepts s o e b f h))

-- where a record's name lies in its slice
pub name-lies : (l : Layout) (s : List ℕ) → NameAt (name_end l s) (le_at 2 s l.name_offset) (record_of l s).filename
unfolding record_of
name-lies l s = filename-lies (name_end l s) (le_at 2 s l.name_offset) (le_at 2 s l.name_length)

pub major-of : (l : Layout) (s : List ℕ) → (record_of l s).major_version ≡ l.major
unfolding record_of
major-of l s = refl

pub record-length-of : (l : Layout) (s : List ℕ) → (record_of l s).record_length ≡ le_at 4 s 0
unfolding record_of
record-length-of l s = refl

-- the ways out of `listed`, with n and v the length and version as they were read
module _ (s : List ℕ) (o : ℕ) where
  pub listed-no-header : length s < o + 8 → refused not_a_record ≡ listed s o
  unfolding listed
  listed-no-header h = simp (lt-ltb _ _ h)

  module _ (a : o + 8 ≤ length s) {n : ℕ} (e : n ≡ le_at 4 s o) where
    pub listed-past-end : length s < o + n → refused not_a_record ≡ listed s o
    unfolding listed
    listed-past-end h = simp (le-ltb _ _ a, sym e, lt-ltb _ _ h)

    module _ (b : o + n ≤ length s) {v : ℕ} (f : v ≡ le_at 2 s (o + 4)) where
      -- y is what the parser said of the part that was lent to it
      module _ {x y : Outcome UsnRecord} (g : x ≡ as_listed y) where
        pub listed-v2 : v ≡ 2 → y ≡ parsed v2 (take (o + n - o) (drop o s)) → x ≡ listed s o
        unfolding listed
        listed-v2 h k = g ∙ ap as_listed (k ∙ ap (parsed v2) (part-lent s o n)) ∙ simp (le-ltb _ _ a, sym e, le-ltb _ _ b, sym f, h)

        pub listed-v3 : v ≡ 3 → y ≡ parsed v3 (take (o + n - o) (drop o s)) → x ≡ listed s o
        unfolding listed
        listed-v3 h k = g ∙ ap as_listed (k ∙ ap (parsed v3) (part-lent s o n)) ∙ simp (le-ltb _ _ a, sym e, le-ltb _ _ b, sym f, h)

      pub listed-other : (v ≡ 2 → ⊥) → (v ≡ 3 → ⊥) → refused not_a_record ≡ listed s o
      unfolding listed
      listed-other g h = simp (le-ltb _ _ a, sym e, le-ltb _ _ b, sym f, ne_eqb v 2 g, ne_eqb v 3 h)
