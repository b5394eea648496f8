-- What parsing one USN record gives, for any layout, and the record that stands at an offset of an extract.
use Rattle.std.specs.Prelude.{ℕ, ◌+◌, List, [], ◌∷◌, Bool, true, false, cond, ◌&&◌, ◌||◌, length, ltb, leb, eqb}
use Rattle.std.specs.Int.{w64}
use Rattle.std.proofs.Common.{to_z, of_z}
use Rattle.base.specs.Outcome.{Outcome, refused, answered, refused_as}
use Rattle.base.specs.Places.{part}
use Rattle.base.specs.Refusals.{above_domain, short_slice, bad_length, length_past_slice, not_a_record, domain}
use Rattle.usn_record.specs.Bytes.{le_at}
use Rattle.usn_record.specs.Layout.{Layout, v2, v3}
use Rattle.usn_record.specs.Fields.{timestamp_of, reference_of, filename_of}
use Rattle.usn_record.specs.declared.UsnRecord.{UsnRecord}

-- the smallest record of any version, one of version 4, and the largest
abbrev pub min_record : ℕ
min_record = 56

abbrev pub max_record : ℕ
max_record = 65536

-- the version field of the record at o of s
abbrev pub major_at : List ℕ → ℕ → ℕ
major_at s o = le_at 2 s (o + 4)

-- up to where a name may go
abbrev pub name_end : Layout → List ℕ → ℕ
name_end l s = cond l.name_in_record (le_at 4 s 0) (length s)

-- the record that s begins with, in layout l. Signed fields are two's complement.
unfoldable pub record_of : Layout → List ℕ → UsnRecord
record_of l s =
    let file = reference_of l.sequenced (le_at l.reference s l.file) in
    let parent = reference_of l.sequenced (le_at l.reference s l.parent) in
    record {
      mft_entry = file.entry;
      mft_sequence = file.sequence;
      parent_mft_entry = parent.entry;
      parent_mft_sequence = parent.sequence;
      usn = to_z w64 (le_at 8 s l.usn);
      timestamp = timestamp_of (to_z w64 (le_at 8 s l.time));
      reason = le_at 4 s l.reason;
      filename = filename_of (name_end l s) (le_at 2 s l.name_offset) (le_at 2 s l.name_length);
      file_attributes = le_at 4 s l.attributes;
      source_info = le_at 4 s l.source;
      security_id = le_at 4 s l.security;
      major_version = l.major;
      minor_version = le_at 2 s 6;
      record_length = le_at 4 s 0;
      filetime = to_z w64 (le_at 8 s l.time);
      file_reference_high = file.high;
      parent_reference_high = parent.high;
    }

-- parsing s as a record of layout l: the refusals in their order, and the record
unfoldable pub parsed : Layout → List ℕ → Outcome UsnRecord
parsed l s =
    cond (ltb domain (length s)) (refused above_domain)
    (cond (ltb (length s) l.fixed) (refused short_slice)
    (cond (ltb (le_at 4 s 0) l.fixed || ltb max_record (le_at 4 s 0)) (refused bad_length)
    (cond (l.length_in_slice && ltb (length s) (le_at 4 s 0)) (refused length_past_slice)
    (answered (record_of l s)))))

-- a parser's outcome about a listed offset: every refusal is the one number
abbrev pub as_listed : Outcome UsnRecord → Outcome UsnRecord
as_listed = refused_as not_a_record

-- the record at o of an extract s, by the version field there: its parser is handed the part as long as the length field
unfoldable pub listed : List ℕ → ℕ → Outcome UsnRecord
listed s o =
    let n = le_at 4 s o in
    let version = major_at s o in
    cond (ltb (length s) (o + 8)) (refused not_a_record)
    (cond (ltb (length s) (o + n)) (refused not_a_record)
    (cond (eqb version 2) (as_listed (parsed v2 (part s o n)))
    (cond (eqb version 3) (as_listed (parsed v3 (part s o n)))
    (refused not_a_record))))

-- an outcome is an answer
abbrev pub is_answered : {A : Type 0} → Outcome A → Bool
is_answered (refused n) = false
is_answered (answered a) = true

-- a record with a fixed part of so many bytes may have length n
unfoldable pub fits_record : ℕ → ℕ → Bool
fits_record fixed n = leb fixed n && leb n max_record

-- a record as a row of words, a signed number by its 64 bits
unfoldable pub record_words : UsnRecord → List ℕ
record_words r =
    r.mft_entry
    ∷ r.mft_sequence
    ∷ r.parent_mft_entry
    ∷ r.parent_mft_sequence
    ∷ of_z w64 r.usn
    ∷ r.timestamp.seconds
    ∷ r.timestamp.nanoseconds
    ∷ r.reason
    ∷ r.file_attributes
    ∷ r.source_info
    ∷ r.security_id
    ∷ r.major_version
    ∷ r.filename.offset
    ∷ r.filename.length
    ∷ r.record_length
    ∷ r.minor_version
    ∷ of_z w64 r.filetime
    ∷ r.file_reference_high
    ∷ r.parent_reference_high
    ∷ []
