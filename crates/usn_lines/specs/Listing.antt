-- The listing of a journal: a header, a line for each record that the scan lists, with its numbers and its path, and a last line that counts them.
use Rattle.std.specs.Prelude.{ℕ, zero, suc, ◌+◌, ◌-◌, List, [], ◌∷◌, ◌++◌, map, cond, eqb, leb, replicate}
use Rattle.base.specs.Lists.{flatten, place_words}
use Rattle.base.specs.Outcome.{Outcome, refused, answered}
use Rattle.usn_record.specs.Record.{listed}
use Rattle.usn_record.specs.declared.UsnRecord.{UsnRecord}
use Rattle.usn_scan.specs.Scan.{scanned}
use Rattle.utf16.specs.Decimal.{decimal}
use Rattle.entry_slots.specs.Table.{table}
use Rattle.additions.specs.Walking.{records_in, offset_in}
use Rattle.rewind_records.specs.Turning.{Next, ended, next}
use Rattle.rewind_steps.specs.Taking.{Step}
use Rattle.rewind_steps.specs.StepText.{record_text}
use Rattle.rewind.specs.Starting.{Tables, started, begun}
use Rattle.rewind.specs.Stepping.{stepped, state_of, rewind_after, words_after}
use Rattle.rewind.specs.Written.{stepped_with_text}
use Rattle.rewind.specs.declared.Rewind.{Rewind}
use Rattle.usn_fields.specs.Line.{question_mark, shown_byte, numbers}

-- the ASCII code of a line end
abbrev pub line_end : List ℕ
line_end = 0x0A ∷ []

-- offset version entry sequence parent parent-sequence usn seconds nanoseconds reason path
unfoldable pub header_line : List ℕ
header_line =
    0x6F ∷ 0x66 ∷ 0x66 ∷ 0x73 ∷ 0x65 ∷ 0x74 ∷ 0x20
    ∷ 0x76 ∷ 0x65 ∷ 0x72 ∷ 0x73 ∷ 0x69 ∷ 0x6F ∷ 0x6E ∷ 0x20
    ∷ 0x65 ∷ 0x6E ∷ 0x74 ∷ 0x72 ∷ 0x79 ∷ 0x20
    ∷ 0x73 ∷ 0x65 ∷ 0x71 ∷ 0x75 ∷ 0x65 ∷ 0x6E ∷ 0x63 ∷ 0x65 ∷ 0x20
    ∷ 0x70 ∷ 0x61 ∷ 0x72 ∷ 0x65 ∷ 0x6E ∷ 0x74 ∷ 0x20
    ∷ 0x70 ∷ 0x61 ∷ 0x72 ∷ 0x65 ∷ 0x6E ∷ 0x74 ∷ 0x2D ∷ 0x73 ∷ 0x65 ∷ 0x71 ∷ 0x75 ∷ 0x65 ∷ 0x6E ∷ 0x63 ∷ 0x65 ∷ 0x20
    ∷ 0x75 ∷ 0x73 ∷ 0x6E ∷ 0x20
    ∷ 0x73 ∷ 0x65 ∷ 0x63 ∷ 0x6F ∷ 0x6E ∷ 0x64 ∷ 0x73 ∷ 0x20
    ∷ 0x6E ∷ 0x61 ∷ 0x6E ∷ 0x6F ∷ 0x73 ∷ 0x65 ∷ 0x63 ∷ 0x6F ∷ 0x6E ∷ 0x64 ∷ 0x73 ∷ 0x20
    ∷ 0x72 ∷ 0x65 ∷ 0x61 ∷ 0x73 ∷ 0x6F ∷ 0x6E ∷ 0x20
    ∷ 0x70 ∷ 0x61 ∷ 0x74 ∷ 0x68 ∷ 0x0A ∷ []

-- the word records and a space, and the last line
abbrev pub records_word : List ℕ
records_word = 0x72 ∷ 0x65 ∷ 0x63 ∷ 0x6F ∷ 0x72 ∷ 0x64 ∷ 0x73 ∷ 0x20 ∷ []

unfoldable pub last_line : ℕ → List ℕ
last_line n = records_word ++ (decimal n ++ line_end)

-- the numbers of the record at an offset; none where no record stands there
abbrev pub numbers_of : ℕ → Outcome UsnRecord → List ℕ
numbers_of offset (refused n) = []
numbers_of offset (answered r) = numbers offset r

unfoldable pub numbers_at : List ℕ → ℕ → List ℕ
numbers_at journal offset = numbers_of offset (listed journal offset)

-- the most bytes of a path that is shown, and how the path is shown of a step with so much room for it: one question mark where the step is refused, as it is
-- where its path takes more
abbrev pub most_path : ℕ
most_path = 65536

abbrev pub shown_path : List ℕ → Outcome (Next Step) → List ℕ
shown_path journal (refused n) = question_mark ∷ []
shown_path journal (answered ended) = question_mark ∷ []
shown_path journal (answered (next x)) = map shown_byte (record_text journal [] x)

-- where a listing stands: the words of the forward table and the state of the rewind
pub record Standing : Type 0 where
  pub words : List ℕ
  pub rewind : Rewind

abbrev pub standing : List ℕ → Rewind → Standing
standing words r = record { words = words; rewind = r }

-- over a journal and a list of its records
module _ (journal records : List ℕ) where
  -- a step on
  abbrev pub after_step : Standing → Outcome (Next Step) → Standing
  after_step s o = standing (words_after o s.words) (rewind_after o s.rewind)

  unfoldable pub onward : Standing → Standing
  onward s = after_step s (stepped journal [] records s.words s.rewind)

  -- the path of the record that is next
  unfoldable pub path_of : Standing → List ℕ
  path_of s = shown_path journal (stepped_with_text journal [] records s.words s.rewind most_path)

  -- the line of record i, which is next
  unfoldable pub line : ℕ → Standing → List ℕ
  line i s = numbers_at journal (offset_in records i) ++ (path_of s ++ line_end)

  -- the lines of n records from i on
  unfoldable pub lines : ℕ → ℕ → Standing → List (List ℕ)
  lines i zero s = []
  lines i (suc n) s = line i s ∷ lines (i + 1) n (onward s)

  -- all of a listing, from the start of the rewind
  abbrev pub listing_from : Standing → List ℕ
  listing_from s = header_line ++ (flatten (λ l. l) (lines 0 (records_in records) s) ++ last_line (records_in records))

  -- the same in parts, by their numbers: 0 is the header, then come the records' lines, and then the last line
  unfoldable pub part : ℕ → Standing → List ℕ
  part k s = cond (eqb k 0) header_line (cond (leb k (records_in records)) (line (k - 1) s) (last_line (records_in records)))

  unfoldable pub after_part : ℕ → Standing → Standing
  after_part k s = cond (eqb k 0) s (cond (leb k (records_in records)) (onward s) s)

  -- n parts from number k on, and where the listing stands after them
  unfoldable pub parts : ℕ → ℕ → Standing → List (List ℕ)
  parts k zero s = []
  parts k (suc n) s = part k s ∷ parts (k + 1) n (after_part k s)

  unfoldable pub after_parts : ℕ → ℕ → Standing → Standing
  after_parts k zero s = s
  after_parts k (suc n) s = after_parts (k + 1) n (after_part k s)

  -- as many parts as a listing has, all of them, and where it stands after them
  abbrev pub parts_of : ℕ
  parts_of = records_in records + 2

  abbrev pub all_parts : Standing → List (List ℕ)
  all_parts s = parts 0 parts_of s

  abbrev pub after_all : Standing → Standing
  after_all s = after_parts 0 parts_of s

-- the records of a journal as the scan lists them
unfoldable pub list_of : List ℕ → List ℕ
list_of journal = flatten place_words (scanned journal)

-- where a listing begins: after the start of a rewind from an empty table, with these words for that table and for the forward one
abbrev pub standing_at : List ℕ → Outcome Tables → Standing
standing_at words (refused n) = standing words (state_of 0 0)
standing_at words (answered ts) = standing ts.forward.words (begun ts)

unfoldable pub begins : List ℕ → List ℕ → List ℕ → List ℕ → Standing
begins journal records first words = standing_at words (started journal [] records (table first 0) words)

-- the listing of a journal, with the words of two tables of 1024 slots, all zeros
unfoldable pub no_words : List ℕ
no_words = replicate 7168 0

unfoldable pub listing : List ℕ → List ℕ
listing journal = listing_from journal (list_of journal) (begins journal (list_of journal) no_words no_words)
