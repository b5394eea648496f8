-- Known cases of times and single records.
use Rattle.std.specs.Prelude.{ℕ, List, [], ◌∷◌, cond, eqb, ℤ, pos, negsuc}
use Rattle.base.specs.Outcome.{outcome_words}
use Rattle.usn_record.specs.Layout.{Layout, v2, v3}
use Rattle.usn_record.specs.Fields.{timestamp_of}
use Rattle.usn_record.specs.Record.{parsed, record_words, listed}
use Rattle.known.specs.Case.{Case}
use Rattle.known.specs.Bytes.{slice_of, record_e}

-- a FILETIME gives these seconds and nanoseconds
abbrev pub time_of : ℕ → List ℕ → ℤ → List ℕ → Case
time_of of given filetime known =
    record { of = of; given = given; says = (timestamp_of filetime).seconds ∷ (timestamp_of filetime).nanoseconds ∷ []; known = known }

abbrev pub time : ℕ → ℕ → ℕ → Case
time filetime seconds nanoseconds = time_of 2 (filetime ∷ []) (pos filetime) (seconds ∷ nanoseconds ∷ [])

-- P2, and a time before 1601
abbrev pub times : List Case
times =
    time 116444735999999999 0 0
    ∷ time 116444736000000000 0 0
    ∷ time 9223372036854775807 910692730085 477580700
    ∷ time_of 0 [] (negsuc 0) (0 ∷ 0 ∷ [])
    ∷ []

-- a slice of n bytes, read as a record of this version with this length field, is answered so: a refusal's number, or 0 where it is accepted
abbrev pub layout_of : ℕ → Layout
layout_of version = cond (eqb version 2) v2 v3

abbrev pub slice : ℕ → ℕ → ℕ → ℕ → Case
slice version n field answer =
    record { of = 3; given = version ∷ n ∷ field ∷ []; says = outcome_words (λ r. []) (parsed (layout_of version) (slice_of n field)); known = answer ∷ [] }

-- P3
abbrev pub slices : List Case
slices =
    slice 2 60 59 3
    ∷ slice 2 60 60 0
    ∷ slice 2 60 65536 4
    ∷ slice 2 60 65537 3
    ∷ slice 3 76 65536 0
    ∷ []

-- the words of E: fields, time, reason, attributes, name, and what the original does not have
abbrev pub words_e : List ℕ
words_e = 0 ∷ 42 ∷ 3 ∷ 5 ∷ 5 ∷ 4096 ∷ 946684800 ∷ 0 ∷ 0x100 ∷ 0x20 ∷ 0 ∷ 0 ∷ 2 ∷ 60 ∷ 4 ∷ 64 ∷ 0 ∷ 125911584000000000 ∷ 0 ∷ 0 ∷ []

abbrev pub fields_e : List Case
fields_e =
    record { of = 0; given = []; says = outcome_words record_words (parsed v2 record_e); known = words_e }
    ∷ record { of = 0; given = []; says = outcome_words record_words (listed record_e 0); known = words_e }
    ∷ []
