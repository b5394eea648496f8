-- Known cases of image carving, and of the decoding of names.
use Rattle.std.specs.Prelude.{ℕ, ◌-◌, List, [], ◌∷◌, ◌++◌, take, replicate}
use Rattle.base.specs.Lists.{flatten}
use Rattle.mft_carver.specs.Settings.{standard}
use Rattle.mft_carver.specs.Carve.{entries_in, stats_in, entry_words, stats_words}
use Rattle.utf16.specs.Text.{decoded}
use Rattle.path_text.specs.Text.{place_text}
use Rattle.known.specs.Case.{Case}
use Rattle.known.specs.Bytes.{le, entry_header, name_attribute, others, last, padded, entry_of, put, on_disk}

-- the counters of image carving: bytes, candidates, carved, rejected
abbrev pub carve_counts : ℕ → List ℕ → List ℕ → List ℕ → Case
carve_counts of given s known = record { of = of; given = given; says = stats_words (stats_in standard s); known = known }

-- the words of the entries that are carved
abbrev pub carved_as : ℕ → List ℕ → List ℕ → List ℕ → Case
carved_as of given s known = record { of = of; given = given; says = flatten entry_words (entries_in standard s); known = known }

-- an entry of sequence 3 whose array is said to be at an offset and to have so many numbers, and whose first attribute at first; its bytes from 44 on are these
abbrev pub headed : ℕ → ℕ → ℕ → List ℕ → List ℕ
headed array count first from44 = padded (entry_header array count 3 first ++ from44)

-- P7: a first attribute at 47 is rejected, though an attribute with a name stands there; at 53 it is rejected, since an array at 48 passes it; at 54 it is
-- carved; at 1016 it is rejected with a sound array, though a name stands at 54. The number of the entry, and zeros for the array, take the bytes from 44 up to the name.
abbrev pub begins : ℕ → ℕ → ℕ → List ℕ → Case
begins of first width known = carve_counts of (first ∷ []) (headed 48 3 first (le width 42 ++ name_attribute 1 ++ last)) known

abbrev pub first_attributes : List Case
first_attributes =
    begins 7 47 3 (1024 ∷ 1 ∷ 0 ∷ 1 ∷ [])
    ∷ begins 0 53 9 (1024 ∷ 1 ∷ 0 ∷ 1 ∷ [])
    ∷ begins 0 54 10 (1024 ∷ 1 ∷ 1 ∷ 0 ∷ [])
    ∷ begins 7 1016 10 (1024 ∷ 1 ∷ 0 ∷ 1 ∷ [])
    ∷ []

-- The update sequence array of an entry of zeros but for a name at 560: carved with three numbers at 48 and at 504; rejected with two or four numbers, at an odd
-- offset, at 46, and at 506, where it passes byte 510.
abbrev pub arrayed : ℕ → ℕ → List ℕ → Case
arrayed array count known =
    carve_counts 0 (array ∷ count ∷ []) (headed array count 560 (le 4 42 ++ replicate 512 0 ++ name_attribute 1 ++ last)) known

abbrev pub arrays : List Case
arrays =
    arrayed 48 3 (1024 ∷ 1 ∷ 1 ∷ 0 ∷ [])
    ∷ arrayed 504 3 (1024 ∷ 1 ∷ 1 ∷ 0 ∷ [])
    ∷ arrayed 48 2 (1024 ∷ 1 ∷ 0 ∷ 1 ∷ [])
    ∷ arrayed 48 4 (1024 ∷ 1 ∷ 0 ∷ 1 ∷ [])
    ∷ arrayed 49 3 (1024 ∷ 1 ∷ 0 ∷ 1 ∷ [])
    ∷ arrayed 46 3 (1024 ∷ 1 ∷ 0 ∷ 1 ∷ [])
    ∷ arrayed 506 3 (1024 ∷ 1 ∷ 0 ∷ 1 ∷ [])
    ∷ []

-- the entry whose name begins at an offset: number 42, sequence 3, six bytes, parent 5:5, a directory in use
abbrev pub keeps : ℕ → List ℕ
keeps name = 0 ∷ 42 ∷ 3 ∷ name ∷ 6 ∷ 5 ∷ 5 ∷ 1 ∷ 1 ∷ []

-- Entry 42 as a disk stores it, with an array at an offset and the check value 7: a first attribute of type 80h at 56, and at this offset one with the name abc,
-- namespace 1 and parent 5:5. Its name begins 90 bytes further on, the number of its units stands 88, its namespace 89, and its parent's sequence 30.
abbrev pub name_at : ℕ → ℕ → List ℕ
name_at array a =
    on_disk array 7
    (headed array 3 56 (le 4 42 ++ replicate 8 0 ++ le 4 0x80 ++ le 4 (a - 56) ++ replicate (a - 64) 0 ++ name_attribute 1 ++ last))

-- that entry with its name at 508, so that the second unit ends the first sector, and with these values at the ends of its sectors
abbrev pub across : ℕ → ℕ → List ℕ
across one two = put 1022 (le 2 two) (put 510 (le 2 one) (name_at 48 418))

-- Carved, from the true bytes: a name across the first sector's end; the number of units and the namespace there; the parent's sequence there; arrays at 50 and, with
-- a first attribute at 512 and a name that ends the entry, at 504. Rejected: where an end is not the check value, also where both ends are alike.
abbrev pub last_name : List ℕ
last_name =
    on_disk 504 7
    (headed 504 3 512 (le 4 42 ++ replicate 464 0 ++ le 4 0x80 ++ le 4 416 ++ replicate 408 0 ++ name_attribute 1))

abbrev pub ends : List Case
ends =
    carved_as 0 (418 ∷ []) (name_at 48 418) (keeps 508)
    ∷ carved_as 0 (422 ∷ []) (name_at 48 422) (keeps 512)
    ∷ carved_as 0 (480 ∷ []) (name_at 48 480) (keeps 570)
    ∷ carved_as 0 (50 ∷ []) (name_at 50 418) (keeps 508)
    ∷ carved_as 0 (504 ∷ []) last_name (keeps 1018)
    ∷ carved_as 0 (7 ∷ 7 ∷ []) (across 7 7) (keeps 508)
    ∷ carved_as 0 (8 ∷ 7 ∷ []) (across 8 7) []
    ∷ carved_as 0 (7 ∷ 8 ∷ []) (across 7 8) []
    ∷ carved_as 0 (8 ∷ 8 ∷ []) (across 8 8) []
    ∷ []

-- the text of a stored place of an image, from the restored entry where it lies in one: the whole name; from an odd offset; up to the sector's end; at the second sector's
-- end, with arrays at 48 and at 504, and an array at 50; where an end is not the check value, or neither is; past the entry's end; and in an image too short for the entry
abbrev pub reads_as : List ℕ → ℕ → ℕ → List ℕ → Case
reads_as image offset length known =
    record { of = 0; given = offset ∷ length ∷ []; says = place_text [] image (record { source = 1; offset = offset; length = length }); known = known }

abbrev pub stored : List Case
stored =
    reads_as (across 7 7) 508 6 (0x61 ∷ 0x62 ∷ 0x63 ∷ [])
    ∷ reads_as (across 7 7) 509 4 (0xE6 ∷ 0x88 ∷ 0x80 ∷ 0xE6 ∷ 0x8C ∷ 0x80 ∷ [])
    ∷ reads_as (across 7 7) 510 2 (0x62 ∷ [])
    ∷ reads_as (across 7 7) 1022 2 (0x00 ∷ [])
    ∷ reads_as (name_at 50 418) 508 6 (0x61 ∷ 0x62 ∷ 0x63 ∷ [])
    ∷ reads_as last_name 1018 6 (0x61 ∷ 0x62 ∷ 0x63 ∷ [])
    ∷ reads_as (across 7 8) 508 6 (0x61 ∷ 0x07 ∷ 0x63 ∷ [])
    ∷ reads_as (across 8 8) 508 6 (0x61 ∷ 0x08 ∷ 0x63 ∷ [])
    ∷ reads_as (across 7 7 ++ (0 ∷ [])) 1022 3 (0x07 ∷ [])
    ∷ reads_as (take 1023 (across 7 7)) 508 6 (0x61 ∷ 0x07 ∷ 0x63 ∷ [])
    ∷ []

-- two names of these namespaces, of which the first begins at 146 and the second at 242
abbrev pub both : ℕ → ℕ → List ℕ
both one two = entry_of (name_attribute one ++ name_attribute two)

-- P8: of two names one is kept
abbrev pub of_both : ℕ → ℕ → List ℕ → Case
of_both one two known = carved_as 8 (one ∷ two ∷ []) (both one two) known

abbrev pub namespaces : List Case
namespaces =
    of_both 2 3 (keeps 242)
    ∷ of_both 1 3 (keeps 146)
    ∷ of_both 0 2 (keeps 146)
    ∷ of_both 0 0 (keeps 242)
    ∷ []

-- 1023 bytes of an entry, and a name in the 21st attribute
abbrev pub unseen : List Case
unseen =
    carve_counts 0 [] (take 1023 (entry_of (name_attribute 1))) (1023 ∷ 0 ∷ 0 ∷ 0 ∷ [])
    ∷ carve_counts 0 [] (entry_of (others 19 ++ name_attribute 1)) (1024 ∷ 1 ∷ 1 ∷ 0 ∷ [])
    ∷ carve_counts 0 [] (entry_of (others 20 ++ name_attribute 1)) (1024 ∷ 1 ∷ 0 ∷ 1 ∷ [])
    ∷ []

-- P10: a lone surrogate, and a pair
abbrev pub decodes : List ℕ → List ℕ → Case
decodes units known = record { of = 10; given = units; says = decoded units; known = known }

abbrev pub surrogates : List Case
surrogates =
    decodes (0xD800 ∷ []) (0xEF ∷ 0xBF ∷ 0xBD ∷ [])
    ∷ decodes (0xD83D ∷ 0xDE00 ∷ []) (0xF0 ∷ 0x9F ∷ 0x98 ∷ 0x80 ∷ [])
    ∷ []
