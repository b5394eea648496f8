-- One list of calls with the outcome of each and the state after it written out: inserts, seeds, a start, an insert into the forward table, nexts with and
-- without text, and a refused one of each. Computed. Assumes nothing.
use Prim.Native.Nat.{ℕ}
use mathlib.Core.Path.{◌≡◌, refl}
use mathlib.Core.List.{List, [], ◌∷◌, ◌++◌, map}
use lib.ListN.{replicate}
use Rattle.base.specs.Lists.{every, rows}
use Rattle.base.specs.Outcome.{Outcome, refused, answered}
use Rattle.base.specs.Refusals.{bad_state, name_outside, table_full, text_full}
use Rattle.usn_record.specs.Bytes.{le, le_at}
use Rattle.usn_record.specs.Fields.{reference_of, filename_of}
use Rattle.usn_record.specs.Record.{record_of, parsed, listed}
use Rattle.usn_record.specs.Sample.{reference}
use Rattle.utf16.specs.Utf16.{alone, code_points, units_at}
use Rattle.utf16.specs.Utf8.{utf8}
use Rattle.utf16.specs.Text.{decoded}
use Rattle.entry_slots.specs.Names.{inside}
use Rattle.entry_slots.specs.Slots.{same_key, put_at, find_from}
use Rattle.entry_slots.specs.Table.{table, add_found}
use Rattle.additions.specs.Entries.{has_reason, entry_from}
use Rattle.additions.specs.Storing.{add_all, new_keys, adding, storing}
use Rattle.chain.specs.Chain.{is_root, chain}
use Rattle.chain.specs.Tracing.{with_places}
use Rattle.chain.specs.declared.ChainEnd.TheVariants.{Root}
use Rattle.mft_sectors.specs.Stored.{in_entry, image_bytes}
use Rattle.path_text.specs.Text.{end_text, place_text, step_text, path_text, image_text}
use Rattle.rewind_records.specs.Environment.{rewind_refusal}
use Rattle.rewind_records.specs.Turning.{ended, next, turning}
use Rattle.rewind_steps.specs.StepText.{record_text}
use Rattle.rewind.specs.Starting.{starting}
use Rattle.rewind.specs.Stepping.{state_of}
use Rattle.rewind_run.specs.Running.{tested_run}
use Rattle.rewind_run.specs.Calls.{rooms, call_rooms}
use Rattle.masking.specs.Calls.{Sources, sources, kept, State, Call, plain, next_text, insert, insert_if_absent, seed, start, hand, lend, Answer, used, begun, step, nothing, stored, start_result, next_result, handed, lent, Done, results, struck, plains_of, results_of}
use Rattle.masking.specs.Calls as call
use Rattle.masking.proofs.Sample.{units, fixed2, fixed3, key, placed, info}

-- a journal of two records: version 2, file 42:3 created in folder 10:0, named ab; and version 3, file 43 in folder 10 with a new name, cd
abbrev journal : List ℕ
journal = fixed2 (reference 42 3) (reference 10 0) 0x100 ++ (units 0x61 0x62 ++ (fixed3 43 10 0x2000 ++ units 0x63 0x64))

-- and an image of four units
abbrev image : List ℕ
image = units 0x61 0x62 ++ units 0x63 0x64

abbrev source : Sources
source = sources journal image (record { offset = 0; length = 64 } ∷ record { offset = 64; length = 80 } ∷ [])

-- slots: the folder under its first name and under its second, two carved entries, the two records, and one more
abbrev folder : List ℕ
folder = 10 ∷ 0 ∷ 5 ∷ 5 ∷ 1 ∷ 0 ∷ 2 ∷ []

abbrev renamed : List ℕ
renamed = 10 ∷ 0 ∷ 5 ∷ 5 ∷ 1 ∷ 2 ∷ 2 ∷ []

abbrev carved : List ℕ
carved = 20 ∷ 2 ∷ 10 ∷ 0 ∷ 1 ∷ 4 ∷ 2 ∷ 21 ∷ 2 ∷ 20 ∷ 2 ∷ 1 ∷ 6 ∷ 2 ∷ []

abbrev first : List ℕ
first = 42 ∷ 3 ∷ 10 ∷ 0 ∷ 0 ∷ 60 ∷ 4 ∷ []

abbrev second : List ℕ
second = 43 ∷ 0 ∷ 10 ∷ 0 ∷ 0 ∷ 140 ∷ 4 ∷ []

abbrev other : List ℕ
other = 30 ∷ 1 ∷ 5 ∷ 5 ∷ 0 ∷ 0 ∷ 0 ∷ []

-- the flat lists of two carved entries, and of three that are one too many
abbrev two : List ℕ
two = 0 ∷ 20 ∷ 2 ∷ 4 ∷ 2 ∷ 10 ∷ 0 ∷ 0 ∷ 1 ∷ 1024 ∷ 21 ∷ 2 ∷ 6 ∷ 2 ∷ 20 ∷ 2 ∷ 0 ∷ 1 ∷ []

abbrev three : List ℕ
three =
    0 ∷ 22 ∷ 1 ∷ 0 ∷ 2 ∷ 5 ∷ 5 ∷ 0 ∷ 1 ∷ 0 ∷ 23 ∷ 1 ∷ 0 ∷ 2 ∷ 5 ∷ 5 ∷ 0 ∷ 1 ∷ 0 ∷ 24 ∷ 1 ∷ 0 ∷ 2 ∷ 5 ∷ 5 ∷ 0 ∷ 1 ∷ []

-- Tables of five and of six slots. At first the one is empty, with 4 as its position, and the other holds nines, of which 3 slots are used, with 9 as its
-- position; the chain list has four words.
abbrev empty : List ℕ
empty = replicate 35 0

abbrev nines : List ℕ
nines = replicate 42 9

abbrev eights : List ℕ
eights = replicate 4 8

-- a state by the words and the used slots of the first table, by the second with its numbers, and by the chain list
abbrev state : List ℕ → ℕ → List ℕ → ℕ → ℕ → List ℕ → State
state a m b n position chain = record { tables = kept a m 4 ∷ kept b n position ∷ []; chain = chain }

-- the words of the tables as they come
abbrev seeded : List ℕ
seeded = renamed ++ (carved ++ replicate 14 0)

abbrev rewound : List ℕ
rewound = renamed ++ (carved ++ (second ++ first))

abbrev copy : List ℕ
copy = rewound ++ replicate 7 9

abbrev entered : List ℕ
entered = rewound ++ other

abbrev once : List ℕ
once = renamed ++ (carved ++ (first ++ (first ++ other)))

abbrev twice : List ℕ
twice = renamed ++ (carved ++ (first ++ (second ++ other)))

abbrev row : Call → Outcome Answer → State → Done
row c o st = record { call = c; result = record { outcome = o; after = st } }

-- Inserts: a new key; a known one, which stays, and is replaced; a name outside the image. Seeds: two entries; more than there is room for. Starts: over a
-- table whose names lie outside the image; over the first table into the second. An insert into the second. Nexts with more used slots than there are
-- slots: 9, without text and with it.
abbrev before : List Done
before =
    row (plain (insert 0 (key 10 0) (info 1 0 2))) (answered (used 1)) (state (folder ++ replicate 28 0) 1 nines 3 9 eights)
    ∷ row (plain (insert_if_absent 0 (key 10 0) (info 1 2 2))) (answered (used 1)) (state (folder ++ replicate 28 0) 1 nines 3 9 eights)
    ∷ row (plain (insert 0 (key 10 0) (info 1 2 2))) (answered (used 1)) (state (renamed ++ replicate 28 0) 1 nines 3 9 eights)
    ∷ row (plain (insert 0 (key 11 0) (info 1 7 2))) (refused name_outside) (state (renamed ++ replicate 28 0) 1 nines 3 9 eights)
    ∷ row (plain (insert_if_absent 0 (key 11 0) (info 1 7 2))) (refused name_outside) (state (renamed ++ replicate 28 0) 1 nines 3 9 eights)
    ∷ row (plain (seed 0 two)) (answered (used 3)) (state seeded 3 nines 3 9 eights)
    ∷ row (plain (seed 0 three)) (refused table_full) (state seeded 3 nines 3 9 eights)
    ∷ row (plain (start 1 0)) (refused name_outside) (state seeded 3 nines 3 9 eights)
    ∷ row (plain (start 0 1)) (answered (begun (state_of 5 0))) (state rewound 5 copy 5 0 eights)
    ∷ row (plain (insert 1 (key 30 1) (info 0 0 0))) (answered (used 6)) (state rewound 5 entered 6 0 eights)
    ∷ row (plain (hand 1 (state_of 7 0))) (answered nothing) (state rewound 5 entered 7 0 eights)
    ∷ row (plain (call.next 1)) (refused bad_state) (state rewound 5 entered 7 0 eights)
    ∷ row (next_text 1 6) (refused bad_state) (state rewound 5 entered 7 0 eights)
    ∷ row (plain (hand 1 (state_of 3 0))) (answered nothing) (state rewound 5 entered 3 0 eights)
    ∷ []

-- a next with too little room for its text
abbrev full : Done
full = row (next_text 1 5) (refused text_full) (state rewound 5 entered 3 0 eights)

-- a next with enough, which has the folder's place in the chain list; a chain list without room, and a next without text; and the end of the records
abbrev afterwards : List Done
afterwards =
    row (next_text 1 6) (answered (step (next (record { table = table once 4; chain = record { places = placed 1 2 2 ∷ []; end = Root }; name = placed 0 60 4 }))))
    (state rewound 5 once 4 1 (1 ∷ 2 ∷ 2 ∷ 8 ∷ []))
    ∷ row (plain (lend (7 ∷ 7 ∷ []))) (answered nothing) (state rewound 5 once 4 1 (7 ∷ 7 ∷ []))
    ∷ row (plain (call.next 1)) (answered (step (next (record { table = table twice 5; chain = record { places = placed 1 2 2 ∷ []; end = Root }; name = placed 0 140 4 }))))
    (state rewound 5 twice 5 2 (7 ∷ 7 ∷ []))
    ∷ row (next_text 1 0) (answered (step ended)) (state rewound 5 twice 5 2 (7 ∷ 7 ∷ []))
    ∷ []

pub computed : results source (map (λ (d : Done). d.call) (before ++ full ∷ afterwards)) (state empty 0 nines 3 9 eights) ≡ before ++ full ∷ afterwards
unfolding stored start_result next_result handed lent storing starting rewind_refusal turning adding add_all add_found put_at new_keys find_from same_key every inside rows has_reason entry_from chain is_root with_places record_text path_text end_text step_text place_text image_text image_bytes in_entry decoded code_points alone utf8 units_at listed parsed record_of reference_of filename_of le_at le
computed = refl

-- the next that 8 refused is struck out, and no other
pub left : struck (before ++ full ∷ afterwards) ≡ before ++ afterwards
left = refl

-- what two runs compare of a list: which calls they are, whether with text or not, and with what results
pub compared : (plains_of (full ∷ afterwards) ≡ call.next 1 ∷ call.next 1 ∷ lend (7 ∷ 7 ∷ []) ∷ call.next 1 ∷ call.next 1 ∷ [])
    × (results_of (full ∷ []) ≡ record { outcome = refused text_full; after = state rewound 5 entered 3 0 eights } ∷ [])
compared = (refl, refl)

-- A run of up to three steps over the second table, with twenty bytes for text, stands for three nexts with text: two records of six bytes each, and the end; where
-- none is asked for, for none. With more used slots than there are slots it stands for one next, which is refused, also where none is asked for.
pub runs : (call_rooms journal image source.records entered (state_of 3 0) 20 3 ≡ 20 ∷ 14 ∷ 8 ∷ [])
    × (call_rooms journal image source.records entered (state_of 3 0) 20 0 ≡ [])
    × (call_rooms journal image source.records entered (state_of 7 0) 20 3 ≡ 20 ∷ [])
    × (call_rooms journal image source.records entered (state_of 7 0) 20 0 ≡ 20 ∷ [])
unfolding tested_run rooms rewind_refusal turning adding add_all add_found put_at new_keys find_from same_key every inside rows has_reason entry_from chain is_root with_places record_text path_text end_text step_text place_text image_text image_bytes in_entry decoded code_points alone utf8 units_at listed parsed record_of reference_of filename_of le_at le
runs = (refl, refl, refl, refl)
