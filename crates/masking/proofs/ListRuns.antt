-- Two runs of the scan over records of version 2 and 3 and an image, with a list of an insert, a seed, a start and nexts whose paths take names from the
-- image; and a reader that is refused. All computed. Assumes nothing.
use Prim.Native.Nat.{ℕ}
use mathlib.Core.Path.{◌≡◌, refl, sym, ◌∙◌}
use mathlib.Core.List.{List, [], ◌∷◌, ◌++◌, map}
use lib.ListN.{replicate}
use Rattle.base.specs.Lists.{every, rows}
use Rattle.base.specs.Outcome.{refused, answered}
use Rattle.base.specs.Refusals.{text_full}
use Rattle.usn_record.specs.Bytes.{le, le_at}
use Rattle.usn_record.specs.Fields.{reference_of, filename_of}
use Rattle.usn_record.specs.Record.{record_of, parsed, listed}
use Rattle.usn_record.specs.Sample.{reference}
use Rattle.utf16.specs.Utf16.{alone, code_points, units_at}
use Rattle.utf16.specs.Utf8.{utf8}
use Rattle.utf16.specs.Text.{decoded}
use Rattle.entry_slots.specs.Names.{inside}
use Rattle.entry_slots.specs.Slots.{same_key, put_at, find_from}
use Rattle.entry_slots.specs.Table.{Table, table, add_found}
use Rattle.additions.specs.Entries.{has_reason, entry_from}
use Rattle.additions.specs.Storing.{add_all, new_keys, adding, storing}
use Rattle.chain.specs.Chain.{is_root, chain}
use Rattle.chain.specs.Tracing.{with_places, in_domain}
use Rattle.chain.specs.declared.ChainEnd.TheVariants.{Root}
use Rattle.path_text.specs.Text.{end_text, image_text, place_text, step_text, path_text}
use Rattle.rewind_records.specs.Environment.{rewind_refusal}
use Rattle.rewind_records.specs.Turning.{ended, turning}
use Rattle.rewind_steps.specs.StepText.{record_text}
use Rattle.rewind.specs.Starting.{starting}
use Rattle.base.specs.Masked.{Masked}
use Rattle.base.specs.Walk.{walk, from}
use Rattle.base.proofs.MaskedLaws.{masked-middle}
use Rattle.usn_record.specs.Names.{name_at}
use Rattle.usn_scan.specs.Scan.{kind_by_version, kind_of, scan_visit, scanned}
use Rattle.usn_scan.specs.Outcome.{scan}
use Rattle.mft_attributes.specs.Filename.{replaces, keep}
use Rattle.mft_attributes.specs.Attributes.{given, attribute_at, filename_in, attribute_visit}
use Rattle.mft_sectors.specs.Signature.{has_signature}
use Rattle.mft_sectors.specs.SectorEnds.{ending, sound, home, restored_by}
use Rattle.mft_sectors.specs.Stored.{in_entry, image_bytes}
use Rattle.mft_carver.specs.Entry.{judged as entry_judged}
use Rattle.mft_carver.specs.Carve.{image_visit, carving as image_carving}
use Rattle.mft_carver.specs.Settings.{standard as image_standard}
use Rattle.mft_carver.specs.Carve.{carving_list as image_list}
use Rattle.base.specs.Refusals.{list_full}
use Rattle.usn_scan.specs.Outcome.{scan_answer}
use Rattle.chain.specs.Chain.{Chain}
use Rattle.chain.specs.Settings.{depth}
use Rattle.chain.specs.Tracing.{tracing}
use Rattle.path.specs.Written.{tracing_with_text}
use Rattle.masking.specs.Calls.{sources, kept, State, Call, plain, next_text, Plain, insert, seed, start, begun, step, Result, stored, start_result, next_result, Done, results, struck, plains_of, results_of}
use Rattle.masking.specs.Calls as call
use Rattle.masking.specs.Demand.{journal_names, scanner, scan_places, Share}
use Rattle.masking.proofs.Demand.{names-decide-nothing}
use Rattle.masking.proofs.Examples.{image, image', entries, images-masked}
use Rattle.masking.proofs.Sample.{units, fixed2, fixed3, key, placed, info, unchanged, one_more}

-- a version 2 record, file 60:1 created in folder 42:3 and named ab; and a version 3 record, file 43 in folder 10, whose new name is cd, or c and a euro
-- sign in run two
abbrev front : List ℕ
front = fixed2 (reference 60 1) (reference 42 3) 0x100 ++ (units 0x61 0x62 ++ fixed3 43 10 0x2000)

abbrev journal : List ℕ
journal = front ++ units 0x63 0x64

abbrev journal' : List ℕ
journal' = front ++ units 0x63 0x20AC

-- folder 42:3 stands in the image, named abc, or a, a euro sign and c in run two: the second unit is the end of a sector
-- the scan with a list of two records
abbrev list : List ℕ
list = replicate 4 0

scan-names : journal_names journal (scan_places journal list) ≡ record { offset = 60; length = 4 } ∷ record { offset = 140; length = 4 } ∷ []
unfolding scan scanned from walk scan_visit kind_of kind_by_version name_at listed parsed record_of filename_of le_at le
scan-names = refl

masked : Masked journal journal' (record { offset = 60; length = 4 } ∷ record { offset = 140; length = 4 } ∷ [])
masked =
    one_more journal journal' (record { offset = 60; length = 4 }) (record { offset = 140; length = 4 } ∷ [])
    (masked-middle front (units 0x63 0x64) (units 0x63 0x20AC) [] refl)

pub scan_runs : Share (scanner list) journal journal' image image' entries
scan_runs = names-decide-nothing.shares (scanner list) journal journal' image image' entries (record { images = images-masked; journals = rw scan-names masked; asked = tt })

-- what the image carver lists of it, in both runs
abbrev carved : List ℕ
carved = 0 ∷ 42 ∷ 3 ∷ 508 ∷ 6 ∷ 5 ∷ 5 ∷ 1 ∷ 1 ∷ []

pub carved-list : image_list image_standard image entries ≡ carved
unfolding image_carving from walk image_visit has_signature sound ending rows home restored_by entry_judged filename_in attribute_visit attribute_at given keep replaces reference_of le_at le
carved-list = refl

pub carved-list' : image_list image_standard image' entries ≡ carved
carved-list' = scan_runs.image_carver.words ∙ carved-list

-- Folder 10:0 is inserted under the name in the image, and the carved entry is seeded; then the records are rewound. In run one eight bytes are enough for
-- either text. In run two the first takes ten, so that 8 refuses it, and it is asked for again; the second record is taken without text.
abbrev first : List Call
first = plain (insert 0 (key 10 0) (info 1 508 6)) ∷ plain (seed 0 carved) ∷ plain (start 0 1) ∷ []

abbrev cs : List Call
cs = first ++ next_text 1 8 ∷ next_text 1 8 ∷ []

abbrev ds : List Call
ds = first ++ next_text 1 8 ∷ next_text 1 10 ∷ plain (call.next 1) ∷ []

-- from tables of four slots
abbrev empty : State
empty = record { tables = kept (replicate 28 0) 0 0 ∷ kept (replicate 28 9) 0 0 ∷ []; chain = replicate 3 0 }

abbrev one : List Done
one = results (sources journal image (scan_places journal list)) cs empty

abbrev two : List Done
two = results (sources journal' image' (scan_places journal' list)) ds empty

abbrev asked : List Plain
asked = insert 0 (key 10 0) (info 1 508 6) ∷ seed 0 carved ∷ start 0 1 ∷ call.next 1 ∷ call.next 1 ∷ []

left_one : plains_of (struck one) ≡ asked
unfolding scan scanned from walk scan_visit kind_of kind_by_version stored start_result next_result storing starting rewind_refusal turning adding add_all add_found put_at new_keys find_from same_key every inside rows has_reason entry_from chain is_root with_places record_text path_text end_text step_text place_text image_text image_bytes in_entry has_signature sound ending home restored_by decoded code_points alone utf8 units_at listed parsed record_of reference_of filename_of le_at le
left_one = refl

left-two : plains_of (struck two) ≡ asked
unfolding scan scanned from walk scan_visit kind_of kind_by_version stored start_result next_result storing starting rewind_refusal turning adding add_all add_found put_at new_keys find_from same_key every inside rows has_reason entry_from chain is_root with_places record_text path_text end_text step_text place_text image_text image_bytes in_entry has_signature sound ending home restored_by decoded code_points alone utf8 units_at listed parsed record_of reference_of filename_of le_at le
left-two = refl

-- the results that are left are the same, though run two took a call more
pub shared-results : results_of (struck two) ≡ results_of (struck one)
shared-results = scan_runs.later.calls empty cs ds (left-two ∙ sym left_one)

-- after each of them the chain list of run one: the chain of either record is a folder whose name lies in the image
pub chains : map (λ (r : Result). r.after.chain) (results_of (struck one))
    ≡ replicate 3 0 ∷ replicate 3 0 ∷ replicate 3 0 ∷ (1 ∷ 508 ∷ 6 ∷ []) ∷ (1 ∷ 508 ∷ 6 ∷ []) ∷ []
unfolding scan scanned from walk scan_visit kind_of kind_by_version stored start_result next_result storing starting rewind_refusal turning adding add_all add_found put_at new_keys find_from same_key every inside rows has_reason entry_from chain is_root with_places record_text path_text end_text step_text place_text image_text image_bytes in_entry has_signature sound ending home restored_by decoded code_points alone utf8 units_at listed parsed record_of reference_of filename_of le_at le
chains = refl

-- The path of the carved folder, in a table of one slot: its text is the image's name, five bytes in run one and seven in run two, where 8 refuses it.
abbrev seeded : Table
seeded = table (42 ∷ 3 ∷ 5 ∷ 5 ∷ 1 ∷ 508 ∷ 6 ∷ []) 1

abbrev folder : Chain
folder = record { places = placed 1 508 6 ∷ []; end = Root }

pub path-texts : (path_text journal image folder ≡ 0x2E ∷ 0x5C ∷ 0x61 ∷ 0x62 ∷ 0x63 ∷ [])
    × (path_text journal' image' folder ≡ 0x2E ∷ 0x5C ∷ 0x61 ∷ 0xE2 ∷ 0x82 ∷ 0xAC ∷ 0x63 ∷ [])
unfolding path_text end_text step_text place_text image_text image_bytes in_entry has_signature sound ending home restored_by rows decoded code_points alone utf8 units_at le_at le
path-texts = (refl, refl)

pub path-in-one : (tracing_with_text journal image seeded depth (key 42 3) 5 ≡ answered folder)
    × (tracing_with_text journal' image' seeded depth (key 42 3) 5 ≡ refused text_full)
unfolding tracing in_domain every inside find_from same_key chain is_root path_text end_text step_text place_text image_text image_bytes in_entry has_signature sound ending home restored_by rows decoded code_points alone utf8 units_at le_at le
path-in-one = (refl, refl)

-- A scan with a list of no words is refused with 5, so that no name of the journal may differ; its list is empty, and a rewind over it is at its end.
abbrev refused_reader : List Done
refused_reader = results (sources journal image' (scan_places journal [])) (plain (start 0 1) ∷ next_text 1 0 ∷ []) empty

pub reader-refused : (scan_answer journal 0 ≡ refused list_full) × (scan_places journal [] ≡ [])
unfolding scan scanned from walk scan_visit kind_of kind_by_version le_at le
reader-refused = (refl, refl)

pub refused-runs : Share (scanner []) journal journal image image' entries
refused-runs =
    names-decide-nothing.shares (scanner []) journal journal image image' entries
    (record { images = images-masked; journals = unchanged journal (journal_names journal (scan_places journal [])); asked = tt })

pub at-the-end : map (λ (d : Done). d.result.outcome) refused_reader ≡ answered (begun (record { used = 0; position = 0 })) ∷ answered (step ended) ∷ []
unfolding scan scanned from walk scan_visit kind_of kind_by_version stored start_result next_result storing starting rewind_refusal turning adding add_all add_found put_at new_keys find_from same_key every inside rows has_reason entry_from chain is_root with_places record_text path_text end_text step_text place_text image_text image_bytes in_entry has_signature sound ending home restored_by decoded code_points alone utf8 units_at listed parsed record_of reference_of filename_of le_at le
at-the-end = refl
