-- For each reader two runs that really differ, and calls over them of which 8 refuses one in run two alone. All computed. Assumes nothing.
use Prim.Native.Nat.{ℕ}
use mathlib.Core.Path.{◌≡◌, refl, sym, ap, ◌∙◌}
use mathlib.Core.List.Memᴰ
use mathlib.Core.List.{List, [], ◌∷◌, ◌++◌, map}
use mathlib.Core.Logic.{⊎_elim}
use native.Mathlib.Omega.{arith}
use lib.ListN.{length, get_or, replicate}
use lib.Seq.{take_all}
use Rattle.base.specs.Masked.{Masked}
use Rattle.base.specs.Outcome.{Outcome, refused, answered}
use Rattle.base.specs.Refusals.{text_full}
use Rattle.base.specs.Walk.{walk, from}
use Rattle.base.specs.declared.Place.{Place}
use Rattle.base.proofs.MaskedLaws.{masked-middle}
use Rattle.usn_record.specs.Bytes.{le, le_at, le_bytes}
use Rattle.usn_record.specs.Fields.{reference_of, filename_of}
use Rattle.usn_record.specs.Names.{name_at}
use Rattle.usn_record.specs.Record.{record_of, parsed, listed}
use Rattle.usn_record.specs.Sample.{created_fixed, sample_record, record_e}
use Rattle.usn_scan.specs.Scan.{kind_by_version, kind_of, scan_visit, scanned}
use Rattle.usn_scan.specs.Outcome.{scan, scan_answer, scan_list}
use Rattle.usn_carver.specs.Settings.{standard}
use Rattle.usn_carver.specs.Events.{carved}
use Rattle.usn_carver.specs.Carve.{judged, carver_visit_as, carving, carving_list, carver_visit}
use Rattle.usn_carver.specs.Masking.{NoOverlap, IfAnswered}
use Rattle.usn_carver.proofs.Examples.{E-carved}
use Rattle.window_numbers.specs.Numbers.{window_size, wrong_end, wrong_numbers, numbers_refusal}
use Rattle.usn_window.specs.Window.{wanted_of}
use Rattle.usn_window.specs.Rule.{named_from, turn_by_length, turn_of, turns, searched}
use Rattle.usn_window.specs.Calls.{next_of, give_refusal, give_of}
use Rattle.usn_window.specs.Run.{Call, next, give, give_other, reading_of, given_by, fresh_over, shapes}
use Rattle.usn_window.specs.Owed.{nothing, owed_reached, Delivery}
use Rattle.usn_window.specs.declared.Reading.{Reading}
use Rattle.usn_window.proofs.RunLaws.{journal_reading, journal_readings, run-journal}
use Rattle.usn_window.proofs.CountLaws.{delivery-carries}
use Rattle.usn_window.proofs.TwoRuns.{fresh-filled}
use Rattle.mft_attributes.specs.Filename.{replaces, keep}
use Rattle.mft_attributes.specs.Attributes.{given, attribute_at, filename_in, attribute_visit}
use Rattle.mft_sectors.specs.Signature.{has_signature}
use Rattle.mft_sectors.specs.SectorEnds.{ending, sound, home, restored_by}
use Rattle.mft_carver.specs.Entry.{judged as entry_judged}
use Rattle.mft_carver.specs.Carve.{image_visit, carving as image_carving, carving_list as image_list}
use Rattle.mft_carver.specs.Settings.{standard as image_standard}
use Rattle.mft_carver.specs.Masking.{carved_entries}
use Rattle.mft_carver.specs.Sample.{across}
use Rattle.utf16.specs.Utf16.{alone, code_points, units_at}
use Rattle.utf16.specs.Utf8.{utf8}
use Rattle.utf16.specs.Text.{decoded}
use Rattle.entry_slots.specs.Names.{lengths, lengths_of, inside}
use Rattle.entry_slots.specs.Slots.{same_key, put_at, find_from}
use Rattle.base.specs.Lists.{rows, every}
use Rattle.entry_slots.specs.Table.{Table, add_found}
use Rattle.additions.specs.Storing.{add_all, new_keys, adding}
use Rattle.entry_slots.specs.declared.EntryKey.{EntryKey}
use Rattle.entry_slots.specs.declared.NamePlace.{NamePlace}
use Rattle.chain.specs.Chain.{is_root, chain}
use Rattle.chain.specs.Tracing.{in_domain, tracing, chain_after, with_places}
use Rattle.path_text.specs.Text.{end_text, place_text, step_text, path_text}
use Rattle.path.specs.Alike.{Alike}
use Rattle.path_text.specs.Decoding.{placing, place_decoding}
use Rattle.path.specs.Written.{tracing_with_text}
use Rattle.additions.specs.Entries.{has_reason, entry_from}
use Rattle.rewind_records.specs.Environment.{rewind_refusal}
use Rattle.rewind.specs.Starting.{starting}
use Rattle.rewind_records.specs.Turning.{turning}
use Rattle.rewind_steps.specs.StepText.{record_text}
use Rattle.masking.specs.Calls.{sources, kept, State, kept_at, plain, next_text, start, Result, start_result, next_result, Done, results, struck, plains_of, results_of}
use Rattle.masking.specs.Calls as call
use Rattle.masking.specs.Demand.{image_names, journal_names, SharedRecords, scanner, carver, window, scan_places, carver_places, window_places, Share}
use Rattle.masking.proofs.Demand.{names-decide-nothing}
use Rattle.masking.proofs.Sample.{name_homes, units-masked}

-- run one's journal, a record named ab, and run two's, whose first unit is a euro sign, which takes two bytes more in UTF-8
abbrev pub journal : List ℕ
journal = record_e

abbrev pub journal' : List ℕ
journal' = sample_record 0x20AC 0x62

pub journals-differ : journal' ≡ journal → ⊥
journals-differ e = let z : ◌≡◌ {A = ℕ} 0xAC 0x61 = ap (λ (s : List ℕ). get_or s 60 0) e in omega arith

-- with lists of one record and of one entry
abbrev pub list : List ℕ
list = 0 ∷ 0 ∷ []

abbrev pub entries : List ℕ
entries = replicate 9 0

-- images of one entry whose name has a b at the end of a sector in run one, and a euro sign in run two
abbrev pub image : List ℕ
image = across 0x62

abbrev pub image' : List ℕ
image' = across 0x20AC

image-names : image_names image entries ≡ name_homes
unfolding image_carving from walk image_visit has_signature sound ending rows home restored_by entry_judged filename_in attribute_visit attribute_at given keep replaces reference_of le_at le
image-names = refl

pub images-masked : Masked image image' (image_names image entries)
images-masked = rw image-names units-masked

pub images-differ : image' ≡ image → ⊥
images-differ e = let z : ◌≡◌ {A = ℕ} 0xAC 0x62 = ap (λ (s : List ℕ). get_or s 50 0) e in omega arith

-- the name of the one record
abbrev pub name : List Place
name = record { offset = 60; length = 4 } ∷ []

pub masked : Masked journal journal' name
masked = masked-middle created_fixed (le_bytes 2 0x61 ++ le_bytes 2 0x62) (le_bytes 2 0x20AC ++ le_bytes 2 0x62) [] refl

-- the scan
scan-names : journal_names journal (scan_places journal list) ≡ name
unfolding scan scanned from walk scan_visit kind_of kind_by_version name_at listed parsed record_of filename_of le_at le
scan-names = refl

pub scan_runs : Share (scanner list) journal journal' image image' entries
scan_runs = names-decide-nothing.shares (scanner list) journal journal' image image' entries (record { images = images-masked; journals = rw scan-names masked; asked = tt })

-- the carver
carver-names : journal_names journal (carver_places journal list) ≡ name
unfolding carving from walk carver_visit carver_visit_as judged name_at listed parsed record_of filename_of le_at le
carver-names = refl

lone : NoOverlap (carved 0 2 64 ∷ [])
lone why o n x y = ⊎_elim (λ e. let z : ◌≡◌ {A = ℕ} 0 1 = cc in absurd (omega arith)) Memᴰ.not-nil (Memᴰ.cases_cons x)

if-answered : {A : Type 0} (o : Outcome A) {P : Type 0} → P → IfAnswered o P
if-answered (refused n) h = tt
if-answered (answered a) h = h

pub carver-runs : Share (carver list) journal journal' image image' entries
carver-runs =
    names-decide-nothing.shares (carver list) journal journal' image image' entries
    (record { images = images-masked; journals = rw carver-names masked; asked = if-answered (carving standard journal 2) (rw E-carved lone) })

-- The window: ask; give a byte x with a buffer of no bytes, which 11 refuses, so that x may be anything; give the whole journal; ask twice.
abbrev calls : ℕ → List ℕ → List Call
calls x s = next ∷ give_other [] (x ∷ []) ∷ give s ∷ next ∷ next ∷ []

given-one : given_by (journal_readings journal (shapes (calls 7 journal)) (fresh_over journal []).window) ≡ record { offset = 0; length = 64 } ∷ []
unfolding journal_reading next_of give_of give_refusal numbers_refusal wanted_of wrong_numbers wrong_end searched turns turn_of turn_by_length named_from listed parsed record_of filename_of le_at le
given-one = refl

module _ (x : ℕ) (s b : List ℕ) (es : length s ≡ 64) (eb : length b ≡ window_size) where
  -- a journal of 64 bytes is owed from its first byte on, after a giving that was refused too
  waits : (owed_reached (next ∷ give_other [] (x ∷ []) ∷ []) nothing (fresh_over s b)).from ≡ 0
  unfolding reading_of next_of give_of give_refusal numbers_refusal wanted_of wrong_numbers wrong_end searched turns turn_of
  waits = rw (eb, es) refl

  carries : Delivery s b (calls x s)
  carries = (tt, ((λ e. omega arith), ((λ _. rw waits (sym (take_all (length s) s (omega arith)))), (tt, (tt, tt)))))

module _ (b c : List ℕ) (eb : length b ≡ window_size) (ec : length c ≡ window_size) where
  window-names : journal_names journal (window_places journal b (calls 7 journal)) ≡ name
  unfolding name_at listed parsed record_of filename_of le_at le
  window-names =
      ap (λ (xs : List Reading). journal_names journal (given_by xs))
      (run-journal journal (calls 7 journal) (fresh_over journal b) (fresh-filled journal b eb) (delivery-carries journal b (calls 7 journal) (carries 7 journal b refl eb)))
      ∙ ap (journal_names journal) given-one

  pub window-runs : Share (window b c (calls 7 journal) (calls 8 journal')) journal journal' image image' entries
  window-runs =
      names-decide-nothing.shares (window b c (calls 7 journal) (calls 8 journal')) journal journal' image image' entries
      (record {
        images = images-masked;
        journals = rw window-names masked;
        asked = record { whole = eb; whole' = ec; alike = refl; carries = carries 7 journal b refl eb; carries' = carries 8 journal' c refl ec };
      })

-- The text of the name, with room for two bytes: run one has it, and 8 refuses run two, whose text takes four.
abbrev place : NamePlace
place = record { source = 0; offset = 60; length = 4 }

pub texts : (place_text journal image place ≡ 0x61 ∷ 0x62 ∷ []) × (place_text journal' image' place ≡ 0xE2 ∷ 0x82 ∷ 0xAC ∷ 0x62 ∷ [])
unfolding place_text decoded code_points alone utf8 units_at le_at le
texts = (refl, refl)

pub decoded-in-one : (place_decoding journal image place 2 ≡ answered place) × (place_decoding journal' image' place 2 ≡ refused text_full)
unfolding placing in_domain inside place_text decoded code_points alone utf8 units_at le_at le
decoded-in-one = (refl, refl)

-- So it is with a rewind, from empty tables of one slot: run one's next has room for the four bytes of its path, run two's is refused with 8 and asked
-- again with more room.
abbrev empty : State
empty = record { tables = kept (replicate 7 0) 0 0 ∷ kept (replicate 7 9) 0 0 ∷ []; chain = [] }

abbrev one : List Done
one = results (sources journal image (scan_places journal list)) (plain (start 0 1) ∷ next_text 1 4 ∷ []) empty

abbrev two : List Done
two = results (sources journal' image' (scan_places journal' list)) (plain (start 0 1) ∷ next_text 1 4 ∷ next_text 1 6 ∷ []) empty

left_one : plains_of (struck one) ≡ start 0 1 ∷ call.next 1 ∷ []
unfolding scan scanned from walk scan_visit kind_of kind_by_version start_result next_result starting rewind_refusal turning adding add_all add_found put_at new_keys find_from same_key every inside rows has_reason entry_from chain is_root with_places record_text path_text end_text step_text place_text decoded code_points alone utf8 units_at listed parsed record_of reference_of filename_of le_at le
left_one = refl

left-two : plains_of (struck two) ≡ start 0 1 ∷ call.next 1 ∷ []
unfolding scan scanned from walk scan_visit kind_of kind_by_version start_result next_result starting rewind_refusal turning adding add_all add_found put_at new_keys find_from same_key every inside rows has_reason entry_from chain is_root with_places record_text path_text end_text step_text place_text decoded code_points alone utf8 units_at listed parsed record_of reference_of filename_of le_at le
left-two = refl

-- in run one the start stands before the first record, and the next is past it
pub positions : map (λ (r : Result). (kept_at 1 r.after).position) (results_of (struck one)) ≡ 0 ∷ 1 ∷ []
unfolding scan scanned from walk scan_visit kind_of kind_by_version start_result next_result starting rewind_refusal turning adding add_all add_found put_at new_keys find_from same_key every inside rows has_reason entry_from chain is_root with_places record_text path_text end_text step_text place_text decoded code_points alone utf8 units_at listed parsed record_of reference_of filename_of le_at le
positions = refl

-- and what is left of run two is the same, though it took a call more
pub rewound : results_of (struck two) ≡ results_of (struck one)
rewound = scan_runs.later.calls empty (plain (start 0 1) ∷ next_text 1 4 ∷ []) (plain (start 0 1) ∷ next_text 1 4 ∷ next_text 1 6 ∷ []) (left-two ∙ sym left_one)

-- What the runs share, written out: by the image carver, by the scan and the carver with their lists, and by paths, chains and names over any table.
pub image-written : (image_carving image_standard image' 9 ≡ image_carving image_standard image 9)
    × ((image_list image_standard image' entries ≡ image_list image_standard image entries)
    × (carved_entries image_standard image' 9 ≡ carved_entries image_standard image 9))
image-written = (scan_runs.image_carver.outcome, (scan_runs.image_carver.words, scan_runs.image_carver.carved))

pub scan-written : (scan_answer journal' 2 ≡ scan_answer journal 2) × ((scan_list journal' list ≡ scan_list journal list) × (scan_places journal' list ≡ scan_places journal list))
scan-written = (scan_runs.reader.answer, (scan_runs.reader.words, scan_runs.listed_same))

scan-listed : scan_places journal list ≡ record { offset = 0; length = 64 } ∷ []
unfolding scan scanned from walk scan_visit kind_of kind_by_version le_at le
scan-listed = refl

pub record-written : listed journal' 0 ≡ listed journal 0
record-written = let k : SharedRecords journal journal' (record { offset = 0; length = 64 } ∷ []) = rw scan-listed at scan_runs.records in k.0

pub carver-written : (carving standard journal' 2 ≡ carving standard journal 2)
    × ((carving_list standard journal' list ≡ carving_list standard journal list) × (carver_places journal' list ≡ carver_places journal list))
carver-written = (carver-runs.reader.answer, (carver-runs.reader.words, carver-runs.listed_same))

module _ (u : Table) (depth : ℕ) (k : EntryKey) where
  pub path-written : (room room' : ℕ) → Alike (tracing (lengths 64 1024) u depth k) (tracing_with_text journal image u depth k room) (tracing_with_text journal' image' u depth k room')
  path-written room room' = scan_runs.later.path u depth k room room'

  pub chain-written : (l : List ℕ) → chain_after (tracing (lengths_of journal' image') u depth k) l ≡ chain_after (tracing (lengths_of journal image) u depth k) l
  chain-written l = scan_runs.later.chain_list u depth k l

pub decode-written : (p : NamePlace) (room room' : ℕ) → Alike (placing (lengths 64 1024) p) (place_decoding journal image p room) (place_decoding journal' image' p room')
decode-written p room room' = scan_runs.later.decode p room room'
