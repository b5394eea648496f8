-- Names decide nothing but text: one claim, `NamesDecideNothing`, at the end. Run one reads a journal and an image; run two the same bytes, but for units
-- that are replaced, one for one, in names that run one got: from the image carver, where they are stored in the image, or from the reader at hand, the scan, the carver or the
-- window, past the fixed parts of their records. `Differ` says what may differ, `Share` all that both runs share then. What run two reads is
-- primed. Lent lists, keys, places and entries are the same in both runs; texts are free.
use Rattle.std.specs.Prelude.{ℕ, ◌≡◌, List, true, length}
use Rattle.base.specs.Outcome.{refused}
use Rattle.base.specs.Refusals.{text_full}
use Rattle.base.specs.Lists.{All}
use Rattle.base.specs.Masked.{Masked, places_of}
use Rattle.base.specs.declared.Place.{Place}
use Rattle.usn_record.specs.Record.{listed}
use Rattle.usn_record.specs.Names.{name_at}
use Rattle.usn_scan.specs.Outcome.{scan, scan_answer, scan_list, listing}
use Rattle.usn_carver.specs.Settings.{standard}
use Rattle.usn_carver.specs.Carve.{events, carving, carving_list}
use Rattle.usn_carver.specs.Masking.{NoOverlap, IfAnswered, carved_records}
use Rattle.window_numbers.specs.Numbers.{window_size}
use Rattle.usn_window.specs.Run.{readings, given_by, fresh_over, shapes, Call as WindowCall}
use Rattle.usn_window.specs.Owed.{Delivery}
use Rattle.mft_carver.specs.Settings.{standard as image_standard}
use Rattle.mft_carver.specs.Carve.{carving as image_carving, carving_list as image_list}
use Rattle.mft_carver.specs.Masking.{carved_entries, carved_homes}
use Rattle.entry_slots.specs.Names.{lengths_of}
use Rattle.entry_slots.specs.Table.{Table}
use Rattle.entry_slots.specs.declared.EntryKey.{EntryKey}
use Rattle.entry_slots.specs.declared.NamePlace.{NamePlace}
use Rattle.chain.specs.Tracing.{tracing, chain_after}
use Rattle.path.specs.Alike.{Alike}
use Rattle.path_text.specs.Decoding.{placing, place_decoding}
use Rattle.path.specs.Written.{tracing_with_text}
use Rattle.masking.specs.Calls.{Sources, sources, State, Call, result_of, results, is_struck, struck, plains_of, results_of}
use Rattle.masking.specs.Promised.{ListsAreCalls}

-- where the names are stored that the image carver of run one got with this list, those of the entries that it listed, none where it was refused: each byte of
-- a name where it lies, or, at the end of a sector, in the entry's update sequence array
abbrev pub image_names : List ℕ → List ℕ → List Place
image_names image entries = carved_homes image_standard image (length entries)

-- the names of the records at these places of a journal, past their fixed parts: the offset field is at least 60 in version 2, 76 in version 3
abbrev pub journal_names : List ℕ → List Place → List Place
journal_names journal places = places_of (λ (p : Place). name_at journal p.offset) places

-- the image carver: its answer with all counters or its refusal, every word of its list, and the entries that it lists
pub record SharedImage (image image' entries : List ℕ) : Type 0 where
  pub outcome : image_carving image_standard image' (length entries) ≡ image_carving image_standard image (length entries)
  pub words : image_list image_standard image' entries ≡ image_list image_standard image entries
  pub carved : carved_entries image_standard image' (length entries) ≡ carved_entries image_standard image (length entries)

-- the records at these places: every field that parsing gives, or its refusal
abbrev pub SharedRecords : List ℕ → List ℕ → List Place → Type 0
SharedRecords journal journal' places = All (λ (p : Place). listed journal' p.offset ≡ listed journal p.offset) places

-- what is struck out of a list of calls: what 8 refused, all of that and nothing else, and each leaves the state as it was
pub record Strikes (s : Sources) : Type 0 where
  pub full : (c : Call) (st : State) → is_struck c (result_of s c st).outcome ≡ true → (result_of s c st).outcome ≡ refused text_full
  pub all : (c : Call) (st : State) → (result_of s c st).outcome ≡ refused text_full → is_struck c (result_of s c st).outcome ≡ true
  pub stays : (c : Call) (st : State) → is_struck c (result_of s c st).outcome ≡ true → (result_of s c st).after ≡ st

-- what comes after the reader, over the sources s in run one and t in run two
pub record Shared (s t : Sources) : Type 0 where
  -- From any one state, by any list of calls in each run: if the same calls are left once the nexts that 8 refused are struck out, then every
  -- result that is left is the same, outcome and state after it.
  pub calls : (st : State) (cs ds : List Call) → plains_of (struck (results t ds st)) ≡ plains_of (struck (results s cs st))
      → results_of (struck (results t ds st)) ≡ results_of (struck (results s cs st))
  pub strikes : Strikes s
  pub strikes' : Strikes t
  -- a path, with any two texts: refused the same, or both have the one chain with its end, unless 8 refuses it
  pub path : (u : Table) (depth : ℕ) (k : EntryKey) (room room' : ℕ)
      → Alike (tracing (lengths_of s.journal s.image) u depth k) (tracing_with_text s.journal s.image u depth k room) (tracing_with_text t.journal t.image u depth k room')
  -- a chain without text: the same outcome, and the same words in its list
  pub chain : (u : Table) (depth : ℕ) (k : EntryKey) → tracing (lengths_of t.journal t.image) u depth k ≡ tracing (lengths_of s.journal s.image) u depth k
  pub chain_list : (u : Table) (depth : ℕ) (k : EntryKey) (l : List ℕ)
      → chain_after (tracing (lengths_of t.journal t.image) u depth k) l ≡ chain_after (tracing (lengths_of s.journal s.image) u depth k) l
  -- a name's text, with any two texts: refused the same, or answered in both, unless 8 refuses it
  pub decode : (p : NamePlace) (room room' : ℕ)
      → Alike (placing (lengths_of s.journal s.image) p) (place_decoding s.journal s.image p room) (place_decoding t.journal t.image p room')

-- The reader at hand: the scan or the carver, with a list, or the window, with a buffer and a list of its calls in each run.
pub data Reader : Type 0 where
  scanner : List ℕ → Reader
  carver : List ℕ → Reader
  window : List ℕ → List ℕ → List WindowCall → List WindowCall → Reader

-- what each lists: the window what it gave, in order, from a fresh one of the journal's length
abbrev pub scan_places : List ℕ → List ℕ → List Place
scan_places journal list = listing (scan journal (length list))

abbrev pub carver_places : List ℕ → List ℕ → List Place
carver_places journal list = carved_records standard journal (length list)

abbrev pub window_places : List ℕ → List ℕ → List WindowCall → List Place
window_places journal buffer cs = given_by (readings cs (fresh_over journal buffer))

-- in run one and in run two
abbrev pub places : Reader → List ℕ → List Place
places (scanner list) journal = scan_places journal list
places (carver list) journal = carver_places journal list
places (window buffer buffer' cs ds) journal = window_places journal buffer cs

abbrev pub places' : Reader → List ℕ → List Place
places' (scanner list) journal' = scan_places journal' list
places' (carver list) journal' = carver_places journal' list
places' (window buffer buffer' cs ds) journal' = window_places journal' buffer' ds

-- what may differ in the window's runs: the bytes of the buffers at the start, and what is given. The calls are the same, with buffers of the same
-- lengths, and give as many bytes; givings that are accepted carry, one after another, each run's own journal from where each refill began, and refused
-- ones anything.
pub record WindowRuns (journal journal' buffer buffer' : List ℕ) (cs ds : List WindowCall) : Type 0 where
  pub whole : length buffer ≡ window_size
  pub whole' : length buffer' ≡ window_size
  pub alike : shapes ds ≡ shapes cs
  pub carries : Delivery journal buffer cs
  pub carries' : Delivery journal' buffer' ds

-- what is asked of the reader besides: of the carver that in an answered call of run one no version 2 record that it carves begins 8 bytes after a
-- version 3 candidate that it rejects
abbrev pub Asked : Reader → List ℕ → List ℕ → Type 0
Asked (scanner list) journal journal' = Unit {0}
Asked (carver list) journal journal' = IfAnswered (carving standard journal (length list)) (NoOverlap (events standard journal))
Asked (window buffer buffer' cs ds) journal journal' = WindowRuns journal journal' buffer buffer' cs ds

-- what the reader answers: the scan's number of records or its refusal, and every word of its list; the carver's counters or its refusal, and every
-- word of its list; of every call of the window the answer, refusals included, and the window after it
pub record ScanShares (journal journal' list : List ℕ) : Type 0 where
  pub answer : scan_answer journal' (length list) ≡ scan_answer journal (length list)
  pub words : scan_list journal' list ≡ scan_list journal list

pub record CarverShares (journal journal' list : List ℕ) : Type 0 where
  pub answer : carving standard journal' (length list) ≡ carving standard journal (length list)
  pub words : carving_list standard journal' list ≡ carving_list standard journal list

pub record WindowShares (journal journal' buffer buffer' : List ℕ) (cs ds : List WindowCall) : Type 0 where
  pub answers : readings ds (fresh_over journal' buffer') ≡ readings cs (fresh_over journal buffer)

abbrev pub ReaderShares : Reader → List ℕ → List ℕ → Type 0
ReaderShares (scanner list) journal journal' = ScanShares journal journal' list
ReaderShares (carver list) journal journal' = CarverShares journal journal' list
ReaderShares (window buffer buffer' cs ds) journal journal' = WindowShares journal journal' buffer buffer' cs ds

-- what may differ
pub record Differ (r : Reader) (journal journal' image image' entries : List ℕ) : Type 0 where
  pub images : Masked image image' (image_names image entries)
  pub journals : Masked journal journal' (journal_names journal (places r journal))
  pub asked : Asked r journal journal'

-- what is shared: by the image carver; by the reader, with its list and the records there; and by all that comes after it, each run over its own list
pub record Share (r : Reader) (journal journal' image image' entries : List ℕ) : Type 0 where
  pub image_carver : SharedImage image image' entries
  pub reader : ReaderShares r journal journal'
  pub listed_same : places' r journal' ≡ places r journal
  pub records : SharedRecords journal journal' (places r journal)
  pub later : Shared (sources journal image (places r journal)) (sources journal' image' (places' r journal'))

-- The claim, of every reader, with lists of calls that are those of the calls' contracts.
pub record NamesDecideNothing : Type 0 where
  pub shares : (r : Reader) (journal journal' image image' entries : List ℕ) → Differ r journal journal' image image' entries → Share r journal journal' image image' entries
  pub lists : ListsAreCalls
