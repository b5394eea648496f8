-- The carving of MFT entries from an image: the events of a whole image, what is counted and listed of them, and the outcome of the call.
use Rattle.std.specs.Prelude.{ℕ, suc, ◌+◌, ◌/◌, List, [], ◌∷◌, Bool, cond, length, ltb}
use Rattle.base.specs.Outcome.{Outcome, refused, answered}
use Rattle.base.specs.Lists.{flatten, list_after}
use Rattle.base.specs.Places.{part}
use Rattle.base.specs.Refusals.{above_domain, list_full, domain}
use Rattle.base.specs.Walk.{Visit, stop, go, from}
use Rattle.mft_sectors.specs.Signature.{has_signature}
use Rattle.mft_carver.specs.declared.Settings.{Settings}
use Rattle.mft_carver.specs.Entry.{Event, rejected, carved, judged}
use Rattle.mft_carver.specs.declared.CarvedMftEntry.{CarvedMftEntry}
use Rattle.mft_carver.specs.declared.MftCarvingStats.{MftCarvingStats}

-- the bytes of the entry at o, as stored
abbrev pub entry_bytes : Settings → List ℕ → ℕ → List ℕ
entry_bytes st s o = part s o st.size

-- what stands at o: nothing without the signature
abbrev pub events_at : Settings → ℕ → List ℕ → List Event
events_at st o e = cond (has_signature e) (judged st o e ∷ []) []

-- a visit of o, while a whole entry fits
unfoldable pub image_visit : Settings → List ℕ → ℕ → Visit Event
image_visit st s o = cond (ltb (length s) (o + st.size)) stop (go (events_at st o (entry_bytes st s o)) (o + st.size))

-- the events from o on, and those of the whole image
abbrev pub events_from : Settings → List ℕ → ℕ → List Event
events_from st s = from (image_visit st s) (length s)

abbrev pub events : Settings → List ℕ → List Event
events st s = events_from st s 0

-- the carved entries, in order
abbrev pub entries : List Event → List CarvedMftEntry
entries [] = []
entries (rejected o ∷ es) = entries es
entries (carved x ∷ es) = x ∷ entries es

-- how many are rejected
abbrev pub rejections : List Event → ℕ
rejections [] = 0
rejections (rejected o ∷ es) = suc (rejections es)
rejections (carved x ∷ es) = rejections es

-- the counters of a run over so many bytes: every event is a candidate that was met
abbrev pub stats_of : ℕ → List Event → MftCarvingStats
stats_of size es =
    record {
      bytes_scanned = size;
      candidates_examined = length es;
      entries_carved = length (entries es);
      rejected = rejections es;
    }

-- the entries that are carved from s, and the counters
abbrev pub entries_in : Settings → List ℕ → List CarvedMftEntry
entries_in st s = entries (events st s)

abbrev pub stats_in : Settings → List ℕ → MftCarvingStats
stats_in st s = stats_of (length s) (events st s)

-- the words of an entry in a lent list: a word a field, a name's place two
abbrev pub entry_stride : ℕ
entry_stride = 9

abbrev pub flag : Bool → ℕ
flag b = cond b 1 0

abbrev pub entry_words : CarvedMftEntry → List ℕ
entry_words x =
    x.offset
    ∷ x.entry_number
    ∷ x.sequence_number
    ∷ x.filename.offset
    ∷ x.filename.length
    ∷ x.parent_entry
    ∷ x.parent_sequence
    ∷ flag x.is_directory
    ∷ flag x.is_in_use
    ∷ []

-- the counters as words
abbrev pub stats_words : MftCarvingStats → List ℕ
stats_words c = c.bytes_scanned ∷ c.candidates_examined ∷ c.entries_carved ∷ c.rejected ∷ []

-- the outcome of a call whose list has so many words
unfoldable pub carving : Settings → List ℕ → ℕ → Outcome MftCarvingStats
carving st s words =
    cond (ltb domain (length s)) (refused above_domain)
    (cond (ltb (words / entry_stride) (length (entries_in st s))) (refused list_full)
    (answered (stats_in st s)))

-- what the lent list l holds after that call
abbrev pub carving_list : Settings → List ℕ → List ℕ → List ℕ
carving_list st s l = list_after (λ _. flatten entry_words (entries_in st s)) (carving st s (length l)) l
