-- What the second of two carving runs may replace: the true bytes of the names of the entries that the first one lists, where they are stored.
use Rattle.std.specs.Prelude.{ℕ, List}
use Rattle.base.specs.Masked.{places_of}
use Rattle.base.specs.Outcome.{listed_by}
use Rattle.base.specs.declared.Place.{Place}
use Rattle.mft_sectors.specs.Homes.{homes}
use Rattle.mft_carver.specs.declared.Settings.{Settings}
use Rattle.mft_carver.specs.Carve.{entry_bytes, entries_in, carving}
use Rattle.mft_carver.specs.declared.CarvedMftEntry.{CarvedMftEntry}

-- the entries that a call with a list of so many words lists
abbrev pub carved_entries : Settings → List ℕ → ℕ → List CarvedMftEntry
carved_entries st s words = listed_by (λ _. entries_in st s) (carving st s words)

-- the homes of the bytes of a carved entry's name, and those of all that are listed
abbrev pub homes_of : Settings → List ℕ → CarvedMftEntry → List Place
homes_of st s x = homes (entry_bytes st s x.offset) x.offset x.filename

abbrev pub carved_homes : Settings → List ℕ → ℕ → List Place
carved_homes st s words = places_of (homes_of st s) (carved_entries st s words)
