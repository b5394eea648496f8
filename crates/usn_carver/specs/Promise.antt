-- What the calls promise. Each record says it of lists: what the lent slices hold before, and, with ', after. The promise itself takes the call's parameters.
use Rattle.std.specs.Prelude.{ℕ, ◌≡◌, List, length, Result}
use Rattle.base.specs.Lent.{Lent, MutLent, before, before_mut, after}
use Rattle.base.specs.Lists.{flatten, place_words, overwrite}
use Rattle.usn_carver.specs.Settings.{Settings}
use Rattle.usn_carver.specs.Carve.{carving, carving_list, carved_places, stats_in}
use Rattle.base.specs.Outcome.{outcome}
use Rattle.base.specs.declared.refusal.Refusal.{Refusal}
use Rattle.usn_carver.specs.declared.CarvingStats.{CarvingStats}

-- carving: its answer, and the list of the records' places
pub record Carves (st : Settings) (extract list : List ℕ) (r : Result CarvingStats Refusal) (list' : List ℕ) : Type 0 where
  pub answer : outcome r ≡ carving st extract (length list)
  pub places : list' ≡ carving_list st extract list

abbrev pub CarvePromise : Settings → Lent → MutLent → Result CarvingStats Refusal → Type 0
CarvePromise st extract list r = Carves st (before extract) (before_mut list) r (after list)

-- filling a list that has room: the counters of the run, and the list
pub record Fills (st : Settings) (extract list : List ℕ) (r : CarvingStats) (list' : List ℕ) : Type 0 where
  pub counters : r ≡ stats_in st extract
  pub places : list' ≡ overwrite list (flatten place_words (carved_places st extract))

abbrev pub FillPromise : Settings → Lent → MutLent → CarvingStats → Type 0
FillPromise st extract list r = Fills st (before extract) (before_mut list) r (after list)
