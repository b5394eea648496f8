-- What the calls promise. Each record says it of lists: what the lent slices hold before, and, with ', after. The promise itself takes the call's parameters.
use Rattle.std.specs.Prelude.{ℕ, ◌≡◌, List, length, Result}
use Rattle.base.specs.Lent.{Lent, MutLent, before, before_mut, after}
use Rattle.base.specs.Outcome.{outcome}
use Rattle.base.specs.declared.refusal.Refusal.{Refusal}
use Rattle.mft_carver.specs.declared.Settings.{Settings}
use Rattle.mft_carver.specs.Carve.{carving, carving_list}
use Rattle.mft_carver.specs.declared.MftCarvingStats.{MftCarvingStats}

-- carving: its answer, and the list of the entries
pub record Carves (st : Settings) (image list : List ℕ) (r : Result MftCarvingStats Refusal) (list' : List ℕ) : Type 0 where
  pub answer : outcome r ≡ carving st image (length list)
  pub list-is : list' ≡ carving_list st image list

abbrev pub CarvePromise : Settings → Lent → MutLent → Result MftCarvingStats Refusal → Type 0
CarvePromise st image list r = Carves st (before image) (before_mut list) r (after list)
