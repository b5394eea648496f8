-- The ways out of a scan, each with what its tests say. Assumes nothing.
use Prim.Native.Nat.{ℕ, ◌/◌, ◌≤◌, ◌<◌}
use mathlib.Core.Path.{◌≡◌, ap}
use mathlib.Core.List.{List}
use mathlib.Core.Bool.{true, false}
use Rattle.std.specs.Prelude.{Ok, Err}
use lib.ListN.{length}
use lib.Dec.{leb}
use borrow.Author.Tests.{lt-ltb, le-ltb}
use Rattle.base.specs.Lists.{flatten, overwrite, place_words}
use Rattle.base.specs.Outcome.{answered}
use Rattle.base.specs.Refusals.{domain}
use Rattle.usn_scan.specs.Scan.{scanned}
use Rattle.usn_scan.specs.Outcome.{scan}
use Rattle.usn_scan.specs.Promise.{Scans}
use Rattle.base.specs.declared.refusal.Refusal.TheVariants.{AboveDomain, ListFull}

module _ (s l : List ℕ) where
  pub refuses-above-domain : domain < length s → Scans s l (Err AboveDomain) l
  unfolding scan
  refuses-above-domain h = record { answer = simp (lt-ltb _ _ h); places = simp (lt-ltb _ _ h) }

  module _ (a : length s ≤ domain) where
    pub refuses-full : leb (length (scanned s)) (length l / 2) ≡ false → Scans s l (Err ListFull) l
    unfolding scan
    refuses-full h = record { answer = simp (le-ltb _ _ a, h); places = simp (le-ltb _ _ a, h) }

    -- n and l' are what the loop that writes the list answers and leaves
    pub lists : leb (length (scanned s)) (length l / 2) ≡ true → {n : ℕ} {l' : List ℕ} → n ≡ length (scanned s)
        → l' ≡ overwrite l (flatten place_words (scanned s)) → Scans s l (Ok n) l'
    unfolding scan
    lists h p q = record { answer = simp (le-ltb _ _ a, h) (ap answered p); places = simp (le-ltb _ _ a, h) q }
