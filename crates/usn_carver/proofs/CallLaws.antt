-- The ways out of the call by its tests. Assumes nothing.
use Prim.Native.Nat.{ℕ, ◌/◌, ◌≤◌, ◌<◌}
use mathlib.Core.Path.{◌≡◌, ap, ◌∙◌}
use mathlib.Core.List.{List}
use Rattle.std.specs.Prelude.{Ok, Err}
use lib.ListN.{length}
use borrow.Author.Tests.{lt-ltb, le-ltb}
use Rattle.base.specs.Outcome.{refused, answered}
use Rattle.base.specs.Refusals.{number_of, domain}
use Rattle.usn_carver.specs.Settings.{Settings}
use Rattle.usn_carver.specs.Carve.{events, carving, carved_places, stats_in}
use Rattle.usn_carver.specs.Promise.{Carves, Fills}
use Rattle.base.specs.declared.refusal.Refusal.{Refusal}
use Rattle.base.specs.declared.refusal.Refusal.TheVariants.{AboveDomain, ListFull}
use Rattle.usn_carver.specs.declared.CarvingStats.{CarvingStats}

module _ (st : Settings) (s l : List ℕ) where
  kept : {r : Refusal} → refused (number_of r) ≡ carving st s (length l) → Carves st s l (Err r) l
  kept e = record { answer = e; places = rw (← e) }

  pub refuses-above-domain : domain < length s → Carves st s l (Err AboveDomain) l
  unfolding carving
  refuses-above-domain h = kept (simp (lt-ltb _ _ h))

  module _ (a : length s ≤ domain) where
    pub refuses-full : length l / 2 < length (carved_places st s) → Carves st s l (Err ListFull) l
    unfolding carving
    refuses-full h = kept (simp (le-ltb _ _ a, lt-ltb _ _ h))

    answers : length (carved_places st s) ≤ length l / 2 → {x : CarvingStats} → x ≡ stats_in st s → answered x ≡ carving st s (length l)
    unfolding carving
    answers h e = ap answered e ∙ simp (le-ltb _ _ a, le-ltb _ _ h)

    -- x and l' are what the loop that fills the list answers and leaves
    pub carves : length (carved_places st s) ≤ length l / 2 → {x : CarvingStats} {l' : List ℕ} → Fills st s l x l' → Carves st s l (Ok x) l'
    carves h f = let e = answers h f.counters in record { answer = e; places = rw (← e) f.places }

-- runs with the same events come out the same
pub outcome-agrees : (st : Settings) (s t : List ℕ) (words : ℕ) → length t ≡ length s → events st t ≡ events st s → carving st t words ≡ carving st s words
unfolding carving
outcome-agrees st s t words long e = rw (e, long)
