-- A call over a journal and an image is refused for the domain where one of the two is above it. Assumes nothing.
use Prim.Native.Nat.{ℕ, ◌≤◌, ◌<◌}
use mathlib.Core.Path.{◌≡◌, refl}
use mathlib.Core.List.{List}
use mathlib.Core.Bool.{Bool, true, false, cond, ◌||◌}
use lib.ListN.{length}
use lib.Dec.{ltb, eqb}
use borrow.Author.Tests.{lt-ltb, le-ltb}
use Rattle.base.specs.Outcome.{Outcome, refused, answered}
use Rattle.base.specs.Refusals.{above_domain, text_full, domain}
use Rattle.base.specs.Words.{number, short_by}
use Rattle.base.proofs.ChoiceLaws.{cond_cases}
use Rattle.base.proofs.WordLaws.{Domain}
use Rattle.entry_slots.specs.Names.{Lengths}
use Rattle.chain.specs.Tracing.{in_domain}
use Rattle.path_text.specs.Decoding.{with_text}
use Rattle.volume_answers.specs.Domain.{either_above}

-- what code answers by testing one after the other
module _ (journal image : List ℕ) where
  pub over_first : domain < length journal → above_domain ≡ short_by (either_above journal image)
  over_first h = rw (lt-ltb _ _ h)

  pub over-second : length journal ≤ domain → {r : ℕ} → r ≡ short_by (ltb domain (length image)) → r ≡ short_by (either_above journal image)
  over-second h e = rw (le-ltb _ _ h) e

-- the definitions test one after the other too
pub either-domain : {A : Type 0} (ls : Lengths) {x : Outcome A} → Domain false x → Domain (ltb domain ls.journal || ltb domain ls.image) (in_domain ls x)
unfolding in_domain
either-domain {A} ls {x} h = tests (ltb domain ls.journal) (ltb domain ls.image)
  where
    tests : (a b : Bool) → Domain {A = A} (a || b) (cond a (refused above_domain) (cond b (refused above_domain) x))
    tests true b = record { test = refl }
    tests false true = record { test = refl }
    tests false false = h

-- a text changes nothing of it
pub text-domain : {A : Type 0} {above : Bool} (text : A → List ℕ) (room : ℕ) (x : Outcome A) → Domain above x → Domain above (with_text text room x)
text-domain text room (refused n) d = d
text-domain {A} {above} text room (answered a) d =
    record { test = cond_cases (λ (y : Outcome A). eqb (number y) above_domain ≡ above) (ltb room (length (text a))) {x = refused text_full} {y = answered a} (λ _. d.test) (λ _. d.test) }
