-- What the calls of paths have to show, and that they show it. Assumes nothing.
use Prim.Native.Nat.{ℕ, ◌≤◌, ◌<◌}
use mathlib.Core.Path.{◌≡◌, refl}
use mathlib.Core.List.{List}
use mathlib.Core.Bool.{Bool}
use lib.ListN.{length}
use Rattle.base.specs.Lists.{list_after}
use Rattle.base.specs.Outcome.{Outcome}
use Rattle.base.specs.Words.{short_by, after_domain, Answers}
use Rattle.base.proofs.WordLaws.{Domain, domain-short, domain-enough}
use Rattle.chain.specs.Chain.{Chain}
use Rattle.chain.specs.Tracing.{chain_after}
use Rattle.volume_ffi.specs.Promise.{Traces, Resolves}

-- x is the outcome where the list takes the n words
module _ (words : Chain → List ℕ) (n : ℕ) (x : Outcome Chain) (s l : List ℕ) where
  pub traces-short : {above : Bool} → Domain above x → length l < n → {r : ℕ} → r ≡ short_by above → Traces words (after_domain n (length l) x) s l r s l
  traces-short d h f = let e = domain-short x d h f in rw e (record { answer = refl; places = refl; row = refl })

  pub traces-answered : n ≤ length l → {t m : List ℕ} {r : ℕ} → t ≡ chain_after x s → Answers words x l r m → Traces words (after_domain n (length l) x) s l r t m
  traces-answered h g o = rw (domain-enough x h) (record { answer = o.answer; places = g; row = o.row })

module _ (text words : Chain → List ℕ) (n : ℕ) (x : Outcome Chain) (s b l : List ℕ) where
  pub tells-short : {above : Bool} → Domain above x → length l < n → {r : ℕ} → r ≡ short_by above → Resolves text words (after_domain n (length l) x) s b l r s b l
  tells-short d h f = let e = domain-short x d h f in rw e (record { answer = refl; places = refl; written = refl; row = refl })

  pub tells-answered : n ≤ length l → {t d m : List ℕ} {r : ℕ} → t ≡ chain_after x s → d ≡ list_after text x b → Answers words x l r m
      → Resolves text words (after_domain n (length l) x) s b l r t d m
  tells-answered h g f o = rw (domain-enough x h) (record { answer = o.answer; places = g; written = f; row = o.row })
