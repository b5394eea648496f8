-- Which name is kept, by the namespaces, and the walk over the attributes: what is kept so far, with the attributes left, is what is kept at
-- the end. Assumes nothing.
use Prim.Native.Nat.{ℕ, suc, ◌+◌, ◌-◌, ◌≤◌, ◌<◌}
use Rattle.std.specs.Prelude.{Option, None}
use mathlib.Core.Path.{◌≡◌, ap, sym, ◌∙◌}
use mathlib.Core.List.{List}
use native.Mathlib.Omega.{arith}
use Rattle.base.specs.Walk.{Visit, going_on, walk}
use Rattle.mft_attributes.specs.Filename.{Attribute, keep, keep_all}
use Rattle.mft_attributes.specs.Attributes.{attribute_visit, attributes_in, filename_in}
use Rattle.mft_attributes.specs.Step.{attribute_of, filename_at}
use Rattle.mft_attributes.specs.declared.attributes.AttributeStep.{AttributeStep}
use Rattle.mft_attributes.specs.declared.attributes.AttributeStep.TheVariants.{End, Other, Named}
use Rattle.mft_attributes.specs.declared.filename.Filename.{Filename}

-- k is kept before the attribute at a, and n of the attributes have been walked: what is kept at the end is what is kept of the whole walk
pub record Keeping (e : List ℕ) (first walked : ℕ) (k : Option Filename) (a n : ℕ) : Type 0 where
  pub whole : keep_all k (attributes_in (walked - n) e a) ≡ filename_in walked e first

pub keeping_start : (e : List ℕ) (first walked : ℕ) → Keeping e first walked None first 0
unfolding filename_in
keeping_start e first walked = let z : walked - 0 ≡ walked = omega arith in record { whole = rw z }

-- one attribute, and then the rest
one : (e : List ℕ) (a : ℕ) {m : ℕ} (n : ℕ) → m ≡ suc n → (v : Visit Attribute) → v ≡ attribute_visit e a → attributes_in m e a ≡ going_on v (walk (attribute_visit e) n)
unfolding walk
one e a n h v f = rw (h, f)

module _ {e : List ℕ} {first walked : ℕ} {k : Option Filename} {a n : ℕ} (w : Keeping e first walked k a n) where
  -- no more are walked
  pub keeping_none : walked ≤ n → k ≡ filename_in walked e first
  unfolding walk
  keeping_none h = let z : walked - n ≡ 0 = omega arith in rw z at w.whole

  module _ (h : n < walked) {r x : AttributeStep} (g : r ≡ x) (f : attribute_of e r ≡ attribute_visit e a) where
    rest : keep_all k (going_on (attribute_of e x) (walk (attribute_visit e) (walked - (n + 1)))) ≡ filename_in walked e first
    rest = ap (keep_all k) (sym (one e a (walked - (n + 1)) (omega arith) (attribute_of e x) (ap (attribute_of e) (sym g) ∙ f))) ∙ w.whole

  pub keeping-end : n < walked → {r : AttributeStep} → r ≡ End → attribute_of e r ≡ attribute_visit e a → k ≡ filename_in walked e first
  keeping-end h g f = rest h g f

  pub keeping-other : n < walked → {r : AttributeStep} {p : ℕ} → r ≡ Other p → attribute_of e r ≡ attribute_visit e a → Keeping e first walked k p (n + 1)
  keeping-other h g f = record { whole = rest h g f }

  pub keeping-named : n < walked → {r : AttributeStep} {c p : ℕ} → r ≡ Named c p → attribute_of e r ≡ attribute_visit e a
      → {k' : Option Filename} → k' ≡ keep k (filename_at e c) → Keeping e first walked k' p (n + 1)
  keeping-named h g f i = record { whole = rw i (rest h g f) }
