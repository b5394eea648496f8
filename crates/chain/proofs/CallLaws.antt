-- The ways out of the call, by its tests: its outcome, and what the list then holds. Assumes nothing.
use Prim.Native.Nat.{ℕ, ◌≤◌, ◌<◌}
use Rattle.std.specs.Prelude.{Result, Ok, Err}
use mathlib.Core.Path.{◌≡◌, refl, ap, sym, ◌∙◌}
use mathlib.Core.List.{List}
use mathlib.Core.Bool.{Bool, true, false, cond, not}
use native.Mathlib.Omega.{arith}
use borrow.Author.Tests.{lt-ltb, le-ltb, ltb-false, ne_eqb, not-false}
use lib.Dec.{ltb, eqb}
use Rattle.base.specs.Outcome.{Outcome, refused, answered, outcome, map_outcome}
use Rattle.base.proofs.ChoiceLaws.{cond_cases}
use Rattle.base.proofs.RefusalLaws.{some_number}
use Rattle.base.specs.Refusals.{above_domain, name_outside, bad_state, domain, number_of}
use Rattle.entry_slots.specs.Names.{Lengths, all_inside}
use Rattle.entry_slots.specs.Slots.{slots_in, names_in}
use Rattle.entry_slots.specs.Table.{Table}
use Rattle.entry_slots.specs.declared.EntryKey.{EntryKey}
use Rattle.chain.specs.Promise.{Chains}
use Rattle.base.specs.Words.{number}
use Rattle.base.specs.declared.refusal.Refusal.{Refusal}
use Rattle.chain.specs.declared.ResolvedPath.{ResolvedPath}
use Rattle.chain.specs.Chain.{Chain, chain_of, resolved}
use Rattle.chain.specs.Tracing.{in_domain, tracing, path_refusal, with_places}

-- journal or image above the domain, and neither
module _ {A : Type 0} (ls : Lengths) (o : Outcome A) where
  pub journal-above : domain < ls.journal → in_domain ls o ≡ refused above_domain
  unfolding in_domain
  journal-above h = simp (lt-ltb _ _ h)

  pub image-above : ls.journal ≤ domain → domain < ls.image → in_domain ls o ≡ refused above_domain
  unfolding in_domain
  image-above a h = simp (le-ltb _ _ a, lt-ltb _ _ h)

  pub both-within : ls.journal ≤ domain → ls.image ≤ domain → in_domain ls o ≡ o
  unfolding in_domain
  both-within a b = simp (le-ltb _ _ a, le-ltb _ _ b)

-- the tests of a path, in turn
module _ (ls : Lengths) (t : Table) where
  pub refusal-journal : domain < ls.journal → above_domain ≡ path_refusal ls t
  unfolding path_refusal
  refusal-journal h = sym (simp (lt-ltb _ _ h))

  module _ (a : ls.journal ≤ domain) where
    pub refusal-image : domain < ls.image → above_domain ≡ path_refusal ls t
    unfolding path_refusal
    refusal-image h = sym (simp (le-ltb _ _ a, lt-ltb _ _ h))

    module _ (b : ls.image ≤ domain) where
      pub refusal-state : slots_in t.words < t.used → bad_state ≡ path_refusal ls t
      unfolding path_refusal
      refusal-state h = sym (simp (le-ltb _ _ a, le-ltb _ _ b, lt-ltb _ _ h))

      module _ (u : t.used ≤ slots_in t.words) where
        pub refusal-outside : all_inside ls (names_in t.words t.used) ≡ false → name_outside ≡ path_refusal ls t
        unfolding path_refusal
        refusal-outside e = sym (simp (le-ltb _ _ a, le-ltb _ _ b, le-ltb _ _ u, e))

        pub refusal-none : all_inside ls (names_in t.words t.used) ≡ true → 0 ≡ path_refusal ls t
        unfolding path_refusal
        refusal-none e = sym (simp (le-ltb _ _ a, le-ltb _ _ b, le-ltb _ _ u, e))

        pub traced : (depth : ℕ) (k : EntryKey) → all_inside ls (names_in t.words t.used) ≡ true → tracing ls t depth k ≡ answered (chain_of t depth k)
        unfolding tracing
        traced depth k e = both-within ls _ a b ∙ simp (le-ltb _ _ u, e)

-- a path is refused with the number of its tests, and answered where that is 0
module _ (ls : Lengths) (t : Table) (depth : ℕ) (k : EntryKey) where
  by-refusal : tracing ls t depth k ≡ cond (eqb (path_refusal ls t) 0) (answered (chain_of t depth k)) (refused (path_refusal ls t))
  unfolding tracing in_domain path_refusal
  by-refusal = go (ltb domain ls.journal) (ltb domain ls.image) (ltb (slots_in t.words) t.used) (not (all_inside ls (names_in t.words t.used)))
    where
      go : (a b c d : Bool)
          → cond a (refused above_domain) (cond b (refused above_domain) (cond c (refused bad_state) (cond d (refused name_outside) (answered (chain_of t depth k)))))
          ≡ cond (eqb (cond a above_domain (cond b above_domain (cond c bad_state (cond d name_outside 0)))) 0) (answered (chain_of t depth k))
          (refused (cond a above_domain (cond b above_domain (cond c bad_state (cond d name_outside 0)))))
      go true b c d = refl
      go false true c d = refl
      go false false true d = refl
      go false false false true = refl
      go false false false false = refl

  module _ {x : Result Unit Refusal} (e : number (outcome x) ≡ path_refusal ls t) where
    pub tests-fail : {r : Refusal} → x ≡ Err r → tracing ls t depth k ≡ refused (number_of r)
    tests-fail {r} h = let n : number_of r ≡ path_refusal ls t = rw h at e in by-refusal ∙ rw (← n, ne_eqb (number_of r) 0 (some_number r))

    pub tests-pass : {a : Unit} → x ≡ Ok a → tracing ls t depth k ≡ answered (chain_of t depth k)
    tests-pass h = let n : 0 ≡ path_refusal ls t = rw h at e in by-refusal ∙ rw (← n)

-- what holds where a chain is answered
pub record Traced (ls : Lengths) (t : Table) (depth : ℕ) (k : EntryKey) (p : ResolvedPath) : Type 0 where
  pub journal : ls.journal ≤ domain
  pub image : ls.image ≤ domain
  pub fits : t.used ≤ slots_in t.words
  pub places : all_inside ls (names_in t.words t.used) ≡ true
  pub path : p ≡ resolved (chain_of t depth k)

never : {A B : Type 0} {n : ℕ} {x : A} → answered x ≡ refused n → B
never e = let z : ◌≡◌ {A = ℕ} 0 1 = cc in absurd (omega arith)

module _ (ls : Lengths) (t : Table) (depth : ℕ) (k : EntryKey) where
  pub answered-traced : {p : ResolvedPath} → answered p ≡ map_outcome resolved (tracing ls t depth k) → Traced ls t depth k p
  unfolding tracing in_domain
  answered-traced {p} =
      let P : Outcome Chain → Type 0 = λ o. answered p ≡ map_outcome resolved o → Traced ls t depth k p in
      cond_cases P (ltb domain ls.journal) (λ y e. never e)
      (λ journal. cond_cases P (ltb domain ls.image) (λ y e. never e)
      (λ image. cond_cases P (ltb (slots_in t.words) t.used) (λ y e. never e)
      (λ fits. cond_cases P (not (all_inside ls (names_in t.words t.used))) (λ y e. never e)
      (λ places e.
      record {
        journal = ltb-false _ _ journal;
        image = ltb-false _ _ image;
        fits = ltb-false _ _ fits;
        places = not-false _ places;
        path = cc;
      }))))

  pub traced-answered : {p : ResolvedPath} → Traced ls t depth k p → tracing ls t depth k ≡ answered (chain_of t depth k)
  traced-answered w = traced ls t w.journal w.image w.fits depth k w.places

-- what is known where the tests pass
module _ (ls : Lengths) (t : Table) (depth : ℕ) (k : EntryKey) where
  pub chain-traced : tracing ls t depth k ≡ answered (chain_of t depth k) → Traced ls t depth k (resolved (chain_of t depth k))
  chain-traced e = answered-traced ls t depth k (sym (ap (map_outcome resolved) e))

-- the list at the end of a call, by its outcome
module _ (ls : Lengths) (t : Table) (depth : ℕ) (k : EntryKey) (l : List ℕ) where
  -- the outcome is x, and the list holds m
  abbrev Comes : Result ResolvedPath Refusal → List ℕ → Type 0
  Comes = Chains (tracing ls t depth k) l

  pub chain-refused : {r : Refusal} → tracing ls t depth k ≡ refused (number_of r) → Comes (Err r) l
  chain-refused e = record { answer = sym (ap (map_outcome resolved) e); places = rw e }

  pub chain-listed : tracing ls t depth k ≡ answered (chain_of t depth k) → {p : ResolvedPath} {m : List ℕ} → p ≡ resolved (chain_of t depth k)
      → m ≡ with_places l (chain_of t depth k).places → Comes (Ok p) m
  chain-listed e g f = record { answer = ap answered g ∙ sym (ap (map_outcome resolved) e); places = rw e f }
