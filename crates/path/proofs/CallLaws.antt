-- The ways out of the call, by its tests: the outcome, and what the lent list and the text then hold. Assumes nothing.
use Prim.Native.Nat.{ℕ, ◌+◌, ◌-◌, ◌*◌, ◌≤◌}
use Rattle.std.specs.Prelude.{Option, Some, None, Result, Ok, Err}
use Rattle.base.specs.declared.refusal.Refusal.{Refusal}
use Rattle.base.specs.declared.refusal.Refusal.TheVariants.{TextFull}
use mathlib.Core.Path.{◌≡◌, refl, ap, sym, ◌∙◌}
use mathlib.Core.List.{List}
use mathlib.Core.Bool.{Bool, true, false}
use native.Mathlib.Omega.{arith}
use native.Mathlib.Nat.{zero-add}
use borrow.Author.Tests.{ltb-true, ltb-false}
use lib.Dec.{ltb}
use lib.ListN.{length}
use lib.Seq.{sets}
use Rattle.base.specs.Outcome.{Outcome, refused, answered}
use Rattle.base.specs.Refusals.{number_of}
use Rattle.base.proofs.ListLaws.{sets-front}
use Rattle.entry_slots.specs.Names.{lengths_of}
use Rattle.entry_slots.specs.Slots.{stride}
use Rattle.entry_slots.specs.Table.{Table}
use Rattle.entry_slots.specs.declared.EntryKey.{EntryKey}
use Rattle.chain.specs.declared.ResolvedPath.{ResolvedPath}
use Rattle.chain.specs.declared.way.Climbed.{Climbed}
use Rattle.chain.specs.Chain.{Chain, chain, chain_of, resolved}
use Rattle.chain.specs.Settings.{depth}
use Rattle.chain.specs.Tracing.{tracing, with_places, chain_after}
use Rattle.chain.proofs.CallLaws.{Traced, chain-traced}
use Rattle.path_text.specs.Text.{path_text}
use Rattle.path_text.proofs.CallLaws.{text-over, text-fits}
use Rattle.chain.specs.Promise.{Climbs}
use Rattle.path.specs.Written.{WrittenPath}
use Rattle.path.specs.Promise.{path_out, Paths, WayAsks, Behinds}
use Rattle.path.proofs.WayLaws.{climbed-asks}

module _ (journal image : List ℕ) (t : Table) (k : EntryKey) (x l : List ℕ) where
  abbrev Comes : Result WrittenPath Refusal → List ℕ → List ℕ → Type 0
  Comes = Paths journal image t k x l

  abbrev trail : Outcome Chain
  trail = tracing (lengths_of journal image) t depth k

  abbrev whole : List ℕ
  whole = path_text journal image (chain t (depth + 1) k)

  refuses : {r : Refusal} → path_out journal image t k x l ≡ refused (number_of r) → Comes (Err r) x l
  refuses e = record { answer = rw e; places = sym (ap (λ (o : Outcome Chain). chain_after o x) e); written = rw e }

  pub path-refused : {r : Refusal} → trail ≡ refused (number_of r) → Comes (Err r) x l
  path-refused e = refuses (rw e)

  -- the tests have passed
  module _ (is : trail ≡ answered (chain_of t depth k)) where
    traced : Traced (lengths_of journal image) t depth k (resolved (chain_of t depth k))
    traced = chain-traced (lengths_of journal image) t depth k is

    pub path-fits : t.used * stride ≤ length t.words
    path-fits = omega (arith, traced.fits)

    pub path-asks : {way' : List ℕ} {up : Climbed} → Climbs t k up way' → WayAsks journal image t.words way' up
    path-asks w = climbed-asks journal image t k w path-fits traced.places traced.journal traced.image

  module _ (is : trail ≡ answered (chain_of t depth k)) {c : Chain} (same : c ≡ chain_of t depth k) {r : Option ℕ} {o : List ℕ}
      (told : Behinds (path_text journal image c) l 0 r o) where
    g : Behinds whole l 0 r o
    g = rw same at told

    -- there is no room, or there is
    pub path-full : r ≡ None → Comes (Err TextFull) x o
    path-full f = go (ltb (length l - 0) (length whole)) refl
      where
        go : (b : Bool) → ltb (length l - 0) (length whole) ≡ b → Comes (Err TextFull) x o
        go true q =
            let text-is : o ≡ l = g.written ∙ rw q in
            rw text-is (refuses (text-over (path_text journal image) (length l) is (omega (arith, ltb-true (length l - 0) (length whole) q))))
        go false q =
            let y : None ≡ Some (0 + length whole) = sym f ∙ g.answer ∙ rw q in
            let z : ◌≡◌ {A = ℕ} 0 1 = cc in
            absurd (omega arith)

    pub path-written : {to : ℕ} → r ≡ Some to → {p : ResolvedPath} {m : List ℕ} → p ≡ resolved (chain_of t depth k) → m ≡ with_places x (chain_of t depth k).places → Comes (Ok (record { path = p; text = to })) m o
    path-written {to} f {p} {m} path-is list-is = go (ltb (length l - 0) (length whole)) refl
      where
        go : (b : Bool) → ltb (length l - 0) (length whole) ≡ b → Comes (Ok (record { path = p; text = to })) m o
        go true q = let y : Some to ≡ None = sym f ∙ g.answer ∙ rw q in let z : ◌≡◌ {A = ℕ} 0 1 = cc in absurd (omega arith)
        go false q =
            let y : Some to ≡ Some (0 + length whole) = sym f ∙ g.answer ∙ rw q in
            let to_is : to ≡ 0 + length whole = cc in
            let fits : length whole ≤ length l = omega (arith, ltb-false (length l - 0) (length whole) q) in
            let all = text-fits (path_text journal image) (length l) is fits in
            let text-is : o ≡ sets l 0 whole = g.written ∙ rw q in
            record {
              answer = rw (all, to_is ∙ zero-add (length whole), path-is);
              places = rw all list-is;
              written = rw all (text-is ∙ sets-front l whole fits);
            }
