-- The steps of a chain: each is the end, or a name under the chain of the parent. Assumes nothing.
use Prim.Native.Nat.{ℕ, zero, suc, ◌+◌, ◌-◌, ◌≤◌, ◌<◌}
use mathlib.Core.Path.{◌≡◌, refl, ap}
use mathlib.Core.Bool.{Bool, true, false, cond}
use native.Mathlib.Omega.{arith}
use borrow.Author.Tests.{eq-eqb, ne_eqb}
use lib.ListN.{length, length-append}
use Rattle.entry_slots.specs.Slots.{info_at}
use Rattle.entry_slots.specs.Table.{Table, find, lookup_found}
use Rattle.entry_slots.specs.declared.EntryKey.{EntryKey}
use Rattle.entry_slots.specs.declared.EntryInfo.{EntryInfo}
use Rattle.std.specs.Prelude.{Option, Some, None}
use Rattle.entry_slots.proofs.FindLaws.{find_at}
use Rattle.chain.specs.declared.ChainEnd.{ChainEnd}
use Rattle.chain.specs.declared.ChainEnd.TheVariants.{Root, Unknown, Unresolved}
use Rattle.chain.specs.declared.ResolvedPath.{ResolvedPath}
use Rattle.chain.specs.declared.steps.Way.{Way}
use Rattle.chain.specs.declared.steps.Way.TheVariants.{End, Slot}
use Rattle.chain.specs.Chain.{Chain, bare, under, is_root, linked, chain, resolved, way_found, way_of}

-- the step by its tests
module _ (t : Table) (n : ℕ) (k : EntryKey) where
  pub step-deep : n ≡ 0 → End (Unresolved k) ≡ way_of t n k
  unfolding way_of
  step-deep z = simp (eq-eqb n 0 z)

  module _ (more : n ≡ 0 → ⊥) {b : Bool} (e : b ≡ is_root k) where
    pub step-root : b ≡ true → End Root ≡ way_of t n k
    unfolding way_of
    step-root y = simp (ne_eqb n 0 more, ← e, y)

    pub step-found : {f : Option ℕ} → b ≡ false → f ≡ find t k → way_found k f ≡ way_of t n k
    unfolding way_of
    step-found y f = simp (ne_eqb n 0 more, ← e, y, ← f)

-- a slot that a key is found in is a used one
found-used : (t : Table) (k : EntryKey) (i : ℕ) → find t k ≡ Some i → i < t.used
found-used t k i e = omega (arith, (find_at t.words k 0 t.used i e).below)

-- the chain goes on from slot i: its name hangs under the parent's chain, which has a level less
pub record Up (t : Table) (n : ℕ) (k : EntryKey) (i : ℕ) : Type 0 where
  pub slot : i < t.used
  pub level : 1 ≤ n
  pub rest : chain t n k ≡ under (chain t (n - 1) (info_at t.words i).parent) (info_at t.words i).name

-- the chain that a step begins
abbrev Begins : Table → ℕ → EntryKey → Way → Type 0
Begins t n k (End e) = chain t n k ≡ bare e
Begins t n k (Slot i) = Up t n k i

step-more : (t : Table) (n : ℕ) (k : EntryKey) → way_of t (suc n) k ≡ cond (is_root k) (End Root) (way_found k (find t k))
unfolding way_of
step-more t n k = simp (ne_eqb (suc n) 0 (λ z. omega arith))

begins : (t : Table) (n : ℕ) (k : EntryKey) → Begins t n k (way_of t n k)
unfolding chain way_of
begins t zero k = refl
begins t (suc n) k = rw (step-more t n k) (go (is_root k) refl (find t k) refl)
  where
    go : (b : Bool) → is_root k ≡ b → (f : Option ℕ) → find t k ≡ f → Begins t (suc n) k (cond b (End Root) (way_found k f))
    go true x f y = rw (chain, x)
    go false x None y = rw (chain, x, y)
    go false x (Some i) y = let m : suc n - 1 ≡ n = omega arith in record { slot = found-used t k i y; level = omega arith; rest = rw (m, chain, x, y) }

pub chain-end : (t : Table) (n : ℕ) (k : EntryKey) {e : ChainEnd} → End e ≡ way_of t n k → chain t n k ≡ bare e
chain-end t n k h = rw (← h) at (begins t n k)

pub chain-up : (t : Table) (n : ℕ) (k : EntryKey) {i : ℕ} → Slot i ≡ way_of t n k → Up t n k i
chain-up t n k h = rw (← h) at (begins t n k)

-- what holds of every end, and of every name of a used slot under a chain with a level less, holds of a chain
pub chain-cases : (P : Chain → Type 0) (t : Table) (n : ℕ) (k : EntryKey) → ((e : ChainEnd) → P (bare e))
    → ((i : ℕ) → i < t.used → P (under (chain t n (info_at t.words i).parent) (info_at t.words i).name)) → P (chain t (suc n) k)
unfolding chain
chain-cases P t n k h g = go (is_root k) (find t k) refl
  where
    go : (b : Bool) (f : Option ℕ) → find t k ≡ f → P (cond b (bare Root) (linked k (chain t n) (lookup_found t.words f)))
    go true f y = h Root
    go false None y = h (Unknown k)
    go false (Some i) y = g i (found-used t k i y)

-- there are at most as many names as levels
pub names-most : (t : Table) (n : ℕ) (k : EntryKey) → length (chain t n k).places ≤ n
unfolding chain
names-most t zero k = omega arith
names-most t (suc n) k =
    chain-cases (λ (c : Chain). length c.places ≤ suc n) t n k (λ e. omega arith)
    (λ i h. simp length-append (omega (arith, names-most t n (info_at t.words i).parent)))

-- what a chain resolves to: at its end, and with a name more
pub resolved-end : (t : Table) (n : ℕ) (k : EntryKey) {e : ChainEnd} → End e ≡ way_of t n k → ◌≡◌ {A = ResolvedPath} (record { names = 0; end = e }) (resolved (chain t n k))
resolved-end t n k h = rw (chain-end t n k h)

module _ (t : Table) (n : ℕ) (k : EntryKey) {i : ℕ} (h : Slot i ≡ way_of t n k) {info : EntryInfo} {above : ResolvedPath}
    (e : info ≡ info_at t.words i) (f : above ≡ resolved (chain t (n - 1) info.parent)) where
  pub names-below : above.names ≤ n - 1
  names-below = omega (arith, ap (λ (r : ResolvedPath). r.names) f, names-most t (n - 1) info.parent)

  pub resolved-up : ◌≡◌ {A = ResolvedPath} (record { names = above.names + 1; end = above.end }) (resolved (chain t n k))
  resolved-up = rw ((chain-up t n k h).rest, f, e, length-append)
