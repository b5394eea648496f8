-- What holds of every chain that is answered, and that names decide nothing of it. Assumes nothing.
use Prim.Native.Nat.{ℕ, zero, suc, ◌+◌, ◌≤◌, ◌<◌}
use mathlib.Core.Path.{◌≡◌, ap, sym}
use mathlib.Core.List.Memᴰ
use mathlib.Core.List.{List, Memᴰ}
use mathlib.Core.Bool.{true, not}
use mathlib.Core.Logic.{◌⊎◌, inl, inr, ⊎_elim}
use native.Mathlib.Omega.{arith}
use lib.ListN.{length}
use lib.Dec.{ltb}
use Rattle.base.specs.Outcome.{Outcome, refused, answered, map_outcome}
use Rattle.base.specs.Refusals.{above_domain, name_outside, bad_state, domain}
use Rattle.base.proofs.ChoiceLaws.{cond_cases}
use Rattle.entry_slots.specs.Names.{Lengths, lengths_of, inside, all_inside}
use Rattle.entry_slots.specs.Slots.{slots_in, info_at, slot_name, names_in}
use Rattle.entry_slots.specs.Table.{Table}
use Rattle.entry_slots.specs.declared.EntryKey.{EntryKey}
use Rattle.entry_slots.specs.declared.NamePlace.{NamePlace}
use Rattle.entry_slots.proofs.NameLaws.{all-inside-at}
use Rattle.chain.specs.Chain.{Chain, chain, chain_of, resolved}
use Rattle.chain.specs.Tracing.{in_domain, tracing, chain_after}
use Rattle.chain.proofs.ChainLaws.{chain-cases, names-most}
use Rattle.chain.proofs.CallLaws.{answered-traced, traced-answered}

-- p is the name's place of a used slot
pub record OfSlot (t : Table) (p : NamePlace) : Type 0 where
  pub slot : ℕ
  pub used : slot < t.used
  pub name : p ≡ (info_at t.words slot).name

-- every place of a chain is that of a used slot
pub chain-slots : (t : Table) (n : ℕ) (k : EntryKey) (p : NamePlace) → Memᴰ p (chain t n k).places → OfSlot t p
unfolding chain
chain-slots t zero k p = λ m. absurd (Memᴰ.not-nil m)
chain-slots t (suc n) k p =
    chain-cases (λ (c : Chain). Memᴰ p c.places → OfSlot t p) t n k (λ e m. absurd (Memᴰ.not-nil m))
    (λ i h m. ⊎_elim (chain-slots t n (info_at t.words i).parent p) (λ q. record { slot = i; used = h; name = Memᴰ.eq_of_singleton q }) (Memᴰ.append_cases (chain t n (info_at t.words i).parent).places m))

-- An answered chain has at most one name more than the depth. Each of its places is that of a used slot, and so inside its slice.
pub record Sound (ls : Lengths) (t : Table) (depth : ℕ) (c : Chain) : Type 0 where
  pub names : length c.places ≤ depth + 1
  pub slots : (p : NamePlace) → Memᴰ p c.places → OfSlot t p
  pub insides : (p : NamePlace) → Memᴰ p c.places → inside ls p ≡ true

pub sound : (ls : Lengths) (t : Table) (depth : ℕ) (k : EntryKey) {c : Chain} → tracing ls t depth k ≡ answered c → Sound ls t depth c
sound ls t depth k {c} e =
    let w = answered-traced ls t depth k (sym (ap (map_outcome resolved) e)) in
    let same : chain_of t depth k ≡ c = let f = traced-answered ls t depth k w in cc in
    rw (← same)
    record {
      names = names-most t (depth + 1) k;
      slots = chain-slots t (depth + 1) k;
      insides = λ p m.
          let o = chain-slots t (depth + 1) k p m in
          rw o.name (all-inside-at ls (slot_name t.words) 0 t.used o.slot w.places (omega arith) (omega (arith, o.used)));
    }

-- a chain is refused with 1, 9 or 7 alone
abbrev pub Core : ℕ → Type 0
Core n = (n ≡ above_domain) ⊎ ((n ≡ bad_state) ⊎ (n ≡ name_outside))

pub core-refusals : (ls : Lengths) (t : Table) (depth : ℕ) (k : EntryKey) {n : ℕ} → tracing ls t depth k ≡ refused n → Core n
unfolding tracing in_domain
core-refusals ls t depth k {n} =
    let P : Outcome Chain → Type 0 = λ o. o ≡ refused n → Core n in
    cond_cases P (ltb domain ls.journal) (λ y e. inl (cc))
    (λ a. cond_cases P (ltb domain ls.image) (λ y e. inl (cc))
    (λ b. cond_cases P (ltb (slots_in t.words) t.used) (λ y e. inr (inl (cc)))
    (λ u. cond_cases P (not (all_inside ls (names_in t.words t.used))) (λ y e. inr (inr (cc)))
    (λ i e. let z : ◌≡◌ {A = ℕ} 0 1 = cc in absurd (omega arith)))))

-- Names decide nothing: over journals and images of equal lengths the call comes out the same, with its list.
pub record SameChain (journal journal' image image' : List ℕ) (t : Table) (depth : ℕ) (k : EntryKey) (l : List ℕ) : Type 0 where
  pub chains : tracing (lengths_of journal' image') t depth k ≡ tracing (lengths_of journal image) t depth k
  pub answers : map_outcome resolved (tracing (lengths_of journal' image') t depth k) ≡ map_outcome resolved (tracing (lengths_of journal image) t depth k)
  pub lists : chain_after (tracing (lengths_of journal' image') t depth k) l ≡ chain_after (tracing (lengths_of journal image) t depth k) l

pub chain-two-runs : (journal journal' image image' : List ℕ) (t : Table) (depth : ℕ) (k : EntryKey) (l : List ℕ) → length journal' ≡ length journal → length image' ≡ length image
    → SameChain journal journal' image image' t depth k l
chain-two-runs journal journal' image image' t depth k l e f = record { chains = rw (e, f); answers = rw (e, f); lists = rw (e, f) }
