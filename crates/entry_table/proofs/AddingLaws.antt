-- An addition by way of an index: each way out, and what it leaves. Assumes nothing.
use Prim.Native.Nat.{ℕ, ◌+◌, ◌*◌, ◌≤◌, ◌<◌}
use mathlib.Core.Path.{◌≡◌, refl, ap, sym, ◌∙◌, subst}
use mathlib.Core.List.{List}
use mathlib.Core.Bool.{Bool, true, false}
use native.Mathlib.Omega.{arith}
use borrow.Author.Tests.{eqb-true, eqb-false, ltb-true, ltb-false}
use lib.ListN.{length}
use lib.Dec.{eqb, ltb}
use Rattle.base.specs.Outcome.{Outcome, refused, answered, outcome}
use Rattle.entry_slots.specs.Slots.{stride, slots_in, key_at, put_at}
use Rattle.entry_slots.specs.Table.{Table, table, find}
use Rattle.additions.specs.Storing.{used_after, words_after}
use Rattle.entry_table.specs.Promise.{Stores, StoresBy}
use Rattle.entry_slots.specs.declared.EntryKey.{EntryKey}
use Rattle.entry_slots.specs.declared.EntryInfo.{EntryInfo}
use Rattle.base.specs.declared.refusal.Refusal.{Refusal}
use Rattle.std.specs.Prelude.{Result, Some}
use Rattle.entry_slots.proofs.FindLaws.{same-equal, find_at}
use Rattle.entry_slots.proofs.PutLaws.{put-key, put-key-other}
use Rattle.entry_slots.proofs.TableLaws.{find-used}
use Rattle.entry_slots.specs.Index.{hash, heads_of, nexts_of, Indexed, heads_after, nexts_after}
use Rattle.entry_slots.specs.Probing.{LastOf, heads_linked, nexts_linked}
use Rattle.entry_slots.proofs.IndexLaws.{hash-below, Links, links-index, indexed-links, length-linked, no-heads, no-nexts}
use Rattle.entry_slots.proofs.KeepLaws.{links-same, links-more}

-- what a call answers and leaves, where its outcome is known
pub stores : {o p : Outcome Table} {s : List ℕ} {r : Result ℕ Refusal} {w : List ℕ} → o ≡ p → outcome r ≡ used_after p → w ≡ words_after p s → Stores o s r w
stores e x y = record { answer = rw e x; slots-are = rw e y }

pub stores-by : {o p : Outcome Table} {s heads nexts : List ℕ} {r : Result ℕ Refusal} {w h n : List ℕ} → o ≡ p → outcome r ≡ used_after p → w ≡ words_after p s
    → (h ≡ heads_after p heads) × (n ≡ nexts_after (length heads) p nexts) → StoresBy o s heads nexts r w h n
stores-by e x y z = record { store = stores e x y; heads-are = rw e z.0; nexts-are = rw e z.1 }

-- where there is no index, none is left
pub none_after : (o : Outcome Table) (heads nexts : List ℕ) → length heads ≤ 0 → (heads ≡ heads_after o heads) × (nexts ≡ nexts_after (length heads) o nexts)
none_after (refused n) heads nexts h = (refl, refl)
none_after (answered t) heads nexts h = (no-heads (length heads) t heads h refl, no-nexts (length heads) t nexts h)

module _ (t : Table) (heads nexts : List ℕ) (some : 0 < length heads) (x : Indexed t heads nexts) (k : EntryKey) (e : EntryInfo) where
  links : Links (length heads) t heads nexts
  links = indexed-links t heads nexts some x

  -- an entry in the slot of its key
  pub index-over : {i : ℕ} → Some i ≡ find t k → t.used ≤ slots_in t.words
      → (heads ≡ heads_of (length heads) (table (put_at t.words i k e) t.used)) × (nexts ≡ nexts_of (length heads) (table (put_at t.words i k e) t.used) nexts)
  index-over {i} f fits = let made = links-index nexts (links-same (put_at t.words i k e) links keys) refl in (made.heads_after, made.nexts_after)
    where
      room : i * stride + stride ≤ length t.words
      room = omega (arith, find-used t k i (sym f))

      keys : (j : ℕ) → key_at (put_at t.words i k e) j ≡ key_at t.words j
      keys j = go (eqb j i) refl
        where
          go : (b : Bool) → eqb j i ≡ b → key_at (put_at t.words i k e) j ≡ key_at t.words j
          go true y =
              subst (λ (q : ℕ). key_at (put_at t.words i k e) q ≡ key_at t.words q) (sym (eqb-true j i y))
              (put-key t.words i k e room ∙ sym (same-equal (key_at t.words i) k (find_at t.words k 0 t.used i (sym f)).has))
          go false y = put-key-other t.words i k e j (eqb-false j i y)

  -- an entry in the first slot that is not used
  pub index-more : {last : ℕ} {h n : List ℕ} → LastOf (length heads) t (hash (length heads) k) last → t.used < slots_in t.words → slots_in t.words ≤ length nexts
      → h ≡ heads_linked heads (hash (length heads) k) last (t.used + 1) → n ≡ nexts_linked nexts last (t.used + 1)
      → (h ≡ heads_of (length heads) (table (put_at t.words t.used k e) (t.used + 1))) × (n ≡ nexts_of (length heads) (table (put_at t.words t.used k e) (t.used + 1)) nexts)
  index-more {last} d fits room p q =
      let made = links-index nexts
      (links-more (length heads) t.words (put_at t.words t.used k e) t.used (hash (length heads) k)
      (λ j l. put-key-other t.words t.used k e j (omega arith))
      (ap (hash (length heads)) (put-key t.words t.used k e (omega arith)))
      links (hash-below (length heads) k some) (omega arith) last d)
      (length-linked nexts last (t.used + 1)) in
      rw (p, q) (made.heads_after, made.nexts_after)

-- the first of them with an index or with none
pub kept-over : (t : Table) (heads nexts : List ℕ) → Indexed t heads nexts → (k : EntryKey) (e : EntryInfo) {i : ℕ} → Some i ≡ find t k → t.used ≤ slots_in t.words
    → (heads ≡ heads_of (length heads) (table (put_at t.words i k e) t.used)) × (nexts ≡ nexts_of (length heads) (table (put_at t.words i k e) t.used) nexts)
kept-over t heads nexts x k e {i} f fits = go (ltb 0 (length heads)) refl
  where
    go : (b : Bool) → ltb 0 (length heads) ≡ b
        → (heads ≡ heads_of (length heads) (table (put_at t.words i k e) t.used)) × (nexts ≡ nexts_of (length heads) (table (put_at t.words i k e) t.used) nexts)
    go true y = index-over t heads nexts (ltb-true 0 (length heads) y) x k e f fits
    go false y = none_after (answered (table (put_at t.words i k e) t.used)) heads nexts (ltb-false 0 (length heads) y)
