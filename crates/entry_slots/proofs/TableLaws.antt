-- The table as a map: what is known after an addition, and what is looked up. Assumes nothing.
use Prim.Native.Nat.{ℕ, ◌+◌, ◌*◌, ◌≤◌, ◌<◌}
use mathlib.Core.Path.{◌≡◌, refl, ap, sym, ◌∙◌, subst}
use mathlib.Core.List.{List}
use mathlib.Core.Bool.{Bool, true, false, cond, ◌||◌, true≢false, or-true, or-false}
use native.Mathlib.Omega.{arith}
use native.Mathlib.Nat.{zero-add, add-zero}
use native.Mathlib.Numerals.{add-one}
use borrow.Author.Tests.{eqb-true, eqb-false}
use lib.ListN.{length}
use lib.Dec.{eqb}
use Rattle.entry_slots.specs.Slots.{stride, slots_in, same_key, key_at, put_at}
use Rattle.entry_slots.specs.Table.{Table, table, find, entered, lookup_found, lookup, is_at, known, Addition, add_found, add}
use Rattle.entry_slots.specs.declared.EntryKey.{EntryKey}
use Rattle.std.specs.Prelude.{Option, Some, None}
use Rattle.entry_slots.proofs.FindLaws.{same-equal, same_self, find_at, find-keys, or_at, find-more}
use Rattle.entry_slots.proofs.PutLaws.{length-put, put-key, put-info, put-key-other, put-info-other}

-- a slot that is found is one of the used ones
pub find-used : (t : Table) (k : EntryKey) (i : ℕ) → find t k ≡ Some i → i < t.used
find-used t k i e = rw zero-add at (find_at t.words k 0 t.used i e).below

-- the same key is known alike
pub known_same : (t : Table) (j k : EntryKey) → same_key j k ≡ true → known t j ≡ known t k
known_same t j k e = ap (known t) (same-equal j k e)

-- an addition that replaces leaves every slot's key, so that each key stands where it stood
module _ (t : Table) (a : Addition) (i : ℕ) (at : find t a.key ≡ Some i) (fits : t.used ≤ slots_in t.words) where
  abbrev replaced : List ℕ
  replaced = put_at t.words i a.key a.info

  slot-room : i * stride + stride ≤ length t.words
  slot-room = omega (arith, find-used t a.key i at)

  -- what holds of slot i and of every other slot holds of all
  each : (P : ℕ → Type 0) (m : ℕ) → P i → ((m ≡ i → ⊥) → P m) → P m
  each P m here other = go (eqb m i) refl
    where
      go : (b : Bool) → eqb m i ≡ b → P m
      go true e = subst P (sym (eqb-true m i e)) here
      go false e = other (eqb-false m i e)

  keys_kept : (m : ℕ) → key_at replaced m ≡ key_at t.words m
  keys_kept m =
      each (λ q. key_at replaced q ≡ key_at t.words q) m
      (put-key t.words i a.key a.info slot-room ∙ sym (same-equal (key_at t.words i) a.key (find_at t.words a.key 0 t.used i at).has))
      (put-key-other t.words i a.key a.info m)

  pub find-replaced : (k : EntryKey) → find (table replaced t.used) k ≡ find t k
  find-replaced k = find-keys t.words replaced k 0 t.used (λ m h. keys_kept m)

  -- a key that stands elsewhere is another one, and its slot is left alone
  pub lookup-replaced-other : (k : EntryKey) → same_key a.key k ≡ false → lookup (table replaced t.used) k ≡ lookup t k
  lookup-replaced-other k apart = rw (find-replaced k) (go (find t k) refl)
    where
      go : (f : Option ℕ) → find t k ≡ f → lookup_found replaced f ≡ lookup_found t.words f
      go (Some m) e = ap entered (put-info-other t.words i a.key a.info m (λ z. true≢false (sym (has m e z) ∙ apart)))
        where
          has : (m : ℕ) → find t k ≡ Some m → m ≡ i → same_key a.key k ≡ true
          has m e z =
              ap (λ (j : EntryKey). same_key j k) (sym (same-equal (key_at t.words i) a.key (find_at t.words a.key 0 t.used i at).has))
              ∙ ap (λ (q : ℕ). same_key (key_at t.words q) k) (sym z)
              ∙ (find_at t.words k 0 t.used m e).has
      go None e = refl

  pub lookup-replaced : lookup (table replaced t.used) a.key ≡ entered a.info
  lookup-replaced = rw (find-replaced a.key, at) (ap entered (put-info t.words i a.key a.info slot-room))

-- a new key stands in the first slot that was not used, and each other key where it stood
module _ (t : Table) (a : Addition) (room : t.used < slots_in t.words) where
  abbrev grown : List ℕ
  grown = put_at t.words t.used a.key a.info

  free-room : t.used * stride + stride ≤ length t.words
  free-room = omega arith

  pub find-grown : (k : EntryKey) → find (table grown (t.used + 1)) k ≡ or_at (find t k) (cond (same_key a.key k) (Some t.used) None)
  find-grown k =
      rw add-one
      (find-more grown k 0 t.used
      ∙ rw (zero-add t.used, put-key t.words t.used a.key a.info free-room)
      (ap (λ (f : Option ℕ). or_at f (cond (same_key a.key k) (Some t.used) None))
      (find-keys t.words grown k 0 t.used (λ m h. put-key-other t.words t.used a.key a.info m (omega arith)))))

  pub lookup-grown : known t a.key ≡ false → lookup (table grown (t.used + 1)) a.key ≡ entered a.info
  lookup-grown new = rw (find-grown a.key) (go (find t a.key) new)
    where
      go : (f : Option ℕ) → is_at f ≡ false → lookup_found grown (or_at f (cond (same_key a.key a.key) (Some t.used) None)) ≡ entered a.info
      go (Some m) e = absurd (true≢false e)
      go None e = rw (same_self a.key) (ap entered (put-info t.words t.used a.key a.info free-room))

  pub lookup-grown-other : (k : EntryKey) → same_key a.key k ≡ false → lookup (table grown (t.used + 1)) k ≡ lookup t k
  lookup-grown-other k apart = rw (find-grown k) (go (find t k) refl)
    where
      go : (f : Option ℕ) → find t k ≡ f → lookup_found grown (or_at f (cond (same_key a.key k) (Some t.used) None)) ≡ lookup_found t.words f
      go (Some m) e =
          let below : m < t.used = find-used t k m e in
          ap entered (put-info-other t.words t.used a.key a.info m (omega arith))
      go None e = rw apart

-- an addition for which there is room
module _ (t : Table) (a : Addition) (room : t.used + cond (known t a.key) 0 1 ≤ slots_in t.words) where
  fits : t.used ≤ slots_in t.words
  fits = omega arith

  -- by where the key stands
  pub by-find : (P : Table → Type 0)
      → ((i : ℕ) → find t a.key ≡ Some i → a.replace ≡ true → P (table (put_at t.words i a.key a.info) t.used))
      → ((i : ℕ) → find t a.key ≡ Some i → a.replace ≡ false → P t)
      → (find t a.key ≡ None → t.used < slots_in t.words → P (table (put_at t.words t.used a.key a.info) (t.used + 1)))
      → P (add t a)
  unfolding add_found
  by-find P over kept new = go (find t a.key) refl a.replace refl
    where
      go : (f : Option ℕ) → find t a.key ≡ f → (r : Bool) → a.replace ≡ r → P (add_found t a f)
      go (Some i) e true r = rw r (over i e r)
      go (Some i) e false r = rw r (kept i e r)
      go None e r q = let h : t.used + 1 ≤ slots_in t.words = rw e at room in new e (omega arith)

  pub used-added : (add t a).used ≡ t.used + cond (known t a.key) 0 1
  used-added =
      by-find (λ u. u.used ≡ t.used + cond (known t a.key) 0 1)
      (λ i e r. rw (e, add-zero))
      (λ i e r. rw (e, add-zero))
      (λ e h. rw e)

  pub length-added : length (add t a).words ≡ length t.words
  length-added =
      by-find (λ u. length u.words ≡ length t.words)
      (λ i e r. length-put t.words i a.key a.info)
      (λ i e r. refl)
      (λ e h. length-put t.words t.used a.key a.info)

  -- what was known and the key that was added are known, and nothing else
  pub known-added : (k : EntryKey) → known (add t a) k ≡ (known t k || same_key a.key k)
  known-added k =
      by-find (λ u. known u k ≡ (known t k || same_key a.key k))
      (λ i e r. ap is_at (find-replaced t a i e fits k) ∙ absorb (ap is_at e))
      (λ i e r. absorb (ap is_at e))
      (λ e h. ap is_at (find-grown t a h k) ∙ either (find t k) (same_key a.key k))
    where
      absorb : known t a.key ≡ true → known t k ≡ (known t k || same_key a.key k)
      absorb e = go (same_key a.key k) refl
        where
          go : (b : Bool) → same_key a.key k ≡ b → known t k ≡ (known t k || b)
          go true h = sym (known_same t a.key k h) ∙ e ∙ sym (or-true (known t k))
          go false h = sym (or-false (known t k))

      either : (f : Option ℕ) (b : Bool) → is_at (or_at f (cond b (Some t.used) None)) ≡ (is_at f || b)
      either (Some i) b = refl
      either None true = refl
      either None false = refl

  -- lookups of other keys stay as they were
  pub lookup-other : (k : EntryKey) → same_key a.key k ≡ false → lookup (add t a) k ≡ lookup t k
  lookup-other k apart =
      by-find (λ u. lookup u k ≡ lookup t k)
      (λ i e r. lookup-replaced-other t a i e fits k apart)
      (λ i e r. refl)
      (λ e h. lookup-grown-other t a h k apart)

  -- an insertion is looked up again
  pub lookup-inserted : a.replace ≡ true → lookup (add t a) a.key ≡ entered a.info
  lookup-inserted y =
      by-find (λ u. lookup u a.key ≡ entered a.info)
      (λ i e r. lookup-replaced t a i e fits)
      (λ i e r. absurd (true≢false (sym y ∙ r)))
      (λ e h. lookup-grown t a h (ap is_at e))

  -- and so is an addition of a new key
  pub lookup-new : known t a.key ≡ false → lookup (add t a) a.key ≡ entered a.info
  lookup-new n =
      by-find (λ u. lookup u a.key ≡ entered a.info)
      (λ i e r. absurd (true≢false (sym (ap is_at e) ∙ n)))
      (λ i e r. absurd (true≢false (sym (ap is_at e) ∙ n)))
      (λ e h. lookup-grown t a h n)

  -- an addition that does not replace changes nothing where the key is known
  pub add-known : known t a.key ≡ true → a.replace ≡ false → add t a ≡ t
  add-known y n =
      by-find (λ u. u ≡ t)
      (λ i e r. absurd (true≢false (sym r ∙ n)))
      (λ i e r. refl)
      (λ e h. absurd (true≢false (sym y ∙ ap is_at e)))
