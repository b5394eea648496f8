-- The names of carved entries are decoded from the restored entries that they were carved from. Assumes nothing.
use Prim.Native.Nat.{ℕ, zero, suc, ◌+◌, ◌-◌, ◌*◌, ◌/◌, ◌≤◌, ◌<◌}
use mathlib.Core.Path.{◌≡◌, ap, ◌∙◌}
use mathlib.Core.List.{List, [], ◌∷◌}
use mathlib.Core.Bool.{true}
use native.Mathlib.Omega.{arith}
use native.Mathlib.Nat.{mul-add-div_right, div-eq_of_lt, add-zero, suc-mul, zero-mul}
use lib.ListN.{length}
use lib.Dec.{ltb}
use borrow.Author.Tests.{ltb-false, le-leb, ne_eqb}
use Rattle.base.specs.Lists.{All}
use Rattle.base.specs.Places.{part, place_from}
use Rattle.base.specs.Walk.{Visit, going_on, walk, from}
use Rattle.base.specs.declared.Place.{Place}
use Rattle.base.proofs.AgreeLaws.{part_length}
use Rattle.base.proofs.ChoiceLaws.{cond_cases}
use Rattle.base.proofs.WalkLaws.{all_append}
use Rattle.mft_sectors.specs.SectorEnds.{sound, restored}
use Rattle.mft_sectors.specs.Signature.{has_signature}
use Rattle.mft_sectors.specs.Stored.{in_entry, image_bytes}
use Rattle.mft_carver.specs.declared.Settings.{Settings}
use Rattle.mft_carver.specs.Entry.{Event, rejected, carved}
use Rattle.mft_carver.specs.Carve.{entry_bytes, events_at, image_visit, events, entries, entries_in}
use Rattle.mft_carver.specs.declared.CarvedMftEntry.{CarvedMftEntry}
use Rattle.mft_carver.proofs.ImageTwoRuns.{Found, none, nameless, named, found, name-lies}

-- the visited offset below a byte of the entry at the k-th
start_of : (size : ℕ) → 0 < size → (k r : ℕ) → r < size → (k * size + r) / size * size ≡ k * size
start_of size some k r h = ap (λ (n : ℕ). n * size) (mul-add-div_right some k r ∙ ap (λ (n : ℕ). k + n) (div-eq_of_lt h) ∙ add-zero k)

-- a carved entry's name is decoded from the restored entry
abbrev pub Decoded : Settings → List ℕ → CarvedMftEntry → Type 0
Decoded st s x = image_bytes st.size s x.filename ≡ part (restored (entry_bytes st s x.offset)) (x.filename.offset - x.offset) x.filename.length

abbrev EventDecoded : Settings → List ℕ → Event → Type 0
EventDecoded st s (rejected o) = Unit {0}
EventDecoded st s (carved x) = Decoded st s x

module _ (st : Settings) (some : 1 ≤ st.size) (s : List ℕ) where
  -- the entry at the k-th visited offset
  name-decoded : (k : ℕ) → k * st.size + st.size ≤ length s → has_signature (entry_bytes st s (k * st.size)) ≡ true → sound (entry_bytes st s (k * st.size)) ≡ true
      → (p : Place) → 0 < p.length → p.offset + p.length ≤ st.size
      → image_bytes st.size s (record { offset = k * st.size + p.offset; length = p.length })
      ≡ part (restored (entry_bytes st s (k * st.size))) (k * st.size + p.offset - k * st.size) p.length
  unfolding image_bytes in_entry
  name-decoded k fits b h p l u =
      simp (
        start_of st.size (omega arith) k p.offset (omega arith),
        le-leb (k * st.size + p.offset + p.length) (k * st.size + st.size) (omega arith),
        le-leb _ _ fits,
        b,
        h,
      )

  found-decoded : (k : ℕ) → k * st.size + st.size ≤ length s → (xs : List Event) → Found st (k * st.size) (entry_bytes st s (k * st.size)) xs
      → All (EventDecoded st s) xs
  found-decoded k fits _ none = tt
  found-decoded k fits _ nameless = (tt, tt)
  found-decoded k fits _ (named b h f g) =
      let o = k * st.size in
      let e = entry_bytes st s o in
      let l = name-lies st e g in
      let n : length e ≡ st.size = part_length s o st.size fits in
      let p = f.place in
      let q : place_from o p ≡ record { offset = o + p.offset; length = p.length } = simp (ne_eqb p.length 0 (λ z. omega (arith, l.some))) in
      (rw q (name-decoded k fits b h p l.some (omega (arith, l.ends))), tt)

  events-decoded : (n k : ℕ) → All (EventDecoded st s) (walk (image_visit st s) n (k * st.size))
  unfolding walk image_visit
  events-decoded zero k = tt
  events-decoded (suc n) k =
      let o = k * st.size in
      cond_cases (λ (v : Visit Event). All (EventDecoded st s) (going_on v (walk (image_visit st s) n))) (ltb (length s) (o + st.size)) (λ _. tt)
      (λ c.
      let m : walk (image_visit st s) n (suc k * st.size) ≡ walk (image_visit st s) n (o + st.size) = ap (walk (image_visit st s) n) (suc-mul k st.size) in
      all_append (EventDecoded st s) (events_at st o (entry_bytes st s o)) (walk (image_visit st s) n (o + st.size))
      (found-decoded k (ltb-false _ _ c) (events_at st o (entry_bytes st s o)) (found st o (entry_bytes st s o)))
      (rw m at (events-decoded n (suc k))))

  entries-decoded : (es : List Event) → All (EventDecoded st s) es → All (Decoded st s) (entries es)
  entries-decoded [] h = tt
  entries-decoded (rejected o ∷ es) h = entries-decoded es h.1
  entries-decoded (carved x ∷ es) h = (h.0, entries-decoded es h.1)

  pub carved-decoded : All (Decoded st s) (entries_in st s)
  unfolding from
  carved-decoded =
      let h : All (EventDecoded st s) (walk (image_visit st s) (length s - 0) 0) = rw zero-mul at (events-decoded (length s - 0) 0) in
      entries-decoded (events st s) h
