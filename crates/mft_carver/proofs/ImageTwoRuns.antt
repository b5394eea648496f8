-- Two runs over images that differ in the homes alone of the bytes of the names of the first run's carved entries: the same events, and the
-- same outcome of the call. Assumes nothing.
use Prim.Native.Nat.{ℕ, zero, suc, ◌+◌, ◌-◌, ◌%◌, ◌≤◌, ◌<◌}
use mathlib.Core.Path.{◌≡◌, refl, ap, sym, ◌∙◌}
use mathlib.Core.List.{List, [], ◌∷◌, ◌++◌}
use mathlib.Core.Bool.{Bool, true, false}
use native.Mathlib.Omega.{arith}
use lib.ListN.{length, get_or, length-take, length-drop}
use lib.Seq.{ext_get_or}
use lib.Dec.{ltb}
use borrow.Author.Tests.{ltb-true, ltb-false}
use Rattle.base.specs.Agree.{Agree}
use Rattle.base.specs.Masked.{Apart, Masked, places_of}
use Rattle.base.specs.Outcome.{Outcome, refused, answered, listed_by}
use Rattle.base.specs.Places.{place_from}
use Rattle.base.specs.Walk.{Visit, go, going_on, walk, from}
use Rattle.base.specs.declared.Place.{Place}
use Rattle.base.proofs.AgreeLaws.{part_in, part_out, part_length}
use Rattle.base.proofs.ChoiceLaws.{cond_cases, cond-two}
use Rattle.base.proofs.MaskedLaws.{apart-append, places-append, Same, Before, walk_same, masked-none}
use Rattle.base.proofs.WalkLaws.{Forward}
use Rattle.usn_record.specs.Bytes.{le_at}
use Rattle.usn_record.proofs.ByteLaws.{read-agree}
use Rattle.mft_carver.specs.declared.Settings.{Settings}
use Rattle.mft_attributes.specs.Attributes.{fixed, filename_in}
use Rattle.mft_sectors.specs.Homes.{homes}
use Rattle.mft_sectors.specs.SectorEnds.{sector, sound, restored}
use Rattle.mft_sectors.specs.Signature.{has_signature}
use Rattle.mft_carver.specs.Entry.{entry_header_of, bad_header, entry_of, Event, rejected, carved, by_name, judged}
use Rattle.mft_carver.specs.Carve.{entry_bytes, events_at, image_visit, events, entries, entries_in, carving, carving_list}
use Rattle.mft_carver.specs.Masking.{carved_entries, homes_of, carved_homes}
use Rattle.mft_carver.specs.declared.MftCarvingStats.{MftCarvingStats}
use Rattle.mft_attributes.specs.declared.filename.Filename.{Filename}
use Rattle.std.specs.Prelude.{Option, Some, None}
use Rattle.mft_carver.proofs.CallLaws.{outcome-agrees}
use Rattle.mft_carver.proofs.RunLaws.{visit-forward}
use Rattle.mft_sectors.proofs.SignatureLaws.{signature-same}
use Rattle.mft_sectors.proofs.SectorLaws.{sound-says, length-restored}
use Rattle.mft_attributes.proofs.LieLaws.{FilenameLies, found-lies}
use Rattle.mft_sectors.proofs.HomeLaws.{home-lies, homes-apart, same-front, same-sound, same-restored}
use Rattle.mft_attributes.proofs.TwoRunLaws.{filename-two-runs}

-- what may stand at o, with the entry e there: nothing that has a name, or a carved entry, and then its tests passed
pub data Found (st : Settings) (o : ℕ) (e : List ℕ) : List Event → Type 0 where
  none : Found st o e []
  nameless : Found st o e (rejected o ∷ [])
  named : has_signature e ≡ true → sound e ≡ true → (f : Filename) → Some f ≡ filename_in st.walked (restored e) (le_at 2 e 20) → Found st o e (carved (entry_of o (entry_header_of e) f) ∷ [])

found-kept : (st : Settings) (o : ℕ) (e : List ℕ) → has_signature e ≡ true → sound e ≡ true → (k : Option Filename) → k ≡ filename_in st.walked (restored e) (le_at 2 e 20)
    → Found st o e (by_name o (entry_header_of e) k ∷ [])
found-kept st o e b h None g = nameless
found-kept st o e b h (Some f) g = named b h f g

pub found : (st : Settings) (o : ℕ) (e : List ℕ) → Found st o e (events_at st o e)
unfolding judged
found st o e =
    let P : Event → Type 0 = λ x. Found st o e (x ∷ []) in
    cond_cases (Found st o e) (has_signature e)
    (λ b.
    cond_cases P (bad_header st (entry_header_of e)) (λ _. nameless) λ _.
    cond_cases P (sound e) (λ h. found-kept st o e b h (filename_in st.walked (restored e) (le_at 2 e 20)) refl) (λ _. nameless))
    (λ _. none)

-- the homes of the bytes of an event's name
abbrev pub homes_in : Settings → List ℕ → Event → List Place
homes_in st s (rejected o) = []
homes_in st s (carved x) = homes_of st s x

-- the name of a carved entry lies past its first attribute's offset, and inside
pub name-lies : (st : Settings) (e : List ℕ) {f : Filename} → Some f ≡ filename_in st.walked (restored e) (le_at 2 e 20) → FilenameLies (le_at 2 e 20 + fixed) (length e) f
name-lies st e {f} g =
    let l : FilenameLies (le_at 2 e 20 + fixed) (length (restored e)) f = found-lies st.walked (restored e) (le_at 2 e 20) g refl in
    rw length-restored at l

-- one entry at o, whole in the image
module _ (st : Settings) (whole : st.size % sector ≡ 0) (s : List ℕ) (o : ℕ) (fits : o + st.size ≤ length s) where
  abbrev e : List ℕ
  e = entry_bytes st s o

  long : length e ≡ st.size
  long = part_length s o st.size fits

  sectors : length e % sector ≡ 0
  sectors = rw long whole

  -- the homes lie inside the entry
  homes-lie : (xs : List Event) → Found st o e xs → (i : ℕ) → (o ≤ i → i < o + st.size → ⊥) → Apart (places_of (homes_in st s) xs) i
  homes-lie _ none i out = tt
  homes-lie _ nameless i out = tt
  homes-lie _ (named _ h f g) i out =
      let l = name-lies st e g in
      apart-append (homes e o (place_from o f.place)) [] i
      (homes-apart e o i f.place (λ j b u z.
      let r = home-lies e sectors (sound-says e h) j (omega (arith, l.begins)) (omega (arith, l.ends)) in
      out (omega arith) (omega (arith, r.inside, long)))) tt

  -- an entry d that differs in these homes alone
  module _ (d : List ℕ) (same_length : length d ≡ length e) where
    abbrev Alike : List Event → Type 0
    Alike xs = (i : ℕ) → Apart (places_of (homes_in st s) xs) (o + i) → get_or d i 0 ≡ get_or e i 0

    nothing-differs : ((i : ℕ) → get_or d i 0 ≡ get_or e i 0) → events_at st o d ≡ events_at st o e
    nothing-differs m = ap (events_at st o) (ext_get_or 0 d e same_length (λ i _. m i))

    judged-same : Agree e d 0 48 → sound d ≡ sound e → filename_in st.walked (restored d) (le_at 2 e 20) ≡ filename_in st.walked (restored e) (le_at 2 e 20)
        → judged st o d ≡ judged st o e
    unfolding judged
    judged-same g h k =
        let read : (w i : ℕ) → i + w ≤ 48 → le_at w d i ≡ le_at w e i = λ w i h. read-agree w i g (omega arith) (omega arith) in
        rw (read 2 16 (omega arith), read 2 20 (omega arith), read 2 22 (omega arith), read 4 44 (omega arith), h, k)

    events-same : (xs : List Event) → Found st o e xs → Alike xs → events_at st o d ≡ events_at st o e
    events-same _ none m = nothing-differs (λ i. m i tt)
    events-same _ nameless m = nothing-differs (λ i. m i tt)
    events-same _ (named _ h f g) m =
        let l = name-lies st e g in
        let a = le_at 2 e 20 in
        let p = f.place in
        let t = sound-says e h in
        let n : (i : ℕ) → Apart (homes e o (place_from o p)) (o + i) → get_or d i 0 ≡ get_or e i 0 =
        λ i q. m i (apart-append (homes e o (place_from o p)) [] (o + i) q tt) in
        let begins : a ≤ p.offset = omega (arith, l.begins) in
        let front = same-front e d same_length sectors t o p begins l.ends n in
        let name = filename-two-runs (restored e) (restored d) (length-restored _ d ∙ same_length ∙ sym (length-restored _ e)) st.walked a
        (λ i b q. same-restored e d same_length sectors t o p begins l.ends n i b (rw (← g) at q).0) in
        rw (signature-same e d 48 (omega arith) front, judged-same front (same-sound e d same_length sectors t o p begins l.ends n) name)

apart-both : (st : Settings) (s : List ℕ) (xs ys : List Event) (i : ℕ) → Apart (places_of (homes_in st s) xs) i → Apart (places_of (homes_in st s) ys) i
    → Apart (places_of (homes_in st s) (xs ++ ys)) i
apart-both st s xs ys i a b = rw (places-append (homes_in st s) xs ys) (apart-append (places_of (homes_in st s) xs) (places_of (homes_in st s) ys) i a b)

module _ (st : Settings) (some : 1 ≤ st.size) (whole : st.size % sector ≡ 0) (s t : List ℕ) (long : length t ≡ length s) where
  -- a byte of the entry at o
  byte : (o : ℕ) → (later : List Event) → ((i : ℕ) → i < o + st.size → Apart (places_of (homes_in st s) later) i)
      → Same s t (places_of (homes_in st s) (events_at st o (entry_bytes st s o) ++ later)) o
      → (i : ℕ) → Apart (places_of (homes_in st s) (events_at st o (entry_bytes st s o))) (o + i) → (b : Bool) → ltb i st.size ≡ b
      → get_or (entry_bytes st t o) i 0 ≡ get_or (entry_bytes st s o) i 0
  byte o later low m i a true f =
      let k : i < st.size = ltb-true i st.size f in
      part_in t o st.size i k
      ∙ m (o + i) (omega arith) (apart-both st s (events_at st o (entry_bytes st s o)) later (o + i) a (low (o + i) (omega arith)))
      ∙ sym (part_in s o st.size i k)
  byte o later low m i a false f =
      let k : st.size ≤ i = ltb-false i st.size f in
      part_out t o st.size i k ∙ sym (part_out s o st.size i k)

  events-lie : (o : ℕ) → ltb (length s) (o + st.size) ≡ false → (i : ℕ) → (o ≤ i → i < o + st.size → ⊥)
      → Apart (places_of (homes_in st s) (events_at st o (entry_bytes st s o))) i
  events-lie o f = homes-lie st whole s o (ltb-false _ _ f) (events_at st o (entry_bytes st s o)) (found st o (entry_bytes st s o))

  -- the homes from o on leave the bytes below alone
  low : (k o i : ℕ) → i < o → Apart (places_of (homes_in st s) (walk (image_visit st s) k o)) i
  unfolding walk image_visit
  low zero o i h = tt
  low (suc k) o i h =
      cond_cases (λ (v : Visit Event). Apart (places_of (homes_in st s) (going_on v (walk (image_visit st s) k))) i) (ltb (length s) (o + st.size)) (λ _. tt)
      (λ f.
      apart-both st s (events_at st o (entry_bytes st s o)) (walk (image_visit st s) k (o + st.size)) i
      (events-lie o f i (λ a b. omega arith)) (low k (o + st.size) i (omega arith)))

  reads : (k o : ℕ) → Same s t (places_of (homes_in st s) (walk (image_visit st s) (suc k) o)) o → image_visit st t o ≡ image_visit st s o
  unfolding walk image_visit
  reads k o =
      rw long
      (cond-two (λ (w v : Visit Event). Same s t (places_of (homes_in st s) (going_on v (walk (image_visit st s) k))) o → w ≡ v) (ltb (length s) (o + st.size)) (λ _ _. refl)
      (λ f m.
      ap (λ (xs : List Event). go xs (o + st.size))
      (events-same st whole s o (ltb-false _ _ f) (entry_bytes st t o) (simp (length-take, length-drop, long)) (events_at st o (entry_bytes st s o)) (found st o (entry_bytes st s o))
      (λ i a. byte o (walk (image_visit st s) k (o + st.size)) (λ j h. low k (o + st.size) j h) m i a (ltb i st.size) refl))))

  before : (o : ℕ) → Before (homes_in st s) (image_visit st s o)
  unfolding image_visit
  before o = cond_cases (Before (homes_in st s)) (ltb (length s) (o + st.size)) (λ _. tt) (λ f i h. events-lie o f i (λ a b. omega arith))

  forward : (o p : ℕ) (xs : List Event) → image_visit st s o ≡ go xs p → o ≤ p
  forward o p xs f = let g : Forward (length s) o (go xs p) = rw f at (visit-forward st s some o) in omega arith

  pub image-two-runs : Same s t (places_of (homes_in st s) (events st s)) 0 → events st t ≡ events st s
  unfolding from
  image-two-runs m = rw long (walk_same s t (homes_in st s) (image_visit st s) (image_visit st t) forward before reads (length s - 0) 0 m)

-- the homes of the carved events are those of the entries in the list
pub homes-of : (st : Settings) (s : List ℕ) (es : List Event) → places_of (homes_in st s) es ≡ places_of (homes_of st s) (entries es)
homes-of st s [] = refl
homes-of st s (rejected o ∷ es) = homes-of st s es
homes-of st s (carved x ∷ es) = ap (λ (ps : List Place). homes_of st s x ++ ps) (homes-of st s es)

-- a call over t, with the same list, comes out as that over s: its answer, with every counter, every word of the list, and the entries
pub record SameCarving (st : Settings) (s t l : List ℕ) : Type 0 where
  pub outcome : carving st t (length l) ≡ carving st s (length l)
  pub list : carving_list st t l ≡ carving_list st s l
  pub entries : carved_entries st t (length l) ≡ carved_entries st s (length l)

module _ (st : Settings) (some : 1 ≤ st.size) (whole : st.size % sector ≡ 0) (s t l : List ℕ) where
  same-carving : (x : Outcome MftCarvingStats) → carving st s (length l) ≡ x
      → Masked s t (places_of (homes_of st s) (listed_by (λ _. entries_in st s) x)) → SameCarving st s t l
  same-carving (refused n) _ m = rw (masked-none s t m) (record { outcome = refl; list = refl; entries = refl })
  same-carving (answered a) _ m =
      let two : events st t ≡ events st s = image-two-runs st some whole s t m.long (λ i _ h. m.same i (rw (homes-of st s (events st s)) at h)) in
      let o : carving st t (length l) ≡ carving st s (length l) = outcome-agrees st s t (length l) m.long two in
      record { outcome = o; list = rw (o, two); entries = rw (o, two) }

-- Two calls, with entries of whole sectors, whose images differ in the homes of the names of the entries that the first one lists alone; a
-- refused call lists none.
pub call-two-runs : (st : Settings) → 1 ≤ st.size → st.size % sector ≡ 0 → (s t l : List ℕ) → Masked s t (carved_homes st s (length l)) → SameCarving st s t l
call-two-runs st some whole s t l m = same-carving st some whole s t l (carving st s (length l)) refl m
