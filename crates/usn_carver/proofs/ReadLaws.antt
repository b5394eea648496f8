-- The bytes that a visit reads: 8, and of a candidate the fixed part. Assumes nothing.
use Prim.Native.Nat.{ℕ, ◌+◌, ◌≤◌}
use mathlib.Core.Path.{◌≡◌, refl}
use mathlib.Core.List.{List, [], ◌∷◌}
use native.Mathlib.Omega.{arith}
use lib.ListN.{length}
use lib.Dec.{ltb, eqb}
use Rattle.base.specs.Agree.{Agree}
use Rattle.base.specs.Walk.{Visit, stop, go}
use Rattle.base.proofs.AgreeLaws.{agree-in}
use Rattle.base.proofs.ChoiceLaws.{cond_cases, cond-two}
use Rattle.usn_record.specs.Bytes.{le_at}
use Rattle.usn_record.specs.Layout.{Layout, v2, v3}
use Rattle.usn_record.specs.Names.{fixed_of}
use Rattle.usn_record.proofs.ByteLaws.{read-agree}
use Rattle.usn_record.proofs.NameLaws.{fixed-low}
use Rattle.usn_record.proofs.RecordLaws.{FieldsInside, v2-inside, v3-inside}
use Rattle.usn_carver.specs.Settings.{Settings}
use Rattle.usn_carver.specs.Events.{Event, rejected, carved}
use Rattle.usn_carver.specs.Carve.{CandidateHeader, is_candidate, bad_name, bad_time, candidate_header_at, judged, carver_visit_as, carver_visit}
use Rattle.usn_carver.proofs.VisitLaws.{CandidateShape, stops, passes, rejects, carves, visit-shape}

-- how far a visit has read that found this
abbrev pub reach : Visit Event → ℕ
reach stop = 8
reach (go [] p) = 8
reach (go (rejected why o v ∷ es) p) = fixed_of v
reach (go (carved o v n ∷ es) p) = fixed_of v

-- a visit in the second run is the same where the extracts agree that far
abbrev pub Reads : List ℕ → List ℕ → ℕ → Visit Event → Visit Event → Type 0
Reads s t o x y = Agree s t o (o + reach x) → y ≡ x

module _ (st : Settings) where
  judged-reach : (l : Layout) (o : ℕ) (h : CandidateHeader) → reach (judged st l o h) ≡ fixed_of l.major
  unfolding judged
  judged-reach l o h =
      let P : Visit Event → Type 0 = λ x. reach x ≡ fixed_of l.major in
      cond_cases P (bad_name l.fixed h.size h.name_offset h.name_length) (λ _. refl) λ _.
      cond_cases P (bad_time st.lower st.upper h.filetime) (λ _. refl) λ _. refl

  as-reads : {s t : List ℕ} (l : Layout) → FieldsInside l → fixed_of l.major ≡ l.fixed → (o : ℕ) → length t ≡ length s → le_at 4 t o ≡ le_at 4 s o
      → Reads s t o (carver_visit_as st l s o) (carver_visit_as st l t o)
  unfolding carver_visit_as
  as-reads {s} {t} l k f o long size =
      rw (long, size)
      (cond-two (Reads s t o) (is_candidate l (length s) o (le_at 4 s o)) {y = go [] (o + 8)} {y' = go [] (o + 8)}
      (λ _ a.
      let b : Agree s t o (o + l.fixed) = agree-in o (o + l.fixed) a (omega arith) (omega (arith, judged-reach l o (candidate_header_at l s o))) in
      let offset : (candidate_header_at l t o).name_offset ≡ (candidate_header_at l s o).name_offset = read-agree 2 (o + l.name_offset) b (omega arith) (omega (arith, k.name_offset)) in
      let units : (candidate_header_at l t o).name_length ≡ (candidate_header_at l s o).name_length = read-agree 2 (o + l.name_length) b (omega arith) (omega (arith, k.name_length)) in
      rw (offset, units, read-agree 8 (o + l.time) b (omega arith) (omega (arith, k.time))))
      (λ _ _. refl))

  reach-low : {s : List ℕ} {o : ℕ} {x : Visit Event} → CandidateShape st s o x → 8 ≤ reach x
  reach-low (stops h) = omega arith
  reach-low (passes h) = omega arith
  reach-low (rejects why v n h k) = omega (arith, fixed-low v)
  reach-low (carves v n h k) = omega (arith, fixed-low v)

  -- the length, the zero test and the version lie in the first 8 bytes
  same_start : {s t : List ℕ} (o : ℕ) → le_at 4 t o ≡ le_at 4 s o → le_at 2 t (o + 4) ≡ le_at 2 s (o + 4) → Reads s t o (carver_visit st s o) (carver_visit st t o)
  unfolding carver_visit
  same_start {s} {t} o x y a =
      let v = le_at 2 s (o + 4) in
      let R : Visit Event → Visit Event → Type 0 = Reads s t o in
      rw (a.long, x, y)
      (cond-two R (ltb (length s) (o + 8)) (λ _ _. refl) (λ _.
      cond-two R (eqb (le_at 4 s o) 0) (λ _ _. refl) λ _.
      cond-two R (eqb v 2) (λ _. as-reads v2 v2-inside refl o a.long x) λ _.
      cond-two R (eqb v 3) (λ _. as-reads v3 v3-inside refl o a.long x) λ _ _. refl) a)

  pub visit-reads : (s t : List ℕ) (o : ℕ) → Reads s t o (carver_visit st s o) (carver_visit st t o)
  visit-reads s t o a =
      let b : Agree s t o (o + 8) = agree-in o (o + 8) a (omega arith) (omega (arith, reach-low (visit-shape st s o))) in
      same_start o (read-agree 4 o b (omega arith) (omega arith)) (read-agree 2 (o + 4) b (omega arith) (omega arith)) a
