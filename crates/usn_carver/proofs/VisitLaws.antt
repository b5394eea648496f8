-- One visit: the ways out, each with what its tests say, and what any visit is like. Assumes nothing.
use Prim.Native.Nat.{ℕ, ◌+◌, ◌≤◌, ◌<◌}
use mathlib.Core.Path.{◌≡◌, refl, sym, ◌∙◌}
use mathlib.Core.Logic.{◌⊎◌, inl, inr}
use mathlib.Core.List.{List, [], ◌∷◌}
use mathlib.Core.Bool.{Bool, true, false, ◌&&◌}
use lib.ListN.{length}
use lib.Dec.{ltb, leb, eqb}
use mir.Syntax.{w64}
use mir.Val.{to_z}
use borrow.Author.Tests.{lt-ltb, le-ltb, ltb-true, ltb-false, leb-true, ne_eqb, eqb-true}
use Rattle.base.specs.Places.{round8}
use Rattle.base.specs.Walk.{Visit, stop, go}
use Rattle.base.proofs.ChoiceLaws.{cond_cases, and_left, and_right}
use Rattle.usn_record.specs.Bytes.{le_at}
use Rattle.usn_record.specs.Record.{max_record}
use Rattle.usn_record.specs.Layout.{Layout, v2, v3}
use Rattle.usn_record.specs.Names.{fixed_of}
use Rattle.usn_carver.specs.Settings.{Settings}
use Rattle.usn_carver.specs.Events.{Reason, structure, time, Event, rejected, carved}
use Rattle.usn_carver.specs.Carve.{CandidateHeader, bad_name, bad_time, is_candidate, candidate_header_at, judged, carver_visit_as, carver_visit}

-- the ways out of a visit by a layout, with n the length as it was read
module _ (st : Settings) (l : Layout) (s : List ℕ) (o : ℕ) {n : ℕ} (e : n ≡ le_at 4 s o) where
  module _ {t : Bool} (a : t ≡ is_candidate l (length s) o n) where
    pub passed : t ≡ false → go [] (o + 8) ≡ carver_visit_as st l s o
    unfolding carver_visit_as
    passed b = simp (sym e, sym a ∙ b)

    -- of a candidate the tests of the name and of the time decide
    module _ (b : t ≡ true)
        {offset size : ℕ} (f : offset ≡ (candidate_header_at l s o).name_offset) (g : size ≡ (candidate_header_at l s o).name_length)
        {x : Bool} (h : x ≡ bad_name l.fixed n offset size) where
      pub rejected-structure : x ≡ true → go (rejected structure o l.major ∷ []) (o + 8) ≡ carver_visit_as st l s o
      unfolding carver_visit_as judged
      rejected-structure k = simp (sym e, sym a ∙ b, sym f, sym g, sym h ∙ k)

      module _ (i : x ≡ false) {bits : ℕ} (j : bits ≡ le_at 8 s (o + l.time)) {y : Bool} (k : y ≡ bad_time st.lower st.upper (to_z w64 bits)) where
        pub rejected-time : y ≡ true → go (rejected time o l.major ∷ []) (o + 8) ≡ carver_visit_as st l s o
        unfolding carver_visit_as judged
        rejected-time m = simp (sym e, sym a ∙ b, sym f, sym g, sym h ∙ i, sym j, sym k ∙ m)

        pub carved-record : y ≡ false → go (carved o l.major n ∷ []) (o + round8 n) ≡ carver_visit_as st l s o
        unfolding carver_visit_as judged
        carved-record m = simp (sym e, sym a ∙ b, sym f, sym g, sym h ∙ i, sym j, sym k ∙ m)

-- the ways out of a visit, with n and v the length and version as they were read
module _ (st : Settings) (s : List ℕ) (o : ℕ) where
  pub stopped : length s < o + 8 → stop ≡ carver_visit st s o
  unfolding carver_visit
  stopped h = simp (lt-ltb _ _ h)

  module _ (a : o + 8 ≤ length s) {n : ℕ} (e : n ≡ le_at 4 s o) where
    pub passed-zero : n ≡ 0 → go [] (o + 8) ≡ carver_visit st s o
    unfolding carver_visit
    passed-zero h = simp (le-ltb _ _ a, sym e, h)

    module _ (b : n ≡ 0 → ⊥) {v : ℕ} (f : v ≡ le_at 2 s (o + 4)) where
      -- x is what was found by the version's layout
      pub by-v2 : {x : Visit Event} → v ≡ 2 → x ≡ carver_visit_as st v2 s o → x ≡ carver_visit st s o
      unfolding carver_visit
      by-v2 h k = k ∙ simp (le-ltb _ _ a, sym e, ne_eqb _ _ b, sym f, h)

      pub by-v3 : {x : Visit Event} → v ≡ 3 → x ≡ carver_visit_as st v3 s o → x ≡ carver_visit st s o
      unfolding carver_visit
      by-v3 h k = k ∙ simp (le-ltb _ _ a, sym e, ne_eqb _ _ b, sym f, h)

      pub passed-other : (v ≡ 2 → ⊥) → (v ≡ 3 → ⊥) → go [] (o + 8) ≡ carver_visit st s o
      unfolding carver_visit
      passed-other g h = simp (le-ltb _ _ a, sym e, ne_eqb _ _ b, sym f, ne_eqb _ _ g, ne_eqb _ _ h)

-- a candidate of version v and n bytes at o
pub record Candidate (st : Settings) (s : List ℕ) (o v n : ℕ) : Type 0 where
  pub known : (v ≡ 2) ⊎ (v ≡ 3)
  pub version : v ≡ le_at 2 s (o + 4)
  pub size : n ≡ le_at 4 s o
  pub whole : fixed_of v ≤ n
  pub most : n ≤ max_record
  pub inside : o + n ≤ length s

-- what any visit of o is like
pub data CandidateShape (st : Settings) (s : List ℕ) (o : ℕ) : Visit Event → Type 0 where
  stops : length s < o + 8 → CandidateShape st s o stop
  passes : o + 8 ≤ length s → CandidateShape st s o (go [] (o + 8))
  rejects : (why : Reason) (v n : ℕ) → o + 8 ≤ length s → Candidate st s o v n → CandidateShape st s o (go (rejected why o v ∷ []) (o + 8))
  carves : (v n : ℕ) → o + 8 ≤ length s → Candidate st s o v n → CandidateShape st s o (go (carved o v n ∷ []) (o + round8 n))

module _ (st : Settings) (s : List ℕ) (o : ℕ) (a : o + 8 ≤ length s) where
  judged-shape : (l : Layout) (h : CandidateHeader) → Candidate st s o l.major h.size → CandidateShape st s o (judged st l o h)
  unfolding judged
  judged-shape l h k =
      let P : Visit Event → Type 0 = CandidateShape st s o in
      cond_cases P (bad_name l.fixed h.size h.name_offset h.name_length) (λ _. rejects structure l.major h.size a k) λ _.
      cond_cases P (bad_time st.lower st.upper h.filetime) (λ _. rejects time l.major h.size a k) λ _.
      carves l.major h.size a k

  as-shape : (l : Layout) → (l.major ≡ 2) ⊎ (l.major ≡ 3) → l.major ≡ le_at 2 s (o + 4) → fixed_of l.major ≡ l.fixed → CandidateShape st s o (carver_visit_as st l s o)
  unfolding carver_visit_as
  as-shape l known version fixed =
      let n = le_at 4 s o in
      let low = leb l.fixed n in
      let most = leb n max_record in
      cond_cases (CandidateShape st s o) (is_candidate l (length s) o n)
      (λ e.
      judged-shape l (candidate_header_at l s o)
      (record {
        known = known;
        version = version;
        size = refl;
        whole = rw fixed (leb-true _ _ (and_left low most (and_left (low && most) (leb (o + n) (length s)) e)));
        most = leb-true _ _ (and_right low most (and_left (low && most) (leb (o + n) (length s)) e));
        inside = leb-true _ _ (and_right (low && most) (leb (o + n) (length s)) e);
      }))
      (λ _. passes a)

pub visit-shape : (st : Settings) (s : List ℕ) (o : ℕ) → CandidateShape st s o (carver_visit st s o)
unfolding carver_visit
visit-shape st s o =
    let P : Visit Event → Type 0 = CandidateShape st s o in
    let v = le_at 2 s (o + 4) in
    cond_cases P (ltb (length s) (o + 8)) (λ e. stops (ltb-true _ _ e)) λ e.
    let a : o + 8 ≤ length s = ltb-false _ _ e in
    cond_cases P (eqb (le_at 4 s o) 0) (λ _. passes a) λ _.
    cond_cases P (eqb v 2) (λ f. as-shape st s o a v2 (inl refl) (sym (eqb-true v 2 f)) refl) λ _.
    cond_cases P (eqb v 3) (λ f. as-shape st s o a v3 (inr refl) (sym (eqb-true v 3 f)) refl) λ _.
    passes a
