-- The refusals of a window's numbers, in the order of the code's tests, and what is known of numbers that are not refused. Assumes nothing.
use Prim.Native.Nat.{ℕ, ◌+◌, ◌%◌, ◌≤◌, ◌<◌}
use mathlib.Core.Path.{◌≡◌, refl, sym, ◌∙◌}
use mathlib.Core.Bool.{Bool, true, false, not, true≢false, ◌||◌}
use native.Mathlib.Omega.{arith}
use lib.Dec.{ltb, eqb}
use borrow.Author.Tests.{lt-ltb, le-ltb, eq-eqb, ne_eqb, ltb-false, eqb-true}
use Rattle.base.specs.Places.{round8}
use Rattle.base.specs.Refusals.{above_domain, bad_state, bad_buffer}
use Rattle.base.proofs.ChoiceLaws.{cond_cases, or_left, or_right}
use Rattle.window_numbers.specs.Numbers.{window_size, stream_domain, window_end, Numbers, wrong_end, wrong_numbers, numbers_refusal}

module _ (start end total : ℕ) where
  pub right_end : end ≡ window_end start total → false ≡ wrong_end start end total
  unfolding wrong_end
  right_end h = simp (eq-eqb _ _ h)

  pub other-end : (end ≡ window_end start total → ⊥) → (end ≡ 0 → ⊥) → true ≡ wrong_end start end total
  unfolding wrong_end
  other-end g h = simp (ne_eqb _ _ g, ne_eqb _ _ h)

  -- an end above the total is no window's
  above-total : total < end → wrong_end start end total ≡ true
  above-total h = sym (other-end (λ e. omega arith) (λ e. omega arith))

module _ (w : Numbers) (n : ℕ) where
  pub refused-total : stream_domain < w.total → above_domain ≡ numbers_refusal w n
  unfolding numbers_refusal
  refused-total h = simp (lt-ltb _ _ h)

  module _ (a : w.total ≤ stream_domain) where
    pub refused-buffer : (n ≡ window_size → ⊥) → bad_buffer ≡ numbers_refusal w n
    unfolding numbers_refusal
    refused-buffer h = simp (le-ltb _ _ a, ne_eqb _ _ h)

    module _ (b : n ≡ window_size) where
      wrong : wrong_numbers w ≡ true → bad_state ≡ numbers_refusal w n
      unfolding numbers_refusal
      wrong h = simp (le-ltb _ _ a, eq-eqb _ _ b, h)

      pub refused-above : w.total < w.end → bad_state ≡ numbers_refusal w n
      unfolding wrong_numbers
      refused-above h = wrong (simp (above-total w.start w.end w.total h))

      pub refused_end : wrong_end w.start w.end w.total ≡ true → bad_state ≡ numbers_refusal w n
      unfolding wrong_numbers
      refused_end h = wrong (simp h)

      module _ (d : wrong_end w.start w.end w.total ≡ false) where
        pub refused-start : (w.start % 8 ≡ 0 → ⊥) → bad_state ≡ numbers_refusal w n
        unfolding wrong_numbers
        refused-start h = wrong (simp (d, ne_eqb _ _ h))

        module _ (e : w.start % 8 ≡ 0) where
          pub refused-position : (w.position % 8 ≡ 0 → ⊥) → bad_state ≡ numbers_refusal w n
          unfolding wrong_numbers
          refused-position h = wrong (simp (d, eq-eqb _ _ e, ne_eqb _ _ h))

          module _ (f : w.position % 8 ≡ 0) where
            pub refused-before : w.position < w.start → bad_state ≡ numbers_refusal w n
            unfolding wrong_numbers
            refused-before h = wrong (simp (d, eq-eqb _ _ e, eq-eqb _ _ f, lt-ltb _ _ h))

            module _ (g : w.start ≤ w.position) where
              pub refused-after : round8 w.end < w.position → bad_state ≡ numbers_refusal w n
              unfolding wrong_numbers
              refused-after h = wrong (simp (d, eq-eqb _ _ e, eq-eqb _ _ f, le-ltb _ _ g, lt-ltb _ _ h))

              module _ (k : w.position ≤ round8 w.end) where
                pub refused-held : w.end < w.start + w.held → bad_state ≡ numbers_refusal w n
                unfolding wrong_numbers
                refused-held h = wrong (simp (d, eq-eqb _ _ e, eq-eqb _ _ f, le-ltb _ _ g, le-ltb _ _ k, lt-ltb _ _ h))

                pub not-refused : w.start + w.held ≤ w.end → 0 ≡ numbers_refusal w n
                unfolding numbers_refusal wrong_numbers
                not-refused h = simp (le-ltb _ _ a, eq-eqb _ _ b, d, eq-eqb _ _ e, eq-eqb _ _ f, le-ltb _ _ g, le-ltb _ _ k, le-ltb _ _ h)

-- what numbers that are not refused are like
pub record Sound (w : Numbers) (n : ℕ) : Type 0 where
  pub buffer : n ≡ window_size
  pub small : w.total ≤ stream_domain
  pub ends : wrong_end w.start w.end w.total ≡ false
  pub start8 : w.start % 8 ≡ 0
  pub position8 : w.position % 8 ≡ 0
  pub from : w.start ≤ w.position
  pub upto : w.position ≤ round8 w.end
  pub fits : w.start + w.held ≤ w.end

not-eq : (a b : ℕ) → not (eqb a b) ≡ false → a ≡ b
not-eq a b e = eqb-true a b (flip (eqb a b) e)
  where
    flip : (t : Bool) → not t ≡ false → t ≡ true
    flip true e = refl
    flip false e = absurd (true≢false e)

pub sound-of : (w : Numbers) (n : ℕ) → numbers_refusal w n ≡ 0 → Sound w n
unfolding numbers_refusal wrong_numbers
sound-of w n =
    let P : ℕ → Type 0 = λ r. r ≡ 0 → Sound w n in
    let a = wrong_end w.start w.end w.total in
    let b = not (eqb (w.start % 8) 0) in
    let c = not (eqb (w.position % 8) 0) in
    let d = ltb w.position w.start in
    let e = ltb (round8 w.end) w.position in
    let f = ltb w.end (w.start + w.held) in
    cond_cases P (ltb stream_domain w.total) (λ _ z. absurd (omega arith)) λ t.
    cond_cases P (eqb n window_size)
    (λ u. cond_cases P (a || b || c || d || e || f) (λ _ z. absurd (omega arith))
    (λ x _.
    let x₁ = or_left (a || b || c || d || e) f x in
    let x₂ = or_left (a || b || c || d) e x₁ in
    let x₃ = or_left (a || b || c) d x₂ in
    let x₄ = or_left (a || b) c x₃ in
    record {
      buffer = eqb-true _ _ u;
      small = ltb-false _ _ t;
      ends = or_left a b x₄;
      start8 = not-eq _ _ (or_right a b x₄);
      position8 = not-eq _ _ (or_right (a || b) c x₃);
      from = ltb-false _ _ (or_right (a || b || c) d x₂);
      upto = ltb-false _ _ (or_right (a || b || c || d) e x₁);
      fits = ltb-false _ _ (or_right (a || b || c || d || e) f x);
    }))
    (λ _ z. absurd (omega arith))

-- the same of a refusal k that was computed
pub sound : (w : Numbers) (n : ℕ) {k : ℕ} → k ≡ numbers_refusal w n → k ≡ 0 → Sound w n
sound w n e z = sound-of w n (sym e ∙ z)

-- the end of a sound window: that of its start, or 0
pub record EndOf (start end total : ℕ) : Type 0 where
  pub inside : end ≤ total
  pub near : end ≤ start + window_size
  pub whole : (end ≡ total → ⊥) → start % 8 ≡ 0 → end % 8 ≡ 0

pub end_of : (start end total : ℕ) → wrong_end start end total ≡ false → EndOf start end total
unfolding wrong_end
end_of start end total = by (eqb end (window_end start total)) (eqb end 0) refl refl
  where
    by : (a b : Bool) → eqb end (window_end start total) ≡ a → eqb end 0 ≡ b → not (a || b) ≡ false → EndOf start end total
    by true b e f h =
        let k : end ≡ window_end start total = eqb-true _ _ e in
        record { inside = omega arith; near = omega arith; whole = λ g z. omega (arith, g) }
    by false true e f h =
        let k : end ≡ 0 = eqb-true _ _ f in
        record { inside = omega arith; near = omega arith; whole = λ g z. omega arith }
    by false false e f h = absurd (true≢false h)
