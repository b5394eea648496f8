-- Bytes that carry the journal, given behind those that are held, leave the buffer holding the journal. Assumes nothing.
use Prim.Native.Nat.{ℕ, ◌+◌, ◌-◌, ◌≤◌, ◌<◌}
use mathlib.Core.Path.{◌≡◌, refl, ap, ◌∙◌}
use mathlib.Core.List.{List, ◌++◌, append_assoc}
use mathlib.Core.Bool.{Bool, true, false, cond}
use native.Mathlib.Omega.{arith}
use lib.ListN.{length, get_or, take, drop, get_or-append}
use lib.Seq.{sets, sets-eq, length-sets, length-take-le, get_or-take, get_or-append-add}
use lib.Dec.{ltb, eqb}
use borrow.Author.Tests.{ltb-true, ltb-false, eqb-true, eqb-false}
use Rattle.base.specs.Places.{part}
use Rattle.base.specs.Refusals.{too_many_bytes}
use Rattle.base.proofs.ChoiceLaws.{cond_cases, cond-two}
use Rattle.base.proofs.AgreeLaws.{part_in}
use Rattle.usn_window.specs.Window.{numbers_in, window_refusal, wanted_of, fed_by}
use Rattle.usn_window.specs.Calls.{give_refusal, give_of, buffer_after}
use Rattle.usn_window.specs.declared.UsnJournalReader.{UsnJournalReader}
use Rattle.usn_window.specs.declared.Reading.{Reading}
use Rattle.window_numbers.proofs.NumberLaws.{sound-of, end_of}
use Rattle.usn_window.proofs.WindowLaws.{Sound, wanted-le}
use Rattle.usn_window.proofs.CallLaws.{sets-none}
use Rattle.usn_window.proofs.BufferLaws.{Filled}

-- a giving that is not refused
pub give-accepted : (n k : ℕ) (w : UsnJournalReader) → give_refusal n k w ≡ 0 → Sound w n × (k ≤ wanted_of w)
unfolding give_refusal
give-accepted n k w =
    by (eqb (window_refusal w n) 0) refl
  where
    by : (t : Bool) → eqb (window_refusal w n) 0 ≡ t → cond t (cond (ltb (wanted_of w) k) too_many_bytes 0) (window_refusal w n) ≡ 0 → Sound w n × (k ≤ wanted_of w)
    by true e = cond_cases (λ (r : ℕ). r ≡ 0 → Sound w n × (k ≤ wanted_of w)) (ltb (wanted_of w) k) (λ _ z. absurd (omega arith)) (λ f _. (sound-of (numbers_in w) n (eqb-true _ _ e), ltb-false _ _ f))
    by false e = λ z. absurd (eqb-false (window_refusal w n) 0 e z)

-- what stands in a list after stores
module _ (b : List ℕ) (h : ℕ) (x : List ℕ) (k : h + length x ≤ length b) where
  split : sets b h x ≡ take h b ++ (x ++ drop (h + length x) b)
  split = sets-eq x b h k ∙ append_assoc (take h b) x (drop (h + length x) b)

  stored_low : (i : ℕ) → i < h → get_or (sets b h x) i 0 ≡ get_or b i 0
  stored_low i l =
      rw split
      (get_or-append (take h b) (x ++ drop (h + length x) b) 0 i (omega (arith, length-take-le h b (omega arith))) ∙ get_or-take h b i 0 l)

  stored-high : (j : ℕ) → j < length x → get_or (sets b h x) (h + j) 0 ≡ get_or x j 0
  stored-high j l =
      let e : length (take h b) ≡ h = length-take-le h b (omega arith) in
      let r = get_or-append-add (take h b) (x ++ drop (h + length x) b) j 0 in
      rw split ((rw e at r) ∙ get_or-append x (drop (h + length x) b) 0 j l)

module _ (s b : List ℕ) (w : UsnJournalReader) (x : List ℕ) (f : Filled s b w) where
  fed-filled : Sound w (length b) → length x ≤ wanted_of w → x ≡ part s (w.start + w.held) (length x) → Filled s (sets b w.held x) (fed_by w (length x))
  fed-filled sd l c =
      record {
        size = length-sets b w.held x ∙ f.size;
        total = f.total;
        bytes = λ i k. at i (omega arith) (ltb i w.held) refl;
      }
    where
      room : w.held + length x ≤ length b
      room = omega (arith, sd.fits, sd.buffer, (end_of _ _ _ sd.ends).near, wanted-le w)

      at : (i : ℕ) → i < w.held + length x → (t : Bool) → ltb i w.held ≡ t → get_or (sets b w.held x) i 0 ≡ get_or s (w.start + i) 0
      at i k true e =
          let m : i < w.held = ltb-true i w.held e in
          stored_low b w.held x room i m ∙ f.bytes i m
      at i k false e =
          let m : w.held ≤ i = ltb-false i w.held e in
          let j : w.held + (i - w.held) ≡ i = omega arith in
          let p = stored-high b w.held x room (i - w.held) (omega arith) in
          let q : get_or x (i - w.held) 0 ≡ get_or s (w.start + w.held + (i - w.held)) 0 =
          ap (λ (y : List ℕ). get_or y (i - w.held) 0) c ∙ part_in s (w.start + w.held) (length x) (i - w.held) (omega arith) in
          let n : w.start + w.held + (i - w.held) ≡ w.start + i = omega arith in
          (rw j at p) ∙ (rw n at q)

  same-buffer : {v : UsnJournalReader} → v.total ≡ w.total → v.start ≡ w.start → v.held ≡ w.held → length x ≡ 0 → Filled s (sets b w.held x) v
  same-buffer t e h z =
      rw (← (sets-none b w.held x z)) (record { size = f.size; total = t ∙ f.total; bytes = λ i l. rw e (f.bytes i (omega arith)) })

  pub give-filled : (give_refusal (length b) (length x) w ≡ 0 → x ≡ part s (w.start + w.held) (length x))
      → Filled s (buffer_after b x w) (give_of (length b) (length x) w).reader
  unfolding buffer_after give_of
  give-filled c =
      cond-two (λ (y : List ℕ) (z : Reading). Filled s y z.reader) (eqb (give_refusal (length b) (length x) w) 0)
      (λ a. let g = give-accepted (length b) (length x) w (eqb-true _ _ a) in
      cond_cases (λ (z : Reading). Filled s (sets b w.held x) z.reader) (eqb (length x) 0)
      (λ z. cond_cases (λ (z : Reading). Filled s (sets b w.held x) z.reader) (eqb (wanted_of w) 0)
      (λ _. same-buffer refl refl refl (eqb-true _ _ z)) (λ _. same-buffer refl refl refl (eqb-true _ _ z)))
      (λ _. fed-filled g.0 g.1 (c (eqb-true _ _ a))))
      (λ _. f)
