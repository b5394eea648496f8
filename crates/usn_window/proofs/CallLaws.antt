-- The ways out of the calls. m is the bytes that are wanted. Assumes nothing.
use Rattle.std.specs.Prelude.{Ok, Err}
use Prim.Native.Nat.{ℕ, ◌+◌, ◌≤◌, ◌<◌}
use mathlib.Core.Path.{◌≡◌, refl, sym, ◌∙◌}
use mathlib.Core.List.{List, [], ◌∷◌}
use mathlib.Core.Bool.{true, false}
use native.Mathlib.Omega.{arith}
use lib.ListN.{length}
use lib.Seq.{sets}
use borrow.Author.Tests.{lt-ltb, le-ltb, ne_eqb}
use Rattle.base.specs.Refusals.{number_of}
use Rattle.base.specs.declared.refusal.Refusal.{Refusal}
use Rattle.base.specs.declared.refusal.Refusal.TheVariants.{TooManyBytes}
use Rattle.usn_window.specs.Answers.{refused_by}
use Rattle.usn_window.specs.Window.{numbers_in, window_refusal, wanted_of, finished, fed_by}
use Rattle.usn_window.specs.Rule.{Reads, reading, asking, searched}
use Rattle.usn_window.specs.Calls.{next_of, give_refusal, give_of, buffer_after}
use Rattle.usn_window.specs.Promise.{Gives}
use Rattle.usn_window.specs.declared.UsnJournalReader.{UsnJournalReader}
use Rattle.usn_window.specs.declared.Answer.TheVariants.{End}
use Rattle.usn_window.specs.declared.Reading.{Reading}
use Rattle.window_numbers.proofs.NumberLaws.{sound-of}
use Rattle.base.proofs.RefusalLaws.{some_number}
use Rattle.usn_window.proofs.RefusalLaws.{refused_again}
use Rattle.usn_window.proofs.WindowLaws.{wanted-le}

module _ (w : UsnJournalReader) (n : ℕ) where
  module _ (r : Reads) where
    pub next-refused : {k : Refusal} → number_of k ≡ window_refusal w n → reading (Err k) w ≡ next_of r n w
    unfolding next_of
    next-refused {k} e = simp (sym e, ne_eqb _ _ (some_number k), refused_again k)

    module _ (z : window_refusal w n ≡ 0) where
      pub next-ended : w.ended ≡ true → reading (Ok End) w ≡ next_of r n w
      unfolding next_of
      next-ended h = simp (z, h)

      module _ (h : w.ended ≡ false) {m : ℕ} (f : m ≡ wanted_of w) {x : Reading} where
        pub next-asks : (m ≡ 0 → ⊥) → x ≡ asking w → x ≡ next_of r n w
        unfolding next_of
        next-asks g q = q ∙ simp (z, h, sym f, ne_eqb _ _ g)

        pub next-searches : m ≡ 0 → x ≡ searched r w → x ≡ next_of r n w
        unfolding next_of
        next-searches g q = q ∙ simp (z, h, sym f, g)

-- storing nothing changes nothing
pub sets-none : (b : List ℕ) (i : ℕ) (x : List ℕ) → length x ≡ 0 → b ≡ sets b i x
sets-none b i [] e = refl
sets-none b i (x ∷ xs) e = absurd (omega arith)

module _ (b bytes : List ℕ) (w : UsnJournalReader) where
  pub give-refused : {k : Refusal} → number_of k ≡ window_refusal w (length b) → Gives w b bytes (reading (Err k) w) b
  unfolding give_of give_refusal buffer_after
  give-refused {k} e = record { answer = simp (sym e, ne_eqb _ _ (some_number k), refused_again k); filled = simp (sym e, ne_eqb _ _ (some_number k)) }

  module _ (z : window_refusal w (length b) ≡ 0) {m : ℕ} (f : m ≡ wanted_of w) where
    pub give-too-many : m < length bytes → Gives w b bytes (reading (Err TooManyBytes) w) b
    unfolding give_of give_refusal buffer_after refused_by
    give-too-many h = record { answer = simp (z, sym f, lt-ltb _ _ h); filled = simp (z, sym f, lt-ltb _ _ h) }

    module _ (h : length bytes ≤ m) where
      -- the bytes have room behind those that are held
      pub give-fits : w.start + (w.held + length bytes) ≤ w.end
      give-fits = let s = sound-of (numbers_in w) (length b) z in omega (arith, s.fits, wanted-le w)

      pub give-nothing : length bytes ≡ 0 → m ≡ 0 → {x : Reading} → x ≡ asking w → Gives w b bytes x b
      unfolding give_of give_refusal buffer_after
      give-nothing g i q =
          record { answer = q ∙ simp (z, sym f, i, g); filled = simp (z, sym f, le-ltb _ _ h) (sets-none b w.held bytes g) }

      pub give-end : length bytes ≡ 0 → (m ≡ 0 → ⊥) → {v : UsnJournalReader} → v ≡ finished w → Gives w b bytes (reading (Ok End) v) b
      unfolding give_of give_refusal buffer_after
      give-end g i q =
          record {
            answer = rw q (simp (z, sym f, g, le-ltb m 0 (omega arith), ne_eqb _ _ i));
            filled = simp (z, sym f, le-ltb _ _ h) (sets-none b w.held bytes g);
          }

      pub give-bytes : (length bytes ≡ 0 → ⊥) → {b' : List ℕ} {v : UsnJournalReader} {x : Reading} → b' ≡ sets b w.held bytes
          → v ≡ fed_by w (length bytes) → x ≡ asking v → Gives w b bytes x b'
      unfolding give_of give_refusal buffer_after
      give-bytes g p q i =
          record { answer = i ∙ rw q (simp (z, sym f, le-ltb _ _ h, ne_eqb _ _ g)); filled = p ∙ simp (z, sym f, le-ltb _ _ h) }
