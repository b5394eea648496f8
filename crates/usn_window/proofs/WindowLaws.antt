-- What is known of a window that is not refused, its refill, and what it wants. Assumes nothing.
use Prim.Native.Nat.{ℕ, ◌+◌, ◌-◌, ◌%◌, ◌≤◌}
use mathlib.Core.Path.{◌≡◌}
use mathlib.Core.Bool.{true, false}
use native.Mathlib.Omega.{arith}
use Rattle.base.proofs.ChoiceLaws.{cond_cases}
use Rattle.window_numbers.proofs.NumberLaws.{end_of, Sound as SoundNumbers}
use Rattle.usn_window.specs.Window.{numbers_in, wanted_of, refilled, Ready}
use Rattle.usn_window.specs.declared.UsnJournalReader.{UsnJournalReader}

-- a window whose numbers are not refused
abbrev pub Sound : UsnJournalReader → ℕ → Type 0
Sound w n = SoundNumbers (numbers_in w) n

pub ready_of : (w : UsnJournalReader) {n : ℕ} → Sound w n → Ready w n
ready_of w s =
    let e = end_of _ _ _ s.ends in
    record {
      buffer = s.buffer;
      small = s.small;
      inside = e.inside;
      starts = omega (arith, s.fits);
      near = e.near;
      from = s.from;
      upto = omega (arith, s.upto);
      position8 = s.position8;
      end8 = λ g. e.whole g s.start8;
    }

-- a window before the stream's end is refilled inside the stream
pub refill-fits : {w v : UsnJournalReader} {n : ℕ} → Ready w n → v ≡ refilled w → (w.end ≡ w.total → ⊥) → v.start + v.held ≤ v.end
refill-fits {w} {v} r e g =
    let k : w.end % 8 ≡ 0 = r.end8 g in
    rw e (omega (arith, r.position8, r.upto, r.inside))

-- what a window wants
pub wants-none : (w : UsnJournalReader) → w.ended ≡ true → 0 ≡ wanted_of w
unfolding wanted_of
wants-none w e = rw e

pub wants-rest : (w : UsnJournalReader) → w.ended ≡ false → w.end - w.start - w.held ≡ wanted_of w
unfolding wanted_of
wants-rest w e = rw e

pub wanted-le : (w : UsnJournalReader) → wanted_of w ≤ w.end - w.start - w.held
unfolding wanted_of
wanted-le w = cond_cases (λ (n : ℕ). n ≤ w.end - w.start - w.held) w.ended (λ _. omega arith) (λ _. omega arith)
