-- Zero words of the window are passed by the turns one after the other, so passing them at once changes nothing of the search.
-- Assumes nothing.
use Prim.Native.Nat.{ℕ, ◌+◌, ◌-◌, ◌≤◌}
use mathlib.Core.Path.{◌≡◌, refl, sym, ap, ◌∙◌}
use mathlib.Core.List.{List}
use native.Mathlib.Omega.{arith}
use lib.ListN.{length, take}
use Rattle.base.proofs.AgreeLaws.{part_length}
use Rattle.usn_record.specs.Bytes.{le_at}
use Rattle.usn_record.specs.Zeros.{PastZeros}
use Rattle.usn_record.proofs.ByteLaws.{read-part}
use Rattle.usn_record.proofs.ZeroLaws.{past-inside, past-whole, zeros-passed}
use Rattle.usn_window.specs.Window.{skipped, Ready}
use Rattle.usn_window.specs.Rule.{buffer_reads, onward, searched, Passes}
use Rattle.usn_window.specs.declared.UsnJournalReader.{UsnJournalReader}
use Rattle.usn_window.proofs.TurnLaws.{turn_below}
use Rattle.usn_window.proofs.SearchLaws.{search-step}

-- the window w at a position that lies q behind its start
abbrev at : UsnJournalReader → ℕ → UsnJournalReader
at w q = record { start = w.start; position = w.start + q; end = w.end; held = w.held; total = w.total; ended = w.ended }

module _ (b : List ℕ) (w : UsnJournalReader) (r : Ready w (length b)) where
  inside : 0 + (w.end - w.start) ≤ length b
  inside = omega (arith, r.buffer, r.near)

  pub window-length : w.end - w.start ≡ length (take (w.end - w.start) b)
  window-length = sym (part_length b 0 (w.end - w.start) inside)

  pub zeros-inside : {o p : ℕ} → o ≤ w.end - w.start → PastZeros (take (w.end - w.start) b) o p → p ≤ w.end - w.start
  zeros-inside h k = omega (arith, window-length, past-inside (take (w.end - w.start) b) k (omega (arith, window-length)))

  -- one zero word
  pass : (q : ℕ) → q + 8 ≤ length (take (w.end - w.start) b) → le_at 4 (take (w.end - w.start) b) q ≡ 0
      → searched (buffer_reads b) (at w (q + 8)) ≡ searched (buffer_reads b) (at w q)
  pass q h z =
      let l = window-length in
      let e : 0 ≡ le_at 4 b (w.start + q - w.start) =
      sym z ∙ read-part b 0 (w.end - w.start) 4 q inside (omega arith) ∙ ap (le_at 4 b) (shift q) in
      let t = turn_below (buffer_reads b) (at w q) (omega arith) e (omega arith) {v = skipped (at w q)} refl in
      ap (λ (p : ℕ). searched (buffer_reads b) (record { start = w.start; position = p; end = w.end; held = w.held; total = w.total; ended = w.ended })) (further q)
      ∙ sym (search-step (buffer_reads b) (at w q) ∙ ap (onward (λ x. x) (searched (buffer_reads b))) (sym t))
    where
      shift : (q : ℕ) → 0 + q ≡ w.start + q - w.start
      shift q = omega arith

      further : (q : ℕ) → w.start + (q + 8) ≡ w.start + q + 8
      further q = omega arith

  -- the search from the position that lies past them
  pub zeros-search : {p : ℕ} → w.position - w.start ≤ w.end - w.start → PastZeros (take (w.end - w.start) b) (w.position - w.start) p
      → {v : UsnJournalReader} → v ≡ at w p → Passes b w v
  zeros-search {p} h k e =
      let i : p ≤ w.end - w.start = zeros-inside h k in
      rw e
      (record {
        by = p - (w.position - w.start);
        is = ap (λ (n : ℕ). record { start = w.start; position = n; end = w.end; held = w.held; total = w.total; ended = w.ended }) (there k.forward);
        upto = omega (arith, r.starts);
        whole = past-whole (take (w.end - w.start) b) k;
        same = zeros-passed (take (w.end - w.start) b) (λ q. searched (buffer_reads b) (at w q)) pass k
            ∙ ap (λ (n : ℕ). searched (buffer_reads b) (record { start = w.start; position = n; end = w.end; held = w.held; total = w.total; ended = w.ended })) here;
      })
    where
      there : w.position - w.start ≤ p → w.start + p ≡ w.position + (p - (w.position - w.start))
      there f = omega (arith, r.from)

      here : w.start + (w.position - w.start) ≡ w.position
      here = omega (arith, r.from)

pub zeros-none : (b : List ℕ) (w : UsnJournalReader) → w.position ≤ w.end + 7 → Passes b w w
zeros-none b w h =
    record {
      by = 0;
      is = ap (λ (n : ℕ). record { start = w.start; position = n; end = w.end; held = w.held; total = w.total; ended = w.ended }) (nothing w.position);
      upto = h;
      whole = refl;
      same = refl;
    }
  where
    nothing : (n : ℕ) → n ≡ n + 0
    nothing n = omega arith
