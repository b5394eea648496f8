-- What the answer of a scan of s goes out as. Assumes nothing.
use Prim.Native.Nat.{ℕ}
use mathlib.Core.Path.{◌≡◌}
use mathlib.Core.List.{List}
use Rattle.base.specs.Outcome.{Outcome}
use Rattle.base.specs.Words.{count_words, Answers}
use Rattle.base.proofs.WordLaws.{out-same, out-mapped}
use Rattle.usn_scan.specs.Outcome.{scan, scan_answer}
use Rattle.usn_ffi.specs.Scan.{scan_words}

-- the number of records that is answered is that of the records that are listed
pub journal-out : (s : List ℕ) (words : ℕ) {y : Outcome ℕ} {l m : List ℕ} {r : ℕ} → y ≡ scan_answer s words → Answers count_words y l r m → Answers scan_words (scan s words) l r m
journal-out s words e o = out-mapped (scan s words) (out-same o e)
