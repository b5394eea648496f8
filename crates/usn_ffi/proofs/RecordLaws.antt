-- What a call that answers a record goes out as, where x is its outcome with enough words. Assumes nothing.
use Prim.Native.Nat.{ℕ, ◌≤◌, ◌<◌}
use mathlib.Core.Path.{◌≡◌}
use mathlib.Core.List.{List}
use mathlib.Core.Bool.{Bool}
use lib.ListN.{length}
use Rattle.base.specs.Outcome.{Outcome}
use Rattle.base.specs.Words.{short_by, after_domain, Answers}
use Rattle.base.proofs.WordLaws.{refused-out, out-same, Domain, domain-short, domain-enough}
use Rattle.usn_record.specs.Record.{record_words}
use Rattle.usn_record.specs.declared.UsnRecord.{UsnRecord}

module _ (x : Outcome UsnRecord) (l : List ℕ) {r : ℕ} where
  pub record-short : {above : Bool} → Domain above x → length l < 19 → r ≡ short_by above → Answers record_words (after_domain 19 (length l) x) l r l
  record-short d h e = refused-out record_words (domain-short x d h e)

  pub record-answers : 19 ≤ length l → {y : Outcome UsnRecord} {m : List ℕ} → y ≡ x → Answers record_words y l r m → Answers record_words (after_domain 19 (length l) x) l r m
  record-answers h e o = rw (domain-enough x h) (out-same o e)
