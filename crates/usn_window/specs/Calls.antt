-- What the calls answer, and what `give` leaves in the buffer.
use Rattle.std.specs.Prelude.{ℕ, List, cond, length, ltb, eqb, Ok, Err}
use Rattle.std.proofs.lemmas.List.Edits.{sets}
use Rattle.base.specs.Refusals.{too_many_bytes}
use Rattle.usn_window.specs.Window.{window_refusal, wanted_of, finished, fed_by}
use Rattle.usn_window.specs.Answers.{refused_by}
use Rattle.usn_window.specs.Rule.{Reads, reading, asking, searched}
use Rattle.usn_window.specs.declared.UsnJournalReader.{UsnJournalReader}
use Rattle.usn_window.specs.declared.Answer.TheVariants.{End}
use Rattle.usn_window.specs.declared.Reading.{Reading}

-- next, with a buffer of n bytes
unfoldable pub next_of : Reads → ℕ → UsnJournalReader → Reading
next_of r n w =
    cond (eqb (window_refusal w n) 0)
    (cond w.ended (reading (Ok End) w)
    (cond (eqb (wanted_of w) 0) (searched r w) (asking w)))
    (reading (Err (refused_by (window_refusal w n))) w)

-- the refusal of giving k bytes with a buffer of n, or 0
unfoldable pub give_refusal : ℕ → ℕ → UsnJournalReader → ℕ
give_refusal n k w = cond (eqb (window_refusal w n) 0) (cond (ltb (wanted_of w) k) too_many_bytes 0) (window_refusal w n)

-- giving k bytes: none while some are wanted is the end, none while none are wanted changes nothing
unfoldable pub give_of : ℕ → ℕ → UsnJournalReader → Reading
give_of n k w =
    cond (eqb (give_refusal n k w) 0)
    (cond (eqb k 0)
    (cond (eqb (wanted_of w) 0) (asking w) (reading (Ok End) (finished w)))
    (asking (fed_by w k)))
    (reading (Err (refused_by (give_refusal n k w))) w)

-- the buffer b after a giving of x: x behind the bytes that were held, or b where it is refused
unfoldable pub buffer_after : List ℕ → List ℕ → UsnJournalReader → List ℕ
buffer_after b x w = cond (eqb (give_refusal (length b) (length x) w) 0) (sets b w.held x) b
