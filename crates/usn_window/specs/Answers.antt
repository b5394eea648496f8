-- What a call answers, and the refusals by their numbers.
use Rattle.std.specs.Prelude.{ℕ, cond, eqb, Result}
use Rattle.base.specs.Refusals.{above_domain, short_slice, bad_length, length_past_slice, list_full, table_full, name_outside, text_full, bad_state, too_many_bytes, bad_buffer}
use Rattle.base.specs.declared.refusal.Refusal.{Refusal}
use Rattle.base.specs.declared.refusal.Refusal.TheVariants.{AboveDomain, ShortSlice, BadLength, LengthPastSlice, ListFull, TableFull, NameOutside, TextFull, BadState, TooManyBytes, BadBuffer, NotARecord}
use Rattle.usn_window.specs.declared.Answer.{Answer}

-- an answer or a refusal
abbrev pub Answered : Type 0
Answered = Result Answer Refusal

-- the refusal with the number n, from 1 to 12
unfoldable pub refused_by : ℕ → Refusal
refused_by n =
    cond (eqb n above_domain) AboveDomain
    (cond (eqb n short_slice) ShortSlice
    (cond (eqb n bad_length) BadLength
    (cond (eqb n length_past_slice) LengthPastSlice
    (cond (eqb n list_full) ListFull
    (cond (eqb n table_full) TableFull
    (cond (eqb n name_outside) NameOutside
    (cond (eqb n text_full) TextFull
    (cond (eqb n bad_state) BadState
    (cond (eqb n too_many_bytes) TooManyBytes
    (cond (eqb n bad_buffer) BadBuffer NotARecord))))))))))
