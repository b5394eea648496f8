-- Two runs of a window that really differ, with deliveries that differ as well; and journals in reads of one byte. Assumes nothing.
use Prim.Native.Nat.{ℕ}
use mathlib.Core.Path.{◌≡◌, refl, sym, ap, ◌∙◌}
use mathlib.Core.List.{List, [], ◌∷◌, ◌++◌}
use native.Mathlib.Omega.{arith}
use lib.ListN.{length, get_or, replicate}
use lib.Seq.{take_all}
use Rattle.base.specs.Masked.{Masked, places_of}
use Rattle.base.proofs.MaskedLaws.{masked-middle}
use Rattle.usn_record.specs.Bytes.{le, le_at, le_bytes}
use Rattle.usn_record.specs.Names.{name_at}
use Rattle.usn_record.specs.Sample.{created_fixed, sample_fields, sample_record, record_e}
use Rattle.usn_record.proofs.SampleLaws.{sample-listed, sample-named}
use Rattle.window_numbers.specs.Numbers.{window_size, wrong_end, wrong_numbers, numbers_refusal}
use Rattle.usn_window.specs.Window.{wanted_of}
use Rattle.usn_window.specs.Rule.{named_from, turn_by_length, turn_of, turns, searched}
use Rattle.usn_window.specs.Calls.{next_of, give_refusal, give_of}
use Rattle.usn_window.specs.Journal.{step_at, steps, to_come, window_list}
use Rattle.usn_window.specs.Run.{Call, next, give, reading_of, readings, given_by, fresh_over, shapes}
use Rattle.usn_window.specs.Owed.{nothing, asked_by, Delivery}
use Rattle.usn_window.specs.Delivery.{Got, ended, records_at, deliver, journal_records, Way}
use Rattle.usn_window.specs.declared.Reading.{Reading}
use Rattle.usn_window.proofs.RunLaws.{journal_reading, journal_readings, run-journal}
use Rattle.usn_window.proofs.CountLaws.{delivery-carries}
use Rattle.usn_window.proofs.FullReads.{short-reads-give-what-full-reads-give}
use Rattle.usn_window.proofs.TwoRuns.{fresh-filled, window-two-runs}

-- the record with another first unit in its name
abbrev other : List ℕ
other = sample_record 0x63 0x62

pub differs : other ≡ record_e → ⊥
differs e = let z : ◌≡◌ {A = ℕ} 0x63 0x61 = ap (λ (s : List ℕ). get_or s 60 0) e in omega arith

-- the journal's list is the record
pub list-E : window_list record_e ≡ record { offset = 0; length = 64 } ∷ []
unfolding to_come steps step_at le_at le
list-E = rw (sample-listed 0x61 0x62) refl

-- ask, get the whole record, ask twice more
abbrev calls : List ℕ → List Call
calls s = next ∷ give s ∷ next ∷ next ∷ []

given-E : given_by (journal_readings record_e (shapes (calls record_e)) (fresh_over record_e []).window) ≡ record { offset = 0; length = 64 } ∷ []
unfolding journal_reading next_of give_of give_refusal numbers_refusal wanted_of wrong_numbers wrong_end searched turns turn_of turn_by_length le_at le
given-E = rw (sample-listed 0x61 0x62) refl

-- the window that waits for a journal of 64 bytes
module _ (s b : List ℕ) (es : length s ≡ 64) (eb : length b ≡ window_size) where
  waits : (asked_by (reading_of next (fresh_over s b)).answer).from ≡ 0
  unfolding reading_of next_of numbers_refusal wanted_of wrong_numbers wrong_end searched turns turn_of
  waits = rw (eb, es) refl

  carries : Delivery s b (calls s)
  carries = (tt, ((λ _. rw waits (sym (take_all (length s) s (omega arith)))), (tt, (tt, tt))))

-- both runs: the same answers and windows, though the journals differ
module _ (b c : List ℕ) (eb : length b ≡ window_size) (ec : length c ≡ window_size) where
  names-E : places_of (λ p. name_at record_e p.offset) (given_by (readings (calls record_e) (fresh_over record_e b))) ≡ record { offset = 60; length = 4 } ∷ []
  names-E =
      ap (λ (xs : List Reading). places_of (λ p. name_at record_e p.offset) (given_by xs))
      (run-journal record_e (calls record_e) (fresh_over record_e b) (fresh-filled record_e b eb) (delivery-carries record_e b (calls record_e) (carries record_e b refl eb)))
      ∙ ap (places_of (λ p. name_at record_e p.offset)) given-E
      ∙ rw (sample-named 0x61 0x62) refl

  masked-E : Masked record_e other (places_of (λ p. name_at record_e p.offset) (given_by (readings (calls record_e) (fresh_over record_e b))))
  masked-E =
      rw names-E (masked-middle created_fixed (le_bytes 2 0x61 ++ le_bytes 2 0x62) (le_bytes 2 0x63 ++ le_bytes 2 0x62) [] refl)

  pub alike : readings (calls other) (fresh_over other c) ≡ readings (calls record_e) (fresh_over record_e b)
  alike = (window-two-runs record_e other b c eb ec (calls record_e) (calls other) refl (carries record_e b refl eb) (carries other c refl ec) masked-E).0

-- The record in reads of one byte: its 64 bytes, and what is got of them.
abbrev bytes_e : List ℕ
bytes_e =
    0x40 ∷ 0 ∷ 0 ∷ 0 ∷ 2 ∷ 0 ∷ 0 ∷ 0
    ∷ 42 ∷ 0 ∷ 0 ∷ 0 ∷ 0 ∷ 0 ∷ 3 ∷ 0
    ∷ 5 ∷ 0 ∷ 0 ∷ 0 ∷ 0 ∷ 0 ∷ 5 ∷ 0
    ∷ 0 ∷ 0x10 ∷ 0 ∷ 0 ∷ 0 ∷ 0 ∷ 0 ∷ 0
    ∷ 0 ∷ 0x40 ∷ 0x6D ∷ 0x25 ∷ 0xEB ∷ 0x53 ∷ 0xBF ∷ 0x1
    ∷ 0 ∷ 1 ∷ 0 ∷ 0 ∷ 0 ∷ 0 ∷ 0 ∷ 0
    ∷ 0 ∷ 0 ∷ 0 ∷ 0 ∷ 0x20 ∷ 0 ∷ 0 ∷ 0
    ∷ 4 ∷ 0 ∷ 60 ∷ 0 ∷ 0x61 ∷ 0 ∷ 0x62 ∷ 0
    ∷ []

-- the same bytes as the sample's
pub same-E : bytes_e ≡ record_e
same-E = refl

abbrev got-E : Got
got-E = record { place = record { offset = 0; length = 64 }; fields = sample_fields; name = 0x61 ∷ 0 ∷ 0x62 ∷ 0 ∷ [] }

own-E : journal_records bytes_e ≡ got-E ∷ []
unfolding named_from
own-E = ap (records_at record_e) list-E ∙ rw (sample-listed 0x61 0x62) refl

-- one byte at a time: 273 calls are enough
pub E-byte-by-byte : (b : List ℕ) → length b ≡ window_size → deliver bytes_e (replicate 273 1) nothing (fresh_over bytes_e b) ≡ ended (got-E ∷ [])
E-byte-by-byte b e =
    let w : Way (length bytes_e) = record { sizes = replicate 273 1; buffer = b; enough = omega arith; whole = e } in
    (short-reads-give-what-full-reads-give bytes_e (omega arith)).all w ∙ ap ended own-E

-- a journal of no bytes, and one of three, too short for a record
pub empty-byte-by-byte : (b : List ℕ) → length b ≡ window_size → deliver [] (replicate 17 1) nothing (fresh_over [] b) ≡ ended []
unfolding to_come steps step_at
empty-byte-by-byte b e =
    let w : Way 0 = record { sizes = replicate 17 1; buffer = b; enough = omega arith; whole = e } in
    (short-reads-give-what-full-reads-give [] (omega arith)).all w

pub short-byte-by-byte : (b : List ℕ) → length b ≡ window_size → deliver (7 ∷ 7 ∷ 7 ∷ []) (replicate 29 1) nothing (fresh_over (7 ∷ 7 ∷ 7 ∷ []) b) ≡ ended []
unfolding to_come steps step_at
short-byte-by-byte b e =
    let w : Way 3 = record { sizes = replicate 29 1; buffer = b; enough = omega arith; whole = e } in
    (short-reads-give-what-full-reads-give (7 ∷ 7 ∷ 7 ∷ []) (omega arith)).all w
