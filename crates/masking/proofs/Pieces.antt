-- Two runs of a window that gets its journal in two pieces: the first byte, and then the others. Computed. Assumes nothing.
use Prim.Native.Nat.{ℕ}
use mathlib.Core.Path.{◌≡◌, refl, ap, ◌∙◌}
use mathlib.Core.List.{List, [], ◌∷◌}
use lib.ListN.{length, take, drop}
use Rattle.usn_record.specs.Bytes.{le, le_at}
use Rattle.usn_record.specs.Fields.{filename_of}
use Rattle.usn_record.specs.Names.{name_at}
use Rattle.usn_record.specs.Record.{record_of, parsed, listed}
use Rattle.usn_record.specs.Sample.{sample_record}
use Rattle.window_numbers.specs.Numbers.{window_size, wrong_end, wrong_numbers, numbers_refusal}
use Rattle.usn_window.specs.Window.{wanted_of}
use Rattle.usn_window.specs.Rule.{named_from, turn_by_length, turn_of, turns, searched}
use Rattle.usn_window.specs.Calls.{next_of, give_refusal, give_of}
use Rattle.usn_window.specs.Run.{Call, next, give, reading_of, buffer_of, given_by, readings, fresh_over, shapes}
use Rattle.usn_window.specs.Owed.{nothing, owed_reached, Delivery}
use Rattle.usn_window.specs.declared.Reading.{Reading}
use Rattle.usn_window.proofs.RunLaws.{journal_reading, journal_readings, run-journal}
use Rattle.usn_window.proofs.CountLaws.{delivery-carries}
use Rattle.usn_window.proofs.TwoRuns.{fresh-filled}
use Rattle.masking.specs.Demand.{journal_names, window, window_places, Share}
use Rattle.masking.proofs.Demand.{names-decide-nothing}
use Rattle.masking.proofs.Examples.{journal, journal', image, image', entries, name, masked, images-masked}

-- ask, get the first byte, get the others, ask twice
abbrev pieces : List ℕ → List Call
pieces s = next ∷ give (take 1 s) ∷ give (drop 1 s) ∷ next ∷ next ∷ []

given-one : given_by (journal_readings journal (shapes (pieces journal)) (fresh_over journal []).window) ≡ record { offset = 0; length = 64 } ∷ []
unfolding journal_reading next_of give_of give_refusal numbers_refusal wanted_of wrong_numbers wrong_end searched turns turn_of turn_by_length named_from listed parsed record_of filename_of le_at le
given-one = refl

-- a record whose name has any first unit
module _ (a : ℕ) (b : List ℕ) (eb : length b ≡ window_size) where
  abbrev whole : List ℕ
  whole = sample_record a 0x62

  -- the journal is owed from its first byte on, and then from its second
  owed : (owed_reached (next ∷ []) nothing (fresh_over whole b)).from ≡ 0
  unfolding reading_of next_of numbers_refusal wanted_of wrong_numbers wrong_end searched turns turn_of
  owed = rw eb refl

  owed-on : (owed_reached (next ∷ give (take 1 whole) ∷ []) nothing (fresh_over whole b)).from ≡ 1
  unfolding reading_of buffer_of next_of give_of give_refusal numbers_refusal wanted_of wrong_numbers wrong_end searched turns turn_of
  owed-on = rw eb refl

  carries : Delivery whole b (pieces whole)
  carries = (tt, ((λ _. rw owed refl), ((λ _. rw owed-on refl), (tt, (tt, tt)))))

module _ (b c : List ℕ) (eb : length b ≡ window_size) (ec : length c ≡ window_size) where
  names : journal_names journal (window_places journal b (pieces journal)) ≡ name
  unfolding name_at listed parsed record_of filename_of le_at le
  names =
      ap (λ (xs : List Reading). journal_names journal (given_by xs))
      (run-journal journal (pieces journal) (fresh_over journal b) (fresh-filled journal b eb) (delivery-carries journal b (pieces journal) (carries 0x61 b eb)))
      ∙ ap (journal_names journal) given-one

  pub piece-runs : Share (window b c (pieces journal) (pieces journal')) journal journal' image image' entries
  piece-runs =
      names-decide-nothing.shares (window b c (pieces journal) (pieces journal')) journal journal' image image' entries
      (record {
        images = images-masked;
        journals = rw names masked;
        asked = record { whole = eb; whole' = ec; alike = refl; carries = carries 0x61 b eb; carries' = carries 0x20AC c ec };
      })

  -- what they share, written out
  pub window-written : readings (pieces journal') (fresh_over journal' c) ≡ readings (pieces journal) (fresh_over journal b)
  window-written = piece-runs.reader.answers
