-- The ways out of a turn, and the turns after one another. Assumes nothing.
use Rattle.std.specs.Prelude.{Result, Ok, Err}
use Prim.Native.Nat.{ℕ, ◌+◌, ◌-◌, ◌≤◌, ◌<◌}
use mathlib.Core.Path.{◌≡◌, sym, ap, ◌∙◌}
use mathlib.Core.List.{List}
use native.Mathlib.Omega.{arith}
use borrow.Author.Tests.{lt-ltb, le-ltb}
use Rattle.base.specs.Places.{place_from}
use Rattle.base.specs.declared.Place.{Place}
use Rattle.usn_record.specs.Bytes.{le_at}
use Rattle.base.specs.Outcome.{outcome}
use Rattle.base.specs.declared.refusal.Refusal.{Refusal}
use Rattle.usn_record.specs.Record.{listed}
use Rattle.usn_record.specs.declared.UsnRecord.{UsnRecord}
use Rattle.usn_record.proofs.NameLaws.{listed-name}
use Rattle.window_numbers.specs.Numbers.{window_size}
use Rattle.usn_window.specs.Window.{refilled, skipped, advanced}
use Rattle.usn_window.specs.Rule.{Reads, named_from, reading, or_end, past_end, given, turn_by_length, turn_of}
use Rattle.usn_window.specs.declared.UsnJournalReader.{UsnJournalReader}
use Rattle.usn_window.specs.declared.Answer.TheVariants.{Record}
use Rattle.usn_window.specs.declared.turn.Turn.{Turn}
use Rattle.usn_window.specs.declared.turn.Turn.TheVariants.{Done, Again}

-- a record with another name, as code makes it
pub renamed : (o : ℕ) (r : UsnRecord) {p : Place} → p ≡ place_from o r.filename
    → ◌≡◌ {A = UsnRecord} (record {
      mft_entry = r.mft_entry;
      mft_sequence = r.mft_sequence;
      parent_mft_entry = r.parent_mft_entry;
      parent_mft_sequence = r.parent_mft_sequence;
      usn = r.usn;
      timestamp = r.timestamp;
      reason = r.reason;
      filename = p;
      file_attributes = r.file_attributes;
      source_info = r.source_info;
      security_id = r.security_id;
      major_version = r.major_version;
      minor_version = r.minor_version;
      record_length = r.record_length;
      filetime = r.filetime;
      file_reference_high = r.file_reference_high;
      parent_reference_high = r.parent_reference_high;
    }) (named_from o r)
unfolding named_from
renamed o r e = rw e

module _ (r : Reads) (w : UsnJournalReader) where
  -- fewer than 8 bytes are left
  pub turn-short : w.end < w.position + 8 → {v : UsnJournalReader} {t : Turn} → v ≡ refilled w → t ≡ or_end w v → t ≡ turn_of r w
  unfolding turn_of
  turn-short h e f = f ∙ rw e (simp (lt-ltb _ _ h))

  module _ (a : w.position + 8 ≤ w.end) {n : ℕ} (e : n ≡ r.length_at w) where
    by_length : {t : Turn} → t ≡ turn_by_length w n (r.record_at w) → t ≡ turn_of r w
    unfolding turn_of
    by_length f = f ∙ simp (le-ltb _ _ a, sym e)

    pub turn_below : n < 8 → {v : UsnJournalReader} → v ≡ skipped w → Again v ≡ turn_of r w
    unfolding turn_by_length
    turn_below h f = by_length (rw f (simp (lt-ltb _ _ h)))

    module _ (b : 8 ≤ n) where
      pub turn-above : window_size < n → {v : UsnJournalReader} → v ≡ skipped w → Again v ≡ turn_of r w
      unfolding turn_by_length
      turn-above h f = by_length (rw f (simp (le-ltb _ _ b, lt-ltb _ _ h)))

      module _ (d : n ≤ window_size) where
        module _ (g : w.end < w.position + n) where
          past : {t : Turn} → t ≡ past_end w n → t ≡ turn_of r w
          unfolding turn_by_length
          past f = by_length (f ∙ simp (le-ltb _ _ b, le-ltb _ _ d, lt-ltb _ _ g))

          pub turn-past-stream : w.total < w.position + n → {u v : UsnJournalReader} {t : Turn} → u ≡ refilled w → v ≡ skipped u → t ≡ or_end w v → t ≡ turn_of r w
          turn-past-stream h p q f = past (f ∙ rw (q, p) (simp (lt-ltb _ _ h)))

          pub turn-past : w.position + n ≤ w.total → {v : UsnJournalReader} {t : Turn} → v ≡ refilled w → t ≡ or_end w v → t ≡ turn_of r w
          turn-past h p f = past (f ∙ rw p (simp (le-ltb _ _ h)))

        module _ (g : w.position + n ≤ w.end) (p : Result UsnRecord Refusal) (q : outcome p ≡ r.record_at w) where
          inside : {t : Turn} → t ≡ given w n (outcome p) → t ≡ turn_of r w
          unfolding turn_by_length
          inside f = by_length (f ∙ rw q (simp (le-ltb _ _ b, le-ltb _ _ d, le-ltb _ _ g)))

          pub turn-record : {x y : UsnRecord} {v : UsnJournalReader} → p ≡ Ok x → y ≡ named_from (w.position - w.start) x → v ≡ advanced w n
              → Done (reading (Ok (Record w.position n y)) v) ≡ turn_of r w
          turn-record i j k = inside (rw (i, j, k))

          pub turn-rejected : {m : Refusal} {v : UsnJournalReader} → p ≡ Err m → v ≡ advanced w n → Again v ≡ turn_of r w
          turn-rejected i k = inside (rw (i, k))

-- the name of a record that was accepted lies in its n bytes
pub name-near : (s : List ℕ) (o : ℕ) (p : Result UsnRecord Refusal) {n : ℕ} {x : UsnRecord} → n ≡ le_at 4 s o → outcome p ≡ listed s o → p ≡ Ok x → x.filename.offset ≤ n
name-near s o p e q i = let h = listed-name s o (sym (ap outcome i) ∙ q) in omega arith

-- a refill followed by a skip keeps what is asked for
pub skip-fits : (u : UsnJournalReader) {v : UsnJournalReader} → v ≡ skipped u → u.start + u.held ≤ u.end → v.start + v.held ≤ v.end
skip-fits u e h = rw e h
