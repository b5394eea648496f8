-- The file references of the record at an offset of an extract, read without a test.
use Rattle.std.specs.Prelude.{ℕ, ◌+◌, List}
use Rattle.usn_record.specs.Bytes.{le_at}
use Rattle.usn_record.specs.Layout.{Layout, layout_of}
use Rattle.usn_record.specs.Fields.{reference_of}
use Rattle.usn_record.specs.Record.{major_at}
use Rattle.usn_record.specs.declared.UsnRecord.{UsnRecord}
use Rattle.usn_record.specs.declared.references.References.{References}

-- in layout l: that of the record's file, and that of the folder it stands in
unfoldable pub references_by : Layout → List ℕ → ℕ → References
references_by l s o =
    record {
      file = reference_of l.sequenced (le_at l.reference s (o + l.file));
      parent = reference_of l.sequenced (le_at l.reference s (o + l.parent));
    }

-- by the version field there: 2, or otherwise as 3
unfoldable pub references_at : List ℕ → ℕ → References
references_at s o = references_by (layout_of (major_at s o)) s o

-- those that a record was parsed with
abbrev pub references_of : UsnRecord → References
references_of r =
    record {
      file = record { entry = r.mft_entry; sequence = r.mft_sequence; high = r.file_reference_high };
      parent = record { entry = r.parent_mft_entry; sequence = r.parent_mft_sequence; high = r.parent_reference_high };
    }
