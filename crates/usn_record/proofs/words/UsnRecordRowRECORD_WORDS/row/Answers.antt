-- The words are the fields in their order.
use mir.Syntax.{w64}
use Rattle.std.proofs.lemmas.Int.{to_z-of_z}
use Rattle.usn_record.specs.Record.{record_words}
use Rattle.usn_record.proofs.words.UsnRecordRowRECORD_WORDS.row.Goals as goal

pub returns : goal.returns
unfolding record_words
returns c =
    let r = c.args.self in
    rw (c.cast_unsigned.ensures, c.cast_unsigned-2.ensures, to_z-of_z w64 r.usn (record { sfits = c.struct_told-1.given.1.1.1.1.0.1 }), to_z-of_z w64 r.filetime (record { sfits = c.struct_told-2-1.given.1.1.1.1.1.1.1.1.1.1.1.1.1.1.0.1 }))
