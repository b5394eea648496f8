-- What was put from the front is the whole text.
use Rattle.std.proofs.Common.{◌≤◌, length, arith}
use Rattle.std.proofs.lemmas.Grind.{common_steps}
use Rattle.base.proofs.ListLaws.{sets-front}
use Rattle.utf16.specs.Decoding.{decoding, text_of}
use Rattle.utf16.proofs.decode_utf16.Goals as goal

pub returns : goal.returns
unfolding decoding
returns c =
    let h : length (text_of c.args.bytes.now) ≤ length c.args.text.now = grind (arith, common_steps) in
    let f = sets-front c.args.text.now (text_of c.args.bytes.now) h in
    grind (arith, common_steps)
