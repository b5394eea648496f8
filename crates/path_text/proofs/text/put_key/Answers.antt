-- Four writes, one after the other.
use Rattle.path_text.proofs.MarkerLaws.{key-entry, key-colon, key-sequence, key-bracket, key-put}
use Rattle.path_text.proofs.text.put_key.Goals as goal

pub put_decimal-colon-requires : goal.put_decimal-colon-requires
put_decimal-colon-requires c = key-entry c.args.text.now c.args.at c.args.key c.requires

pub put_byte-sequence-requires : goal.put_byte-sequence-requires
put_byte-sequence-requires c = key-colon c.args.text.now c.args.at c.args.key c.requires c.put_decimal-colon.ensures

pub put_decimal-bracket-requires : goal.put_decimal-bracket-requires
put_decimal-bracket-requires c = key-sequence c.args.text.now c.args.at c.args.key c.requires c.put_decimal-colon.ensures c.put_byte-sequence.ensures

pub put_byte-requires : goal.put_byte-requires
put_byte-requires c = key-bracket c.args.text.now c.args.at c.args.key c.requires c.put_decimal-colon.ensures c.put_byte-sequence.ensures c.put_decimal-bracket.ensures

pub returns : goal.returns
returns c = key-put c.args.text.now c.args.at c.args.key c.requires c.put_decimal-colon.ensures c.put_byte-sequence.ensures c.put_decimal-bracket.ensures c.put_byte.ensures
