-- By the end's cases: a full stop, or a word and the key.
use mathlib.Core.Path.{ap}
use native.Mathlib.Omega.{arith}
use lib.ListN.{length}
use Rattle.utf16.proofs.PutLaws.{put_as}
use Rattle.path_text.specs.Text.{unknown_word, unresolved_word, key_text}
use Rattle.path_text.proofs.MarkerLaws.{first-room, second-room, both-put, end-root, end-unknown, end-unresolved}
use Rattle.path_text.proofs.text.put_end.Goals as goal

pub put_byte-requires : goal.put_byte-requires
put_byte-requires c = omega (arith, c.requires, ap length (end-root c.in-Root.is))

pub put_bytes-to-requires : goal.put_bytes-to-requires
put_bytes-to-requires c =
    first-room c.args.text.now c.args.at unknown_word (key_text c.in-Unknown.key) (end-unknown c.in-Unknown.is) c.requires

pub put_key-requires : goal.put_key-requires
put_key-requires c =
    second-room c.args.text.now c.args.at unknown_word (key_text c.in-Unknown.key) (end-unknown c.in-Unknown.is) c.put_bytes-to.ensures c.requires

pub put_bytes-to-requires-in-Unresolved : goal.put_bytes-to-requires-in-Unresolved
put_bytes-to-requires-in-Unresolved c =
    first-room c.args.text.now c.args.at unresolved_word (key_text c.in-Unresolved.key) (end-unresolved c.in-Unresolved.is) c.requires

pub put_key-requires-in-Unresolved : goal.put_key-requires-in-Unresolved
put_key-requires-in-Unresolved c =
    second-room c.args.text.now c.args.at unresolved_word (key_text c.in-Unresolved.key) (end-unresolved c.in-Unresolved.is) c.put_bytes-to-in-Unresolved.ensures c.requires

pub returns-in-Root : goal.returns-in-Root
returns-in-Root c = put_as c.args.text.now c.args.at (end-root c.in-Root.is) c.put_byte.ensures

pub returns-in-Unknown : goal.returns-in-Unknown
returns-in-Unknown c =
    both-put c.args.text.now c.args.at unknown_word (key_text c.in-Unknown.key) (end-unknown c.in-Unknown.is) c.put_bytes-to.ensures c.put_key.ensures

pub returns-in-Unresolved : goal.returns-in-Unresolved
returns-in-Unresolved c =
    both-put c.args.text.now c.args.at unresolved_word (key_text c.in-Unresolved.key) (end-unresolved c.in-Unresolved.is) c.put_bytes-to-in-Unresolved.ensures c.put_key-in-Unresolved.ensures
