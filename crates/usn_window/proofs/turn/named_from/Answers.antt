-- The record with its name's place.
use Rattle.usn_window.proofs.TurnLaws.{renamed}
use Rattle.usn_window.proofs.turn.named_from.Goals as goal

pub returns : goal.returns
returns c = renamed _ _ c.place_from-r.ensures
