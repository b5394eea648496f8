-- Each way out by the tests that led to it.
use native.Mathlib.Omega.{arith}
use Rattle.usn_window.proofs.TurnLaws.{turn-short, turn_below, turn-above, turn-past-stream, turn-past, turn-record, turn-rejected, name-near, skip-fits}
use Rattle.usn_window.proofs.WindowLaws.{refill-fits}
use Rattle.usn_window.proofs.UsnJournalReader.turn.Goals as goal

pub or_end-requires : goal.or_end-requires
or_end-requires c = refill-fits c.requires c.refill.ensures

pub returns-then-self : goal.returns-then-self
returns-then-self c = turn-short _ _ (omega arith) c.refill.ensures c.or_end.ensures

pub returns-then-n-lt8 : goal.returns-then-n-lt8
returns-then-n-lt8 c = turn_below _ _ (omega arith) c.le_u32-n.ensures (omega arith) c.skip.ensures

pub returns-then-n-gt-BUF_SIZE : goal.returns-then-n-gt-BUF_SIZE
returns-then-n-gt-BUF_SIZE c = turn-above _ _ (omega arith) c.le_u32-n.ensures (omega arith) (omega arith) c.skip-then-n-gt-BUF_SIZE.ensures

pub skip-requires-then-self-n-2 : goal.skip-requires-then-self-n-2
skip-requires-then-self-n-2 c = rw c.refill-then-self-n-2.ensures (omega (arith, c.requires.small, c.requires.inside, c.requires.upto))

pub or_end-requires-then-self-n-2 : goal.or_end-requires-then-self-n-2
or_end-requires-then-self-n-2 c = λ g. skip-fits _ c.skip-then-self-n-2.ensures (refill-fits c.requires c.refill-then-self-n-2.ensures g)

pub returns-then-self-n-2 : goal.returns-then-self-n-2
returns-then-self-n-2 c = turn-past-stream _ _ (omega arith) c.le_u32-n.ensures (omega arith) (omega arith) (omega arith) (omega arith) c.refill-then-self-n-2.ensures c.skip-then-self-n-2.ensures c.or_end-then-self-n-2.ensures

pub or_end-requires-then-self-n : goal.or_end-requires-then-self-n
or_end-requires-then-self-n c = refill-fits c.requires c.refill-then-self-n.ensures

pub returns-then-self-n : goal.returns-then-self-n
returns-then-self-n c = turn-past _ _ (omega arith) c.le_u32-n.ensures (omega arith) (omega arith) (omega arith) (omega arith) c.refill-then-self-n.ensures c.or_end-then-self-n.ensures

pub named_from-requires : goal.named_from-requires
named_from-requires c = omega (arith, c.requires.small, c.requires.inside, c.requires.upto, name-near _ _ _ c.le_u32-n.ensures c.listed_record.ensures c.in-Ok.is)

pub advance-requires : goal.advance-requires
advance-requires c = omega (arith, c.requires.small, c.requires.inside, c.requires.upto)

pub returns-in-Ok : goal.returns-in-Ok
returns-in-Ok c = turn-record _ _ (omega arith) c.le_u32-n.ensures (omega arith) (omega arith) (omega arith) _ c.listed_record.ensures c.in-Ok.is c.named_from.ensures c.advance.ensures

pub returns-in-Err : goal.returns-in-Err
returns-in-Err c = turn-rejected _ _ (omega arith) c.le_u32-n.ensures (omega arith) (omega arith) (omega arith) _ c.listed_record.ensures c.in-Err.is c.advance-in-Err.ensures
