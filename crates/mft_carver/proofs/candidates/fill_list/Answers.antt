-- Each candidate is counted once, and no counter is above the number of all.
use native.Mathlib.Omega.{arith}
use Rattle.mft_carver.proofs.RunLaws.{events-below}
use Rattle.mft_carver.proofs.FillLaws.{met-as, filling-candidates, filling-rejections, filling-list}
use Rattle.mft_carver.proofs.candidates.fill_list.Goals as goal

pub overflow_add-stats : goal.overflow_add-stats
overflow_add-stats c = let i = c.args.image in omega (arith, filling-candidates c.loop-candidate.invariant c.in-Some.ensures.steps, events-below i.settings i.bytes.now i.sized, i.within)

pub overflow_add-stats-in-Rejected : goal.overflow_add-stats-in-Rejected
overflow_add-stats-in-Rejected c = let i = c.args.image in omega (arith, filling-rejections c.loop-candidate.invariant (met-as c.in-Some.ensures.steps c.in-Rejected.is), events-below i.settings i.bytes.now i.sized, i.within)

pub returns-clause-list_after : goal.returns-clause-list_after
returns-clause-list_after c = filling-list c.loop-candidate.invariant c.in-None.ensures.steps.0 c.requires
