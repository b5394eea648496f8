-- Each candidate is counted once, and no counter is above the number of all.
use native.Mathlib.Omega.{arith}
use Rattle.usn_carver.specs.Step.{settings_by}
use Rattle.usn_carver.proofs.RunLaws.{events-few}
use Rattle.usn_carver.proofs.FillLaws.{met-as, filling-candidates, filling-structures, filling-times, filling-counters, filling-places}
use Rattle.usn_carver.proofs.candidates.fill_list.Goals as goal

pub overflow_add-stats : goal.overflow_add-stats
overflow_add-stats c = omega (arith, filling-candidates c.loop-candidate.invariant c.in-Some.ensures.steps, events-few (settings_by c.args.limits) c.args.extract.now)

pub overflow_add-stats-in-BadStructure : goal.overflow_add-stats-in-BadStructure
overflow_add-stats-in-BadStructure c = omega (arith, filling-structures c.loop-candidate.invariant (met-as _ c.in-Some.ensures.steps c.in-BadStructure.is), events-few (settings_by c.args.limits) c.args.extract.now)

pub overflow_add-stats-in-BadTime : goal.overflow_add-stats-in-BadTime
overflow_add-stats-in-BadTime c = omega (arith, filling-times c.loop-candidate.invariant (met-as _ c.in-Some.ensures.steps c.in-BadTime.is), events-few (settings_by c.args.limits) c.args.extract.now)

pub returns : goal.returns
returns c =
    let f = c.loop-candidate.invariant in
    let e = c.in-None.ensures.steps.0 in
    record { counters = filling-counters f e; places = filling-places f e c.requires }
