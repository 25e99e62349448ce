use Rattle.std.proofs.Common.{◌≡◌, ◌-◌, ◌<◌, suc, length, arith}
use Rattle.std.proofs.lemmas.Option.{slice_get-get_or}
use Rattle.tp_placing.proofs.CrowdFacts.{planned-least}
use Rattle.tp_placing.proofs.crowded_places.least_of.Goals as goal

pub returns-in-Some : goal.returns-in-Some
returns-in-Some c y planned ticks is =
    let plans = c.args.known.plans.now in
    let firsts = c.args.known.firsts.now in
    let hold = c.args.hold.now in
    let at = c.count_to-count.result - 1 in
    let within : at < length plans = omega arith in
    let first : at < length firsts = omega (arith, c.count_to-count.ensures.within) in
    let next : hold.end.0 ≡ suc hold.start.0 = omega arith in
    let w = c.act_at.ensures c.in-Some.act c.in-Some.is in
    planned-least c.args.known.machine.now plans firsts hold at w.0 ticks _ _ c.in-Some.act (slice_get-get_or plans at c.index-known-count.result within) (slice_get-get_or firsts at (record { 0 = 0 }) first)
    w.2 w.1 next (c.least_by.ensures ticks is) y planned
