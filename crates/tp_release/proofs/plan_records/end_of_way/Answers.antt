-- The machine has the plan's last action.
use Rattle.std.proofs.lemmas.Option.{slice_get_within}
use Rattle.tp_release.proofs.WayEnds.{end-is, has-action}
use Rattle.tp_release.proofs.plan_records.end_of_way.Goals as goal

pub get-requires : goal.get-requires
get-requires c =
    let machine = c.args.machine.now in
    let a = has-action machine c.args.plan.now _ c.get-last.result c.requires.timed c.get-last.ensures in
    rw c.from.ensures (slice_get_within machine.actions c.get-last.result.0 a.0 a.1)

pub returns : goal.returns
returns c =
    let last = rw c.len.ensures.len at c.get-last.ensures in
    end-is c.args.machine.now c.args.plan.now c.get-last.result c.get.result.now last (rw c.from.ensures at c.get.ensures)
