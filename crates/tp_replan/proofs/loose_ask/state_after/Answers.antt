-- The actions of a plan in time are the machine's.
use Rattle.std.proofs.Common.{All, arith, sym, subst}
use Rattle.tp_base.proofs.SliceFacts.{All-at}
use Rattle.tp_event_records.specs.RecordNames.{IsKnown}
use Rattle.tp_event_records.proofs.NameFacts.{acts-known}
use Rattle.tp_replan.proofs.loose_ask.state_after.Goals as goal

pub get-requires : goal.get-requires
get-requires c =
    let known = All-at (IsKnown c.args.machine.now) c.args.plan.now.acts 0 c.get-first.result (acts-known c.args.machine.now c.args.plan.now c.requires) c.get-first.ensures in
    omega (arith, known, c.from.ensures)

pub walk-requires : goal.walk-requires
walk-requires c = subst (All (IsKnown c.args.machine.now)) (sym c.as_slice.ensures.items) (acts-known c.args.machine.now c.args.plan.now c.requires)
