-- The actions of a plan in time are the machine's.
use Rattle.std.proofs.Common.{All, List, subst, sym}
use Rattle.tp_machine.specs.declared.parts.ActId.{ActId}
use Rattle.tp_event_records.specs.RecordNames.{IsKnown}
use Rattle.tp_event_records.proofs.NameFacts.{acts-known}
use Rattle.tp_chart.proofs.course.Course.of_plan.Goals as goal

pub names_of-requires : goal.names_of-requires
names_of-requires c =
    subst (λ (acts : List ActId). All (IsKnown c.args.machine.now) acts) (sym c.as_slice-2.ensures.items) (acts-known c.args.machine.now c.args.plan.now c.requires)
