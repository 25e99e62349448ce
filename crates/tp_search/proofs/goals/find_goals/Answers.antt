-- The goal at a tray of the machine is the only one.
use Rattle.std.proofs.Common.{◌<◌, Contains, length, sym, subst, ◌∙◌}
use Rattle.std.proofs.lemmas.List.Elements.{All-contains}
use Rattle.tp_machine.specs.Machines.{IsLocation}
use Rattle.tp_machine.specs.declared.parts.State.{State}
use Rattle.tp_machine.proofs.MachineFacts.{is_machine}
use Rattle.tp_schedule.specs.PlannerAnswers.{IsKnownGoal}
use Rattle.tp_schedule.specs.Routes.{IsGoalState}
use Rattle.tp_search.proofs.goals.find_goals.Goals as goal

pub find_finished-requires-clause-known : goal.find_finished-requires-clause-known
find_finished-requires-clause-known g c =
    let machine = c.args.problem.machine.now in
    let known : Contains machine.trays c.in-Tray.tray = subst (IsKnownGoal machine) c.in-Tray.is c.requires.goal in
    subst (λ (s : State). s.loc.0 < length machine.locations) (sym c.finished-state.ensures) (All-contains (IsLocation machine) machine.trays c.in-Tray.tray (is_machine machine).trays known)

pub find_finished-requires-clause-only : goal.find_finished-requires-clause-only
find_finished-requires-clause-only g c state is =
    subst (λ goal'. IsGoalState c.args.problem.machine.now c.args.problem.ask.now.want goal' state) c.in-Tray.is is ∙ sym c.finished-state.ensures
