use Rattle.tp_schedule.specs.Answers.{KeepsFloors}
use Rattle.tp_schedule.specs.Legality.{IsLegal}
use Rattle.tp_schedule.specs.PlannerAnswers.{none_exempt}
use Rattle.rows_sessions.proofs.clocks.told_in_turn.Given as goal

abbrev pub invariant-loop-to : goal.invariant-loop-to
invariant-loop-to l = record {
  legal : IsLegal l.machine l.schedule.plans;
  floors : KeepsFloors l.machine l.now none_exempt l.schedule.plans;
}
