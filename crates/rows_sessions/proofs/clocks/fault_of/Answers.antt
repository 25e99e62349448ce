-- Nothing stands on an empty schedule.
use Rattle.std.proofs.Common.{sym, subst, arith}
use Rattle.tp_schedule.specs.Answers.{KeepsFloors}
use Rattle.tp_schedule.specs.Legality.{IsLegal}
use Rattle.tp_schedule.specs.PlannerAnswers.{none_exempt}
use Rattle.rows_sessions.proofs.ClockFacts.{legal-none}
use Rattle.rows_sessions.proofs.clocks.fault_of.Goals as goal

pub advance-requires-clause-legal : goal.advance-requires-clause-legal
advance-requires-clause-legal c = subst (IsLegal c.args.machine.now) (sym c.new-schedule.ensures.empty) (legal-none c.args.machine.now)

pub advance-requires-clause-floors : goal.advance-requires-clause-floors
advance-requires-clause-floors c =
    subst (KeepsFloors c.args.machine.now c.args.now none_exempt) (sym c.new-schedule.ensures.empty) (λ p in'. absurd (let h = in'.1 in omega arith))
