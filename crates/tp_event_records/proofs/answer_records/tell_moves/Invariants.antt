use Rattle.std.proofs.Common.{◌≡◌, ◌++◌, List, drop}
use Rattle.tp_schedule.specs.declared.parts.Plan.{Plan}
use Rattle.tp_event_rules.specs.AnswerRecords.{moves}
use Rattle.tp_event_records.specs.RecordNames.{others, points_of}
use Rattle.tp_event_records.proofs.answer_records.tell_moves.Given as goal

abbrev pub invariant-moves : goal.invariant-moves
invariant-moves l = (plans : List Plan) → l.before ≡ points_of plans
    → l.notes.items ++ moves (drop l.place plans) (others l.asked (drop l.at l.after.plans)) ≡ l.fn.notes.items ++ moves plans (others l.asked l.after.plans)
