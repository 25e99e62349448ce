-- Of an answer that moved no other plan nothing is reported but the answer.
use Rattle.std.proofs.Common.{◌≡◌, ◌∙◌, List, [], ◌∷◌, ◌++◌, refl, ap, sym}
use Rattle.std.proofs.lemmas.List.{append-nil}
use Rattle.std.proofs.lemmas.Slice.Eq.{bytes_eq-Decides}
use Rattle.tp_machine.specs.declared.machine.Machine.{Machine}
use Rattle.tp_schedule.specs.Answers.{kept_of}
use Rattle.tp_schedule.specs.Plans.{plan_of, without}
use Rattle.tp_schedule.specs.declared.parts.Ask.{Ask}
use Rattle.tp_schedule.specs.declared.parts.Plan.{Plan}
use Rattle.tp_schedule.specs.declared.parts.Reply.{Reply}
use Rattle.tp_schedule.specs.declared.parts.Reply.TheVariants.{Planned, Never, Spent}
use Rattle.tp_event_rules.specs.AnswerRecords.{moves, told_of_planned, told_of_reply}
use Rattle.tp_event_records.specs.RecordNames.{told_alone}

none-moved : (plans : List Plan) → moves plans plans ≡ []
none-moved [] = refl
none-moved (p ∷ plans) = rw ((bytes_eq-Decides p.points p.points).1 refl) (none-moved plans)

-- where the other plans are the same, what is reported of the answer alone is all that is reported
pub alone-is : (machine : Machine) (plans after : List Plan) (ask : Ask) (reply : Reply) → without ask.sheet after ≡ without ask.sheet plans → told_alone machine ask reply after ≡ told_of_reply machine plans ask reply after
alone-is machine plans after ask Planned same =
    let planned = told_of_planned machine (kept_of ask) (plan_of ask.sheet after) in
    sym (ap (λ rs. planned ++ rs) (ap (λ qs. moves (without ask.sheet plans) qs) same ∙ none-moved (without ask.sheet plans)) ∙ append-nil planned)
alone-is machine plans after ask Never same = refl
alone-is machine plans after ask (Spent bound) same = refl
