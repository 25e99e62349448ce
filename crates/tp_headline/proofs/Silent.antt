-- What befalls copies, breaks, answers and moves tell no delivery.
use Rattle.std.proofs.Common.{ℕ, List, [], ◌∷◌, refl, Option, Some, None}
use Rattle.std.proofs.lemmas.List.Elements.{All-nil, All-cons, All-append}
use Rattle.tp_machine.specs.declared.machine.Machine.{Machine}
use Rattle.tp_jobs.specs.declared.parts.Job.{Job}
use Rattle.tp_schedule.specs.Plans.{plan_of, without}
use Rattle.tp_schedule.specs.declared.parts.Plan.{Plan}
use Rattle.tp_schedule.specs.declared.records.Record.{Record}
use Rattle.tp_schedule.specs.Answers.{kept_of}
use Rattle.tp_schedule.specs.declared.parts.Ask.{Ask}
use Rattle.tp_schedule.specs.declared.parts.Reply.{Reply}
use Rattle.tp_schedule.specs.declared.parts.Reply.TheVariants.{Planned, Never, Spent}
use Rattle.tp_event_rules.specs.States.{SessionState}
use Rattle.tp_event_rules.specs.Fates.{Fate, told_by}
use Rattle.tp_event_rules.specs.FallBacks.{job_break}
use Rattle.tp_event_rules.specs.AnswerRecords.{told_of_planned, moves, told_of_reply}
use Rattle.tp_event_rules.specs.Loops.{told_releases}
use Rattle.tp_headline.proofs.Steps.{AreNoDeliveries, IsNoDelivery}
use Rattle.tp_headline.proofs.Plain.{plain-job_break, plain-moves, plain-releases, plain-told_by, silent-plain}

pub silent-nil : AreNoDeliveries []
silent-nil = All-nil IsNoDelivery

pub silent-one : (r : Record) → IsNoDelivery r → AreNoDeliveries (r ∷ [])
silent-one r other = All-cons IsNoDelivery r [] other (All-nil IsNoDelivery)

pub silent-told_by : (fate : Plan → Fate) (s : SessionState) → AreNoDeliveries (told_by fate s)
silent-told_by fate s = silent-plain (told_by fate s) (plain-told_by fate s)

pub silent-job_break : (job : ℕ) (s : SessionState) → AreNoDeliveries (job_break job s).records
silent-job_break job s = silent-plain (job_break job s).records (plain-job_break job s)

pub silent-moves : (plans plans' : List Plan) → AreNoDeliveries (moves plans plans')
silent-moves plans plans' = silent-plain (moves plans plans') (plain-moves plans plans')

pub silent-releases : (machine : Machine) (jobs : List Job) (last : ℕ) (o : Option Plan) → AreNoDeliveries (told_releases machine jobs last o)
silent-releases machine jobs last o = silent-plain (told_releases machine jobs last o) (plain-releases machine jobs last o)

silent-planned : (machine : Machine) (kept : ℕ) (o : Option Plan) → AreNoDeliveries (told_of_planned machine kept o)
silent-planned machine kept None = silent-nil
silent-planned machine kept (Some p) = silent-one _ refl

pub silent-reply : (machine : Machine) (plans : List Plan) (ask : Ask) (reply : Reply) (plans' : List Plan) → AreNoDeliveries (told_of_reply machine plans ask reply plans')
silent-reply machine plans ask Planned plans' =
    All-append IsNoDelivery (told_of_planned machine (kept_of ask) (plan_of ask.sheet plans')) (moves (without ask.sheet plans) (without ask.sheet plans'))
    (silent-planned machine (kept_of ask) (plan_of ask.sheet plans')) (silent-moves (without ask.sheet plans) (without ask.sheet plans'))
silent-reply machine plans ask Never plans' = silent-one _ refl
silent-reply machine plans ask (Spent bound) plans' = silent-one _ refl
