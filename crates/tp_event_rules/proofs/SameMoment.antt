-- The moment stays in the loop.
use Rattle.std.proofs.Common.{◌≡◌, true, List, refl, ◌∙◌, Option, Some, None}
use Rattle.tp_machine.specs.declared.machine.Machine.{Machine}
use Rattle.tp_schedule.specs.declared.parts.Ask.{Ask}
use Rattle.tp_schedule.specs.declared.parts.Goal.{Goal}
use Rattle.tp_schedule.specs.declared.parts.Goal.TheVariants.{Tray, Purge}
use Rattle.tp_schedule.specs.declared.parts.Plan.{Plan}
use Rattle.tp_schedule.specs.declared.parts.Reply.{Reply}
use Rattle.tp_schedule.specs.declared.parts.Reply.TheVariants.{Planned, Never, Spent}
use Rattle.tp_schedule.specs.Plans.{change_plan}
use Rattle.tp_event_rules.specs.States.{SessionState}
use Rattle.tp_event_rules.specs.AnswerRecords.{Answer}
use Rattle.tp_event_rules.specs.Fates.{to_purge}
use Rattle.tp_event_rules.specs.Loops.{next_ask, not_planned, after_reply, after_asked, after_one, after_answers}
use Rattle.tp_event_rules.proofs.LessOutages.{for_each-keeps, less-fall_back, less-outage}

now-not_planned : (machine : Machine) (ask : Ask) (goal : Goal) (s : SessionState) → (not_planned machine ask goal s).state.now ≡ s.now
now-not_planned machine ask (Tray t) s =
    (less-fall_back machine (record s { plans = change_plan ask.sheet to_purge s.plans }) (record { sheet = ask.sheet; want = ask.want; again = true })).now
now-not_planned machine ask Purge s = (less-outage machine _ true s).now

now-reply : (machine : Machine) (ask : Ask) (reply : Reply) (plans : List Plan) (s : SessionState) → (after_reply machine ask reply plans s).state.now ≡ s.now
now-reply machine ask Planned plans s = refl
now-reply machine ask Never plans s = now-not_planned machine ask ask.goal s
now-reply machine ask (Spent bound) plans s = now-not_planned machine ask ask.goal s

now-asked : (machine : Machine) (s : SessionState) (o : Option Ask) (a : Answer) → (after_asked machine s o a).state.now ≡ s.now
now-asked machine s None a = refl
now-asked machine s (Some ask) a = now-reply machine ask a.reply a.plans s

pub now-answers : (machine : Machine) (answers : List Answer) (s : SessionState) → (after_answers machine answers s).state.now ≡ s.now
now-answers machine answers s =
    for_each-keeps (λ q. q.now ≡ s.now) (after_one machine) (λ q a e. now-asked machine q (next_ask machine q) a ∙ e) answers s refl
