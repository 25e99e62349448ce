-- A state stays sound through the loop, through an outage, and through the phase of asks.
use Rattle.std.proofs.Common.{◌≡◌, ℕ, ◌<◌, Bool, true, false, List, [], ◌∷◌, length, sym, subst, All, Some}
use Rattle.std.specs.Bool.{MatchBool}
use Rattle.std.proofs.lemmas.List.Elements.{All-head, All-tail}
use Rattle.tp_machine.specs.declared.machine.Machine.{Machine}
use Rattle.tp_schedule.specs.Answers.{IsRetimed}
use Rattle.tp_schedule.specs.PlannerAnswers.{Deed, IsAnswer, none_exempt}
use Rattle.tp_schedule.specs.PlannerAnswers.Deed.{replied, settled}
use Rattle.tp_schedule.specs.declared.parts.Ask.{Ask}
use Rattle.tp_schedule.specs.declared.parts.Plan.{Plan}
use Rattle.tp_schedule.specs.declared.parts.Reply.{Reply}
use Rattle.tp_schedule.specs.declared.parts.Reply.TheVariants.{Planned, Never, Spent}
use Rattle.tp_schedule.specs.declared.records.Record.{Record}
use Rattle.tp_jobs.specs.Backlogs.{tray_of}
use Rattle.tp_jobs.specs.declared.parts.WaitingCopy.{WaitingCopy}
use Rattle.tp_event_rules.specs.AnswerRecords.{Answer}
use Rattle.tp_event_rules.specs.AskPhase.{AsksInTurn, ask_waiting, is_full, is_passed_over, passed_after, state_after_reply}
use Rattle.tp_event_rules.specs.Loops.{after_answers, after_asked, after_one, after_reply, next_ask}
use Rattle.tp_event_rules.specs.Outages.{outage}
use Rattle.tp_event_rules.specs.Planners.{AnswersInTurn, GoesOut, IsRight, PlannerSteps}
use Rattle.tp_event_rules.specs.States.{SessionState}
use Rattle.tp_event_rules.proofs.AskSteps.{AsksFirst, TellsFull}
use Rattle.tp_event_rules.proofs.SameMoment.{now-answers}
use Rattle.tp_session.specs.Kept.{KeepsWaiting}
use Rattle.tp_session.proofs.AnswerKeeps.{stays-flight, stays-settled, stays-waiting}
use Rattle.tp_session.proofs.FateKeeps.{StaysSound}
use Rattle.tp_session.proofs.OutageKeeps.{stays-not_planned, stays-outage}

module _ {P : Type 0} (steps : PlannerSteps P) (machine : Machine) (spent : P → Machine → List Plan → Ask → ℕ → Type 0)
    (right : (p : P) (plans : List Plan) (deed : Deed) (plans' : List Plan) (p' : P) → steps.does p plans deed plans' p' → IsRight (spent p) machine plans deed plans') where
  -- the loop
  stays-reply : (p : P) (s : SessionState) (ask : Ask) (reply : Reply) (plans : List Plan) → next_ask machine s ≡ Some ask → IsAnswer (spent p) machine s.plans ask reply plans
      → StaysSound machine s → StaysSound machine (after_reply machine ask reply plans s).state
  stays-reply p s ask Planned plans e answer k = stays-flight machine s k ask e plans answer.0.alternative
  stays-reply p s ask Never plans e answer k = stays-not_planned machine s ask ask.goal e k
  stays-reply p s ask (Spent bound) plans e answer k = stays-not_planned machine s ask ask.goal e k

  stays-answers : (s : SessionState) (answers : List Answer) (p p' : P) → AnswersInTurn steps machine s answers p p' → StaysSound machine s → StaysSound machine (after_answers machine answers s).state
  stays-answers s [] p p' in_turn k = k
  stays-answers s (a ∷ answers) p p' (ask, e, (mid, does, rest)) k =
      stays-answers (after_one machine s a).state answers mid p' rest
      (subst (λ o. StaysSound machine (after_asked machine s o a).state) (sym e)
      (stays-reply p s ask a.reply a.plans e (right p s.plans (replied ask a.reply) a.plans mid does) k))

  -- a module goes out
  pub stays-goes : (s : SessionState) (m : ℕ) (jam : Bool) (p : P) (records : List Record) (s' : SessionState) (p' : P) → m < length machine.modules → GoesOut steps machine s m jam p records s' p'
      → StaysSound machine s → StaysSound machine s'
  stays-goes s m jam p records s' p' known out k =
      let o = (outage machine m jam s).state in
      let loop = out.loop in
      let t = (after_answers machine loop.answers o).state in
      let before = stays-answers o loop.answers p loop.mid loop.in_turn (stays-outage machine m jam s known k) in
      let settled = right loop.mid t.plans (settled o.now) loop.plans p' loop.settles in
      subst (StaysSound machine) (sym loop.state)
      (stays-settled machine t before loop.plans (subst (λ n. IsRetimed machine n none_exempt t.plans loop.plans) (sym (now-answers machine loop.answers o)) settled.retimed))

  -- the phase of asks
  stays-asked : (p : P) (s : SessionState) (w : WaitingCopy) (reply : Reply) (plans : List Plan) → KeepsWaiting machine w → IsAnswer (spent p) machine s.plans (ask_waiting machine s w) reply plans
      → StaysSound machine s → StaysSound machine (state_after_reply s w reply plans)
  stays-asked p s w Planned plans keeps answer k = stays-waiting machine s k w keeps plans answer.0.alternative
  stays-asked p s w Never plans keeps answer k = k
  stays-asked p s w (Spent bound) plans keeps answer k = k

  pub stays-asks : (waiting : List WaitingCopy) (passed : List ℕ) (s : SessionState) (p : P) (records : List Record) (s' : SessionState) (p' : P) → All (KeepsWaiting machine) waiting
      → AsksInTurn steps machine waiting passed s p records s' p' → StaysSound machine s → StaysSound machine s'
  stays-asks [] passed s p records s' p' all (told, is, same) k = subst (StaysSound machine) (sym is) k
  stays-asks (w ∷ waiting) passed s p records s' p' all asks k =
      go (is_passed_over s passed w) (is_full machine s) asks (λ next. stays-asks waiting passed s p records s' p' rest-all next k)
      (λ rest next. stays-asks waiting ((tray_of s.jobs w.sheet).0 ∷ passed) s p rest s' p' rest-all next k)
      (λ reply plans mid rest next. stays-asks waiting (passed_after reply (tray_of s.jobs w.sheet).0 passed) (state_after_reply s w reply plans) mid rest s' p' rest-all next) where
        rest-all : All (KeepsWaiting machine) waiting
        rest-all = All-tail (KeepsWaiting machine) w waiting all

        go : (b c : Bool) → MatchBool b (AsksInTurn steps machine waiting passed s p records s' p')
            (MatchBool c (TellsFull steps machine w waiting passed s p records s' p') (AsksFirst steps machine w waiting passed s p records s' p'))
            → (AsksInTurn steps machine waiting passed s p records s' p' → StaysSound machine s')
            → ((rest : List Record) → AsksInTurn steps machine waiting ((tray_of s.jobs w.sheet).0 ∷ passed) s p rest s' p' → StaysSound machine s')
            → ((reply : Reply) (plans : List Plan) (mid : P) (rest : List Record)
            → AsksInTurn steps machine waiting (passed_after reply (tray_of s.jobs w.sheet).0 passed) (state_after_reply s w reply plans) mid rest s' p'
            → StaysSound machine (state_after_reply s w reply plans) → StaysSound machine s')
            → StaysSound machine s'
        go true c next over full answered = over next
        go false true (rest, told, next) over full answered = full rest next
        go false false (reply, (plans, (mid, (rest, does, told, next)))) over full answered =
            answered reply plans mid rest next (stays-asked p s w reply plans (All-head (KeepsWaiting machine) w waiting all) (right p s.plans (replied (ask_waiting machine s w) reply) plans mid does) k)
