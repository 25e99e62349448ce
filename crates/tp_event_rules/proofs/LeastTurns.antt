-- After a module went out the schedule is least, and it stays so through all turns but those that move the clock.
use Rattle.std.proofs.Common.{◌≡◌, ℕ, Bool, true, false, List, [], ◌∷◌, sym, subst, Option, Some, None}
use Rattle.std.specs.Bool.{MatchBool}
use Rattle.std.specs.Option.{MatchOption}
use Rattle.tp_machine.specs.declared.machine.Machine.{Machine}
use Rattle.tp_script.specs.declared.event.Event.{Event}
use Rattle.tp_script.specs.declared.event.Event.TheVariants.{Bad, Job as NewJob, Clock, Jam, Off, On, Refill}
use Rattle.tp_jobs.specs.declared.parts.WaitingCopy.{WaitingCopy}
use Rattle.tp_schedule.specs.Answers.{IsLeast}
use Rattle.tp_schedule.specs.PlannerAnswers.{Deed, IsAnswer, none_exempt}
use Rattle.tp_schedule.specs.PlannerAnswers.Deed.{replied, settled}
use Rattle.tp_schedule.specs.declared.parts.Ask.{Ask}
use Rattle.tp_schedule.specs.declared.parts.Plan.{Plan}
use Rattle.tp_schedule.specs.declared.parts.Reply.{Reply}
use Rattle.tp_schedule.specs.declared.parts.Reply.TheVariants.{Planned, Never, Spent}
use Rattle.tp_schedule.specs.declared.records.Cause.{Cause}
use Rattle.tp_schedule.specs.declared.records.Record.{Record}
use Rattle.tp_schedule.specs.declared.records.Record.TheVariants.{Refused}
use Rattle.tp_jobs.specs.Backlogs.{tray_of}
use Rattle.tp_event_rules.specs.AskPhase.{AsksInTurn, ask_waiting, is_full, is_passed_over, passed_after, state_after_reply}
use Rattle.tp_event_rules.specs.StateInvariants.{IsLeastAt}
use Rattle.tp_event_rules.specs.Laws.{IsNoClock, TurnsKeep, is_clock}
use Rattle.tp_event_rules.specs.Loops.{after_answers}
use Rattle.tp_event_rules.specs.Outages.{outage}
use Rattle.tp_event_rules.specs.Planners.{PlannerSteps, IsRight, RunsLoop}
use Rattle.tp_event_rules.specs.Refusals.{refusal}
use Rattle.tp_event_rules.specs.States.{SessionState}
use Rattle.tp_event_rules.specs.Turns.{Begins, Accepts}
use Rattle.tp_event_rules.proofs.AskSteps.{AsksFirst, TellsFull}
use Rattle.tp_event_rules.proofs.AskedKept.{least-asked}
use Rattle.tp_event_rules.proofs.SameMoment.{now-answers}

module _ {P : Type 0} (steps : PlannerSteps P) (machine : Machine) (spent : P → Machine → List Plan → Ask → ℕ → Type 0)
    (right : (p : P) (plans : List Plan) (deed : Deed) (plans' : List Plan) (p' : P) → steps.does p plans deed plans' p' → IsRight (spent p) machine plans deed plans') where
  least-loop : (s : SessionState) (p : P) (records : List Record) (s' : SessionState) (p' : P) → RunsLoop steps machine s p records s' p' → IsLeastAt machine s'
  least-loop s p records s' p' runs =
      let settled = right runs.mid (after_answers machine runs.answers s).state.plans (settled s.now) runs.plans p' runs.settles in
      subst (IsLeastAt machine) (sym runs.state)
      (subst (λ n. IsLeast machine n none_exempt runs.plans) (sym (now-answers machine runs.answers s)) settled.least)

  least-reply : (p : P) (s : SessionState) (w : WaitingCopy) (reply : Reply) (plans : List Plan) → IsAnswer (spent p) machine s.plans (ask_waiting machine s w) reply plans
      → IsLeastAt machine s → IsLeastAt machine (state_after_reply s w reply plans)
  least-reply p s w Planned plans answer least = least-asked machine s w plans answer.1
  least-reply p s w Never plans answer least = least
  least-reply p s w (Spent bound) plans answer least = least

  least-asks : (waiting : List WaitingCopy) (passed : List ℕ) (s : SessionState) (p : P) (records : List Record) (s' : SessionState) (p' : P)
      → AsksInTurn steps machine waiting passed s p records s' p' → IsLeastAt machine s → IsLeastAt machine s'
  least-asks [] passed s p records s' p' (told, is, same) least = subst (IsLeastAt machine) (sym is) least
  least-asks (w ∷ waiting) passed s p records s' p' asks least =
      go (is_passed_over s passed w) (is_full machine s) asks
      (λ next. least-asks waiting passed s p records s' p' next least)
      (λ rest next. least-asks waiting ((tray_of s.jobs w.sheet).0 ∷ passed) s p rest s' p' next least)
      (λ reply plans mid rest next. least-asks waiting (passed_after reply (tray_of s.jobs w.sheet).0 passed) (state_after_reply s w reply plans) mid rest s' p' next) where
        go : (b c : Bool) → MatchBool b (AsksInTurn steps machine waiting passed s p records s' p')
            (MatchBool c (TellsFull steps machine w waiting passed s p records s' p') (AsksFirst steps machine w waiting passed s p records s' p'))
            → (AsksInTurn steps machine waiting passed s p records s' p' → IsLeastAt machine s')
            → ((rest : List Record) → AsksInTurn steps machine waiting ((tray_of s.jobs w.sheet).0 ∷ passed) s p rest s' p' → IsLeastAt machine s')
            → ((reply : Reply) (plans : List Plan) (mid : P) (rest : List Record)
            → AsksInTurn steps machine waiting (passed_after reply (tray_of s.jobs w.sheet).0 passed) (state_after_reply s w reply plans) mid rest s' p'
            → IsLeastAt machine (state_after_reply s w reply plans) → IsLeastAt machine s')
            → IsLeastAt machine s'
        go true c next over full answered = over next
        go false true (rest, told, next) over full answered = full rest next
        go false false (reply, (plans, (mid, (rest, does, told, next)))) over full answered =
            answered reply plans mid rest next (least-reply p s w reply plans (right p s.plans (replied (ask_waiting machine s w) reply) plans mid does) least)

  least-begins : (event : Event) (s : SessionState) (p : P) (records : List Record) (s' : SessionState) (p' : P) → is_clock event ≡ false
      → Begins steps machine event s p records s' p' → IsLeastAt machine s → IsLeastAt machine s'
  least-begins Bad s p records s' p' still begins least = absurd begins
  least-begins (NewJob name tray media groups) s p records s' p' still begins least = subst (IsLeastAt machine) (sym begins.1) least
  least-begins (Clock to) s p records s' p' still begins least = absurd (cc)
  least-begins (Jam name) s p records s' p' still (m, known, out) least = least-loop (outage machine m true s).state p out.rest s' p' out.loop
  least-begins (Off name) s p records s' p' still (m, known, out) least = least-loop (outage machine m false s).state p out.rest s' p' out.loop
  least-begins (On name) s p records s' p' still (m, known, told, is, same) least = subst (IsLeastAt machine) (sym is) least
  least-begins (Refill name count) s p records s' p' still (f, known, told, is, same) least = subst (IsLeastAt machine) (sym is) least

  pub least-turn : TurnsKeep steps machine IsNoClock (IsLeastAt machine)
  least-turn event s p records s' p' still turn least = go (refusal machine s event) turn where
    go : (o : Option Cause) → MatchOption o (Accepts steps machine event s p records s' p') (λ cause. (records ≡ Refused cause ∷ []) × (s' ≡ s) × (p' ≡ p)) → IsLeastAt machine s'
    go None accepts =
        least-asks accepts.between.waiting [] accepts.between accepts.mid accepts.rest s' p' accepts.asks
        (least-begins event s p accepts.first accepts.between accepts.mid still accepts.begins least)
    go (Some cause) (told, is, same) = subst (IsLeastAt machine) (sym is) least
