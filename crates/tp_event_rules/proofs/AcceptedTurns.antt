-- No accepted event is reported refused.
use Rattle.std.proofs.Common.{◌≡◌, inl, inr, ℕ, ◌+◌, Bool, true, false, cond, ap, arith, Contains, List, [], ◌∷◌, refl, sym, subst, Option, Some, None}
use Rattle.std.specs.Bool.{MatchBool}
use Rattle.std.specs.Option.{MatchOption}
use Rattle.std.proofs.lemmas.List.Elements.{All-cons, All-append, All-contains}
use Rattle.std.specs.Str.{bytes_eq}
use Rattle.tp_schedule.proofs.Membership.{Contains-cons_cases}
use Rattle.tp_machine.specs.declared.machine.Machine.{Machine}
use Rattle.tp_script.specs.declared.event.Event.{Event}
use Rattle.tp_script.specs.declared.event.Event.TheVariants.{Bad, Job as NewJob, Clock, Jam, Off, On, Refill}
use Rattle.tp_jobs.specs.declared.parts.Job.{Job}
use Rattle.tp_jobs.specs.declared.parts.WaitingCopy.{WaitingCopy}
use Rattle.tp_schedule.specs.Plans.{change_plan, plan_of, without}
use Rattle.tp_schedule.specs.Answers.{kept_of}
use Rattle.tp_schedule.specs.declared.parts.Ask.{Ask}
use Rattle.tp_schedule.specs.declared.parts.Goal.{Goal}
use Rattle.tp_schedule.specs.declared.parts.Goal.TheVariants.{Tray, Purge}
use Rattle.tp_schedule.specs.declared.parts.Plan.{Plan}
use Rattle.tp_schedule.specs.declared.parts.Reply.{Reply}
use Rattle.tp_schedule.specs.declared.parts.Reply.TheVariants.{Planned, Never, Spent}
use Rattle.tp_schedule.specs.declared.records.Cause.{Cause}
use Rattle.tp_schedule.specs.declared.records.Record.{Record}
use Rattle.tp_schedule.specs.declared.records.Record.TheVariants.{FullUp, Move, Purge as PurgeTold, Refused, Stuck}
use Rattle.tp_jobs.specs.Backlogs.{tray_of}
use Rattle.tp_event_rules.specs.declared.tell.Tell.{Tell}
use Rattle.tp_event_rules.specs.declared.tell.Tell.TheVariants.{Done as TellsDone, Release as TellsRelease}
use Rattle.tp_event_rules.specs.States.{SessionState}
use Rattle.tp_event_rules.specs.Labels.{label, module_name}
use Rattle.tp_event_rules.specs.Clock.{record_of, clock_tells, release_of}
use Rattle.tp_event_rules.specs.Fates.{to_purge}
use Rattle.tp_event_rules.specs.Outages.{outage}
use Rattle.tp_event_rules.specs.AnswerRecords.{Answer, label_of_plan, told_of_planned, told_of_move, moves, told_of_reply}
use Rattle.tp_event_rules.specs.AskPhase.{AsksInTurn, ask_waiting, is_full, is_passed_over, passed_after, state_after_reply}
use Rattle.tp_event_rules.specs.Loops.{next_ask, stuck_module, told_releases, not_planned, after_reply, after_asked, after_one, after_answers}
use Rattle.tp_event_rules.specs.Laws.{RefusalsAreTold}
use Rattle.tp_event_rules.specs.Moments.{due_until}
use Rattle.tp_event_rules.specs.Planners.{PlannerSteps, RunsLoop, GoesOut}
use Rattle.tp_event_rules.specs.Deliveries.{is_refusal}
use Rattle.tp_event_rules.specs.Refusals.{refusal}
use Rattle.tp_event_rules.specs.Turns.{Begins, Accepts}
use Rattle.tp_event_rules.proofs.AskSteps.{AsksFirst, TellsFull}
use Rattle.tp_event_rules.proofs.Accepted.{IsOther, AreOthers, others-nil, others-one, others-map, others-for_each, others-fall_back, others-outage}

-- answers
others-move : (p q : Plan) → AreOthers (told_of_move p q)
others-move p q = go (bytes_eq p.points q.points) where
  go : (b : Bool) → AreOthers (cond b [] (Move (label_of_plan q) q.points ∷ []))
  go true = others-nil
  go false = others-one _ refl

others-moves : (plans plans' : List Plan) → AreOthers (moves plans plans')
others-moves [] plans' = others-nil
others-moves (p ∷ plans) [] = others-nil
others-moves (p ∷ plans) (p' ∷ plans') = All-append IsOther (told_of_move p p') (moves plans plans') (others-move p p') (others-moves plans plans')

others-planned : (machine : Machine) (kept : ℕ) (o : Option Plan) → AreOthers (told_of_planned machine kept o)
others-planned machine kept None = others-nil
others-planned machine kept (Some p) = others-one _ refl

others-reply : (machine : Machine) (plans : List Plan) (ask : Ask) (reply : Reply) (plans' : List Plan) → AreOthers (told_of_reply machine plans ask reply plans')
others-reply machine plans ask Planned plans' =
    All-append IsOther (told_of_planned machine (kept_of ask) (plan_of ask.sheet plans')) (moves (without ask.sheet plans) (without ask.sheet plans'))
    (others-planned machine (kept_of ask) (plan_of ask.sheet plans')) (others-moves (without ask.sheet plans) (without ask.sheet plans'))
others-reply machine plans ask Never plans' = others-one _ refl
others-reply machine plans ask (Spent bound) plans' = others-one _ refl

-- the clock
others-tell : (machine : Machine) (jobs : List Job) (t : Tell) → IsOther (record_of machine jobs t)
others-tell machine jobs (TellsDone sheet place at) = refl
others-tell machine jobs (TellsRelease sheet number act start end) = refl

others-releases : (machine : Machine) (jobs : List Job) (last : ℕ) (o : Option Plan) → AreOthers (told_releases machine jobs last o)
others-releases machine jobs last None = others-nil
others-releases machine jobs last (Some p) = others-map (λ run. record_of machine jobs (release_of machine run).tell) (λ run. refl) (due_until last p)

-- the loop
others-not_planned : (machine : Machine) (ask : Ask) (goal : Goal) (s : SessionState) → AreOthers (not_planned machine ask goal s).records
others-not_planned machine ask (Tray t) s =
    All-cons IsOther (PurgeTold (label s.jobs ask.sheet)) _ refl (others-fall_back (record s { plans = change_plan ask.sheet to_purge s.plans }) (record { sheet = ask.sheet; want = ask.want; again = true }))
others-not_planned machine ask Purge s = All-cons IsOther (Stuck (label s.jobs ask.sheet) (module_name machine (stuck_module machine s ask))) _ refl (others-outage machine _ true s)

others-after : (machine : Machine) (ask : Ask) (reply : Reply) (plans : List Plan) (s : SessionState) → AreOthers (after_reply machine ask reply plans s).records
others-after machine ask Planned plans s = others-releases machine s.jobs (s.now + machine.lead) (plan_of ask.sheet plans)
others-after machine ask Never plans s = others-not_planned machine ask ask.goal s
others-after machine ask (Spent bound) plans s = others-not_planned machine ask ask.goal s

others-asked : (machine : Machine) (s : SessionState) (o : Option Ask) (a : Answer) → AreOthers (after_asked machine s o a).records
others-asked machine s None a = others-nil
others-asked machine s (Some ask) a =
    All-append IsOther (told_of_reply machine s.plans ask a.reply a.plans) (after_reply machine ask a.reply a.plans s).records (others-reply machine s.plans ask a.reply a.plans) (others-after machine ask a.reply a.plans s)

module _ {P : Type 0} (steps : PlannerSteps P) (machine : Machine) where
  others-loop : (s : SessionState) (p : P) (records : List Record) (s' : SessionState) (p' : P) → RunsLoop steps machine s p records s' p' → AreOthers records
  others-loop s p records s' p' runs =
      subst AreOthers (sym runs.told)
      (All-append IsOther (after_answers machine runs.answers s).records (moves (after_answers machine runs.answers s).state.plans runs.plans)
      (others-for_each (after_one machine) (λ q a. others-asked machine q (next_ask machine q) a) runs.answers s) (others-moves _ runs.plans))

  others-out : (s : SessionState) (m : ℕ) (jam : Bool) (p : P) (records : List Record) (s' : SessionState) (p' : P) → GoesOut steps machine s m jam p records s' p' → AreOthers records
  others-out s m jam p records s' p' out =
      subst AreOthers (sym out.told) (All-append IsOther (outage machine m jam s).records out.rest (others-outage machine m jam s) (others-loop (outage machine m jam s).state p out.rest s' p' out.loop))

  -- the phase of asks
  others-asks : (waiting : List WaitingCopy) (passed : List ℕ) (s : SessionState) (p : P) (records : List Record) (s' : SessionState) (p' : P)
      → AsksInTurn steps machine waiting passed s p records s' p' → AreOthers records
  others-asks [] passed s p records s' p' (told, is, same) = subst AreOthers (sym told) others-nil
  others-asks (w ∷ waiting) passed s p records s' p' asks =
      go (is_passed_over s passed w) (is_full machine s) asks (others-asks waiting passed s p records s' p')
      (λ rest. others-asks waiting ((tray_of s.jobs w.sheet).0 ∷ passed) s p rest s' p')
      (λ reply plans mid rest. others-asks waiting (passed_after reply (tray_of s.jobs w.sheet).0 passed) (state_after_reply s w reply plans) mid rest s' p') where
        go : (b c : Bool) → MatchBool b (AsksInTurn steps machine waiting passed s p records s' p')
            (MatchBool c (TellsFull steps machine w waiting passed s p records s' p') (AsksFirst steps machine w waiting passed s p records s' p'))
            → (AsksInTurn steps machine waiting passed s p records s' p' → AreOthers records)
            → ((rest : List Record) → AsksInTurn steps machine waiting ((tray_of s.jobs w.sheet).0 ∷ passed) s p rest s' p' → AreOthers rest)
            → ((reply : Reply) (plans : List Plan) (mid : P) (rest : List Record)
            → AsksInTurn steps machine waiting (passed_after reply (tray_of s.jobs w.sheet).0 passed) (state_after_reply s w reply plans) mid rest s' p' → AreOthers rest)
            → AreOthers records
        go true c next over full answered = over next
        go false true (rest, told, next) over full answered = subst AreOthers (sym told) (All-cons IsOther (FullUp (label s.jobs w.sheet)) rest refl (full rest next))
        go false false (reply, (plans, (mid, (rest, does, told, next)))) over full answered =
            subst AreOthers (sym told) (All-append IsOther (told_of_reply machine s.plans (ask_waiting machine s w) reply plans) rest (others-reply machine s.plans (ask_waiting machine s w) reply plans) (answered reply plans mid rest next))

  others-begins : (event : Event) (s : SessionState) (p : P) (records : List Record) (s' : SessionState) (p' : P) → Begins steps machine event s p records s' p' → AreOthers records
  others-begins Bad s p records s' p' begins = absurd begins
  others-begins (NewJob name tray media groups) s p records s' p' begins = subst AreOthers (sym begins.0) others-nil
  others-begins (Clock to) s p records s' p' begins =
      subst AreOthers (sym begins.0) (others-map (record_of machine s.jobs) (others-tell machine s.jobs) (clock_tells machine s.now to s.plans))
  others-begins (Jam name) s p records s' p' (m, known, out) = others-out s m true p records s' p' out
  others-begins (Off name) s p records s' p' (m, known, out) = others-out s m false p records s' p' out
  others-begins (On name) s p records s' p' (m, known, told, is, same) = subst AreOthers (sym told) others-nil
  others-begins (Refill name count) s p records s' p' (f, known, told, is, same) = subst AreOthers (sym told) others-nil

  -- a turn that tells a refusal is that of a refused event
  pub told-refused : RefusalsAreTold steps machine
  told-refused event s p records s' p' cause turn told = go (refusal machine s event) turn where
    go : (o : Option Cause) → MatchOption o (Accepts steps machine event s p records s' p') (λ cause. (records ≡ Refused cause ∷ []) × (s' ≡ s) × (p' ≡ p)) → o ≡ Some cause
    go None accepts =
        let others : AreOthers records = subst AreOthers (sym accepts.told) (All-append IsOther accepts.first accepts.rest
        (others-begins event s p accepts.first accepts.between accepts.mid accepts.begins) (others-asks accepts.between.waiting [] accepts.between accepts.mid accepts.rest s' p' accepts.asks)) in
        absurd (let other : is_refusal (Refused cause) ≡ false = All-contains IsOther records (Refused cause) others told in cc)
    go (Some other) (is, same, same') =
        elim (Contains-cons_cases (Refused other) [] (Refused cause) (subst (λ l. Contains l (Refused cause)) is told)) [
          | inl e ↦ let one : other ≡ cause = cc in ap (λ (c : Cause). Some c) one
          | inr none ↦ absurd (omega (arith, none.1))
        ]
