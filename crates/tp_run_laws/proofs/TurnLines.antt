-- What is reported of answers and of moves has lines, and so has what a turn tells.
use Rattle.std.proofs.Common.{◌≡◌, ◌≢◌, ℕ, suc, ◌+◌, ◌≤◌, Bool, true, false, cond, List, [], ◌∷◌, ◌++◌, length, refl, sym, ap, ◌∙◌, arith, All, subst, not, Option, Some, None, find, option_map}
use Rattle.std.specs.Bool.{MatchBool}
use Rattle.std.specs.Option.{MatchOption}
use Rattle.std.specs.Str.{bytes_eq}
use Rattle.std.proofs.lemmas.List.{length-append, length-drop, length-map}
use Rattle.std.proofs.lemmas.List.Elements.{All-cons, All-contains, All-filter, All-head, All-nil, All-tail}
use Rattle.tp_machine.specs.declared.parts.ActId.{ActId}
use Rattle.tp_machine.specs.declared.machine.Machine.{Machine}
use Rattle.tp_jobs.specs.Backlogs.{tray_of}
use Rattle.tp_jobs.specs.declared.parts.Job.{Job}
use Rattle.tp_jobs.specs.declared.parts.WaitingCopy.{WaitingCopy}
use Rattle.tp_log.specs.Records.{IsPrintable}
use Rattle.tp_script.specs.declared.event.Event.{Event}
use Rattle.tp_script.specs.declared.event.Event.TheVariants.{Bad, Job as NewJob, Clock, Jam, Off, On, Refill}
use Rattle.tp_schedule.specs.Answers.{IsAlternative, kept_acts, kept_of}
use Rattle.tp_schedule.specs.PlannerAnswers.{Deed, IsAnswer}
use Rattle.tp_schedule.specs.PlannerAnswers.Deed.{replied, settled}
use Rattle.tp_schedule.specs.Plans.{IsTimedPlan, is_same_copy, plan_of, without}
use Rattle.tp_schedule.specs.declared.parts.Ask.{Ask}
use Rattle.tp_schedule.specs.declared.parts.Goal.{Goal}
use Rattle.tp_schedule.specs.declared.parts.Goal.TheVariants.{Tray, Purge as ToPurge}
use Rattle.tp_schedule.specs.declared.parts.Plan.{Plan}
use Rattle.tp_schedule.specs.declared.parts.Reply.{Reply}
use Rattle.tp_schedule.specs.declared.parts.Reply.TheVariants.{Planned, Never, Spent}
use Rattle.tp_schedule.specs.declared.records.Cause.{Cause}
use Rattle.tp_schedule.specs.declared.records.Record.{Record}
use Rattle.tp_schedule.specs.declared.records.Record.TheVariants.{Plan as TellsPlan, Move, Never as TellsNever, Budget, FullUp, Release, Done, Lost, Recall, Withdraw, Cut, Purge, Again, Stuck, Broken, Drop, Refused}
use Rattle.tp_schedule.proofs.CopyFacts.{plan_of-itself}
use Rattle.tp_event_rules.proofs.AskSteps.{AsksFirst, TellsFull}
use Rattle.tp_event_rules.proofs.ListFacts.{find-Some}
use Rattle.tp_event_rules.specs.AnswerRecords.{Answer, label_of_plan, moves, told_of_move, told_of_plan, told_of_planned, told_of_reply}
use Rattle.tp_event_rules.specs.AskPhase.{AsksInTurn, ask_waiting, is_full, is_passed_over, passed_after, state_after_reply}
use Rattle.tp_event_rules.specs.Clock.{clock_move, record_of, release_of}
use Rattle.tp_event_rules.specs.StateInvariants.{live_part}
use Rattle.tp_event_rules.specs.Labels.{label}
use Rattle.tp_event_rules.specs.Loops.{after_answers, after_asked, after_one, after_reply, ask_in_flight, is_loose, next_ask, not_planned, stuck_module, told_releases}
use Rattle.tp_event_rules.specs.Moments.{due_until}
use Rattle.tp_event_rules.specs.Outages.{outage}
use Rattle.tp_event_rules.specs.Planners.{AnswersInTurn, IsRight, PlannerSteps, RunsLoop}
use Rattle.tp_event_rules.specs.Refusals.{clock_refusal, refusal}
use Rattle.tp_event_rules.specs.States.{SessionState}
use Rattle.tp_event_rules.specs.Turns.{Accepts, Begins, Turn}
use Rattle.tp_event_turn.specs.Events.{ClockTurn, MovesClock}
use Rattle.tp_run_laws.proofs.OutageLines.{HaveLines, both, line-tell, lines-clock, lines-fall_back, lines-outage, none, of-map, one}
use Rattle.tp_run_laws.proofs.ToldRecords.{IsTold}
use Rattle.tp_run_laws.specs.Told.{LiveTurnsHaveLines, TurnsHaveLines}

printable-one : (r : Record) → IsTold r → IsPrintable r
printable-one (TellsPlan sheet place points acts) told = (told.0, told.1)
printable-one (Move sheet points) told = told.0
printable-one (TellsNever sheet goal) told = tt
printable-one (Budget sheet goal bound) told = tt
printable-one (FullUp sheet) told = tt
printable-one (Release sheet act name start end) told = tt
printable-one (Done sheet place at) told = tt
printable-one (Lost sheet) told = tt
printable-one (Recall sheet act) told = tt
printable-one (Withdraw sheet) told = tt
printable-one (Cut sheet) told = tt
printable-one (Purge sheet) told = tt
printable-one (Again sheet) told = tt
printable-one (Stuck sheet name) told = tt
printable-one (Broken job) told = tt
printable-one (Drop sheet) told = tt
printable-one (Refused cause) told = tt

printable : (records : List Record) → HaveLines records → All IsPrintable records
printable [] told = All-nil IsPrintable
printable (r ∷ records) told = All-cons IsPrintable r records (printable-one r (All-head IsTold r records told)) (printable records (All-tail IsTold r records told))

-- a plan without its first actions, of which others follow
line-plan : (machine : Machine) (kept : ℕ) (p : Plan) (before route : List ActId) → IsTimedPlan machine p → p.acts ≡ before ++ route → route ≢ [] → kept ≤ length before
    → IsTold (told_of_plan machine kept p)
line-plan machine kept p before [] timed is some fits = absurd (some refl)
line-plan machine kept p before (act ∷ route) timed is some fits =
    let points = timed.one_more in
    let most = timed.at_most in
    let acts : length p.acts ≡ length before + suc (length route) = ap length is ∙ length-append before (act ∷ route) in
    rw (length-map, length-drop, length-drop) (omega arith, omega arith, omega arith)

line-move : (machine : Machine) (p p' : Plan) → IsTimedPlan machine p' → HaveLines (told_of_move p p')
line-move machine p p' timed = go (bytes_eq p.points p'.points) where
  go : (b : Bool) → HaveLines (cond b [] (Move (label_of_plan p') p'.points ∷ []))
  go true = none
  go false = one (Move (label_of_plan p') p'.points) (omega (arith, timed.one_more, timed.some), omega (arith, timed.one_more, timed.at_most))

lines-moves : (machine : Machine) (plans plans' : List Plan) → All (IsTimedPlan machine) plans' → HaveLines (moves plans plans')
lines-moves machine [] plans' all = none
lines-moves machine (p ∷ plans) [] all = none
lines-moves machine (p ∷ plans) (p' ∷ plans') all =
    both (told_of_move p p') (moves plans plans') (line-move machine p p' (All-head (IsTimedPlan machine) p' plans' all)) (lines-moves machine plans plans' (All-tail (IsTimedPlan machine) p' plans' all))

-- the asked copy keeps no more actions than it has
abbrev Keeps : List Plan → Ask → Type 0
Keeps plans ask = kept_of ask ≤ length (kept_acts ask.sheet plans)

lines-reply : (spent : Machine → List Plan → Ask → ℕ → Type 0) (machine : Machine) (plans : List Plan) (ask : Ask) (reply : Reply) (plans' : List Plan)
    → IsAnswer spent machine plans ask reply plans' → (IsAlternative machine plans ask plans' → Keeps plans ask) → HaveLines (told_of_reply machine plans ask reply plans')
lines-reply spent machine plans ask Planned plans' answer keeps =
    let a = answer.0.alternative in
    let in' = find-Some (λ p. is_same_copy p.sheet ask.sheet) plans' a.plan a.planned in
    let timed = All-contains (IsTimedPlan machine) plans' a.plan a.legal.timed in'.0 in
    both (told_of_planned machine (kept_of ask) (plan_of ask.sheet plans')) (moves (without ask.sheet plans) (without ask.sheet plans'))
    (subst (λ o. HaveLines (told_of_planned machine (kept_of ask) o)) (sym a.planned)
    (one (told_of_plan machine (kept_of ask) a.plan) (line-plan machine (kept_of ask) a.plan (kept_acts ask.sheet plans) a.answers.route timed a.answers.acts a.answers.is_route.some (keeps a))))
    (lines-moves machine (without ask.sheet plans) (without ask.sheet plans') (All-filter (λ p. not (is_same_copy p.sheet ask.sheet)) (IsTimedPlan machine) plans' a.legal.timed))
lines-reply spent machine plans ask Never plans' answer keeps = one (TellsNever _ _) tt
lines-reply spent machine plans ask (Spent bound) plans' answer keeps = one (Budget _ _ bound) tt

-- what follows an answer in the loop
lines-releases : (machine : Machine) (jobs : List Job) (last : ℕ) (o : Option Plan) → HaveLines (told_releases machine jobs last o)
lines-releases machine jobs last None = none
lines-releases machine jobs last (Some p) = of-map (λ run. record_of machine jobs (release_of machine run).tell) (λ run. line-tell machine jobs (release_of machine run).tell) (due_until last p)

lines-not_planned : (machine : Machine) (ask : Ask) (goal : Goal) (s : SessionState) → HaveLines (not_planned machine ask goal s).records
lines-not_planned machine ask (Tray t) s =
    both (Purge (label s.jobs ask.sheet) ∷ []) _ (one (Purge (label s.jobs ask.sheet)) tt) (lines-fall_back _ (record { sheet = ask.sheet; want = ask.want; again = true }))
lines-not_planned machine ask ToPurge s =
    both (Stuck (label s.jobs ask.sheet) _ ∷ []) _ (one (Stuck (label s.jobs ask.sheet) _) tt) (lines-outage machine (stuck_module machine s ask).0 true s)

lines-after : (machine : Machine) (ask : Ask) (reply : Reply) (plans : List Plan) (s : SessionState) → HaveLines (after_reply machine ask reply plans s).records
lines-after machine ask Planned plans s = lines-releases machine s.jobs _ (plan_of ask.sheet plans)
lines-after machine ask Never plans s = lines-not_planned machine ask ask.goal s
lines-after machine ask (Spent bound) plans s = lines-not_planned machine ask ask.goal s

-- a copy in flight keeps its front's actions
keeps-front : (machine : Machine) (s : SessionState) (ask : Ask) (plans' : List Plan) → next_ask machine s ≡ Some ask → IsAlternative machine s.plans ask plans' → Keeps s.plans ask
keeps-front machine s ask plans' e a = go (find (is_loose s) s.plans) refl e where
  go : (o : Option Plan) → find (is_loose s) s.plans ≡ o → option_map (ask_in_flight machine s) o ≡ Some ask → Keeps s.plans ask
  go None f e = absurd (cc)
  go (Some p) f e =
      let at = find-Some (is_loose s) s.plans p f in
      let is : ask_in_flight machine s p ≡ ask = cc in
      let itself = plan_of-itself s.plans p a.legal_before.in_order at.0 in
      subst (Keeps s.plans) is (rw itself (omega arith))

module _ {P : Type 0} (steps : PlannerSteps P) (machine : Machine) (spent : P → Machine → List Plan → Ask → ℕ → Type 0)
    (right : (p : P) (plans : List Plan) (deed : Deed) (plans' : List Plan) (p' : P) → steps.does p plans deed plans' p' → IsRight (spent p) machine plans deed plans') where
  lines-answers : (s : SessionState) (answers : List Answer) (p p' : P) → AnswersInTurn steps machine s answers p p' → HaveLines (after_answers machine answers s).records
  lines-answers s [] p p' in_turn = none
  lines-answers s (a ∷ answers) p p' (ask, e, (mid, does, rest)) =
      both (after_one machine s a).records (after_answers machine answers (after_one machine s a).state).records
      (subst (λ o. HaveLines (after_asked machine s o a).records) (sym e)
      (both (told_of_reply machine s.plans ask a.reply a.plans) (after_reply machine ask a.reply a.plans s).records
      (lines-reply (spent p) machine s.plans ask a.reply a.plans (right p s.plans (replied ask a.reply) a.plans mid does) (keeps-front machine s ask a.plans e))
      (lines-after machine ask a.reply a.plans s)))
      (lines-answers (after_one machine s a).state answers mid p' rest)

  lines-loop : (s : SessionState) (p : P) (records : List Record) (s' : SessionState) (p' : P) → RunsLoop steps machine s p records s' p' → HaveLines records
  lines-loop s p records s' p' runs =
      let settled = right runs.mid (after_answers machine runs.answers s).state.plans (settled s.now) runs.plans p' runs.settles in
      subst HaveLines (sym runs.told)
      (both (after_answers machine runs.answers s).records (moves (after_answers machine runs.answers s).state.plans runs.plans) (lines-answers s runs.answers p runs.mid runs.in_turn)
      (lines-moves machine (after_answers machine runs.answers s).state.plans runs.plans settled.retimed.legal.timed))

  lines-asks : (waiting : List WaitingCopy) (passed : List ℕ) (s : SessionState) (p : P) (records : List Record) (s' : SessionState) (p' : P)
      → AsksInTurn steps machine waiting passed s p records s' p' → HaveLines records
  lines-asks [] passed s p records s' p' (told, is, same) = subst HaveLines (sym told) none
  lines-asks (w ∷ waiting) passed s p records s' p' asks =
      go (is_passed_over s passed w) (is_full machine s) asks (lines-asks waiting passed s p records s' p')
      (λ rest. lines-asks waiting ((tray_of s.jobs w.sheet).0 ∷ passed) s p rest s' p')
      (λ reply plans mid rest. lines-asks waiting (passed_after reply (tray_of s.jobs w.sheet).0 passed) (state_after_reply s w reply plans) mid rest s' p') where
        go : (b c : Bool) → MatchBool b (AsksInTurn steps machine waiting passed s p records s' p')
            (MatchBool c (TellsFull steps machine w waiting passed s p records s' p') (AsksFirst steps machine w waiting passed s p records s' p'))
            → (AsksInTurn steps machine waiting passed s p records s' p' → HaveLines records)
            → ((rest : List Record) → AsksInTurn steps machine waiting ((tray_of s.jobs w.sheet).0 ∷ passed) s p rest s' p' → HaveLines rest)
            → ((reply : Reply) (plans : List Plan) (mid : P) (rest : List Record)
            → AsksInTurn steps machine waiting (passed_after reply (tray_of s.jobs w.sheet).0 passed) (state_after_reply s w reply plans) mid rest s' p' → HaveLines rest)
            → HaveLines records
        go true c next over full answered = over next
        go false true (rest, told, next) over full answered =
            subst HaveLines (sym told) (All-cons IsTold (FullUp (label s.jobs w.sheet)) rest tt (full rest next))
        go false false (reply, (plans, (mid, (rest, does, told, next)))) over full answered =
            subst HaveLines (sym told) (both (told_of_reply machine s.plans (ask_waiting machine s w) reply plans) rest
            (lines-reply (spent p) machine s.plans (ask_waiting machine s w) reply plans (right p s.plans (replied (ask_waiting machine s w) reply) plans mid does) (λ a. omega arith))
            (answered reply plans mid rest next))

  lines-out : (s : SessionState) (m : ℕ) (jam : Bool) (p : P) (records rest : List Record) (s' : SessionState) (p' : P) → records ≡ (outage machine m jam s).records ++ rest
      → RunsLoop steps machine (outage machine m jam s).state p rest s' p' → HaveLines records
  lines-out s m jam p records rest s' p' told loop =
      subst HaveLines (sym told) (both (outage machine m jam s).records rest (lines-outage machine m jam s) (lines-loop (outage machine m jam s).state p rest s' p' loop))

  lines-begins : (event : Event) (s : SessionState) (p : P) (records : List Record) (s' : SessionState) (p' : P) → Begins steps machine event s p records s' p' → HaveLines records
  lines-begins Bad s p records s' p' begins = absurd begins
  lines-begins (NewJob name tray media groups) s p records s' p' (told, is, same) = subst HaveLines (sym told) none
  lines-begins (Clock to) s p records s' p' (told, is, same) = subst HaveLines (sym told) (lines-clock machine s to)
  lines-begins (Jam name) s p records s' p' (m, known, out) = lines-out s m true p records out.rest s' p' out.told out.loop
  lines-begins (Off name) s p records s' p' (m, known, out) = lines-out s m false p records out.rest s' p' out.told out.loop
  lines-begins (On name) s p records s' p' (m, known, told, is, same) = subst HaveLines (sym told) none
  lines-begins (Refill name count) s p records s' p' (f, known, told, is, same) = subst HaveLines (sym told) none

  pub lines-told : (event : Event) (s : SessionState) (p : P) (records : List Record) (s' : SessionState) (p' : P) → Turn steps machine event s p records s' p' → HaveLines records
  lines-told event s p records s' p' turn = go (refusal machine s event) turn where
    go : (o : Option Cause) → MatchOption o (Accepts steps machine event s p records s' p') (λ cause. (records ≡ Refused cause ∷ []) × (s' ≡ s) × (p' ≡ p)) → HaveLines records
    go None accepts =
        subst HaveLines (sym accepts.told) (both accepts.first accepts.rest (lines-begins event s p accepts.first accepts.between accepts.mid accepts.begins)
        (lines-asks accepts.between.waiting [] accepts.between accepts.mid accepts.rest s' p' accepts.asks))
    go (Some cause) (told, is, same) = subst HaveLines (sym told) (one (Refused cause) tt)

  pub lines-turn : TurnsHaveLines steps machine
  lines-turn event s p records s' p' turn = printable records (lines-told event s p records s' p' turn)

  -- of a live state the clock forgets what is past before the phase of asks
  lines-moved : (to : ℕ) (s : SessionState) (p : P) (records : List Record) (s' : SessionState) (p' : P) → ClockTurn steps machine to s p records s' p' → HaveLines records
  lines-moved to s p records s' p' turn = go (clock_refusal s.now to) turn where
    go : (o : Option Cause) → MatchOption o (MovesClock steps machine to s p records s' p') (λ cause. (records ≡ Refused cause ∷ []) × (s' ≡ s) × (p' ≡ p)) → HaveLines records
    go None moves =
        let between = live_part machine (clock_move machine to s).state in
        subst HaveLines (sym moves.told) (both (clock_move machine to s).records moves.rest (lines-clock machine s to)
        (lines-asks between.waiting [] between p moves.rest s' p' moves.asks))
    go (Some cause) (told, is, same) = subst HaveLines (sym told) (one (Refused cause) tt)

  pub lines-live : LiveTurnsHaveLines steps machine
  lines-live Bad s p records s' p' turn = lines-turn Bad s p records s' p' turn
  lines-live (NewJob name tray media groups) s p records s' p' turn = lines-turn (NewJob name tray media groups) s p records s' p' turn
  lines-live (Clock to) s p records s' p' turn = printable records (lines-moved to s p records s' p' turn)
  lines-live (Jam name) s p records s' p' turn = lines-turn (Jam name) s p records s' p' turn
  lines-live (Off name) s p records s' p' turn = lines-turn (Off name) s p records s' p' turn
  lines-live (On name) s p records s' p' turn = lines-turn (On name) s p records s' p' turn
  lines-live (Refill name count) s p records s' p' turn = lines-turn (Refill name count) s p records s' p' turn
