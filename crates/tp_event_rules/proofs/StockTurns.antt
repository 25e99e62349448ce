-- No turn overdraws a stock: a new copy begins at a feeder that has some left, and nothing else takes a sheet.
use Rattle.std.proofs.Common.{◌≡◌, ℕ, ◌+◌, ◌*◌, ◌<◌, ◌≤◌, Bool, true, false, cond, List, [], ◌∷◌, refl, sym, ap, ◌∙◌, subst, arith, Contains, Option, Some, None, option_and_then, pos, ◌+ℤ◌, ◌-ℤ◌, ◌≤ℤ◌}
use Rattle.std.specs.Prelude.{ℤ, slice_get}
use Rattle.std.specs.Bool.{MatchBool}
use Rattle.std.specs.Option.{MatchOption, option_eq}
use Rattle.std.specs.Ordering.{int_eq}
use Rattle.std.proofs.lemmas.Int.{ints}
use Rattle.std.proofs.lemmas.List.Elements.{All-contains}
use Rattle.tp_machine.specs.ModuleUse.{action_at}
use Rattle.tp_machine.specs.declared.parts.Feeder.{Feeder}
use Rattle.tp_machine.specs.declared.parts.LocId.{LocId}
use Rattle.tp_machine.specs.declared.machine.Machine.{Machine}
use Rattle.tp_script.specs.declared.event.Event.{Event}
use Rattle.tp_script.specs.declared.event.Event.TheVariants.{Bad, Job as NewJob, Clock, Jam, Off, On, Refill}
use Rattle.tp_jobs.specs.Backlogs.{tray_of}
use Rattle.tp_jobs.specs.declared.parts.WaitingCopy.{WaitingCopy}
use Rattle.tp_schedule.specs.Answers.{IsAlternative}
use Rattle.tp_schedule.specs.LocationSets.{has}
use Rattle.tp_schedule.specs.PlannerAnswers.{Deed, IsAnswer}
use Rattle.tp_schedule.specs.PlannerAnswers.Deed.{replied, settled}
use Rattle.tp_schedule.specs.Plans.{IsTimedPlan, change_plan, is_same_copy, plan_of, without}
use Rattle.tp_schedule.specs.Routes.{Reaches}
use Rattle.tp_schedule.specs.declared.parts.Ask.{Ask}
use Rattle.tp_schedule.specs.declared.parts.Goal.{Goal}
use Rattle.tp_schedule.specs.declared.parts.Goal.TheVariants.{Tray, Purge}
use Rattle.tp_schedule.specs.declared.parts.Plan.{Plan}
use Rattle.tp_schedule.specs.declared.parts.Reply.{Reply}
use Rattle.tp_schedule.specs.declared.parts.Reply.TheVariants.{Planned, Never, Spent}
use Rattle.tp_schedule.specs.declared.records.Cause.{Cause}
use Rattle.tp_schedule.specs.declared.records.Record.{Record}
use Rattle.tp_schedule.specs.declared.records.Record.TheVariants.{Refused}
use Rattle.tp_schedule.proofs.CopyFacts.{plan_of-itself}
use Rattle.tp_stock.specs.Stock.{IsNotOverdrawn, begins_at, empties, free_of, is_empty, is_from, refilled, taken_at}
use Rattle.tp_stock.proofs.StockFacts.{drawn-fewer, drawn-more, has-empty, some-left}
use Rattle.tp_event_rules.specs.AnswerRecords.{Answer}
use Rattle.tp_event_rules.specs.AskPhase.{AsksInTurn, ask_waiting, is_full, is_passed_over, passed_after, state_after_reply}
use Rattle.tp_event_rules.specs.Fates.{to_purge}
use Rattle.tp_event_rules.specs.Laws.{IsAny, IsStocked, TurnsKeep}
use Rattle.tp_event_rules.specs.Loops.{after_answers, after_asked, after_one, after_reply, next_ask, not_planned, planned}
use Rattle.tp_event_rules.specs.Moments.{release_until}
use Rattle.tp_event_rules.specs.Outages.{outage}
use Rattle.tp_event_rules.specs.Planners.{AnswersInTurn, GoesOut, IsRight, PlannerSteps, RunsLoop}
use Rattle.tp_event_rules.specs.Refusals.{refusal}
use Rattle.tp_event_rules.specs.States.{SessionState}
use Rattle.tp_event_rules.specs.Turns.{Accepts, Begins}
use Rattle.tp_event_rules.specs.Clock.{released_until}
use Rattle.tp_event_rules.proofs.AskSteps.{AsksFirst, TellsFull}
use Rattle.tp_event_rules.proofs.LessOutages.{IsLess, for_each-keeps, less-fall_back, less-outage}
use Rattle.tp_event_rules.proofs.ListFacts.{find-Some}
use Rattle.tp_event_rules.proofs.PlanCounts.{count-change}
use Rattle.tp_event_rules.proofs.PlannableTurns.{asked}
use Rattle.tp_event_rules.proofs.ReleasedPlans.{AreLeft-released}
use Rattle.tp_event_rules.proofs.TakenSheets.{taken-added, taken-after, taken-left, taken-moved, taken-replaced, walk-begins}

stocked-less : (machine : Machine) (s s' : SessionState) → IsLess machine s s' → IsStocked machine s → IsStocked machine s'
stocked-less machine s s' less drawn =
    subst (λ refills. IsNotOverdrawn machine refills s'.plans) (sym less.refills)
    (drawn-fewer machine s.refills s.plans s'.plans (λ loc. taken-left machine loc s.plans s'.plans less.plans) drawn)

-- one plan changed, but for its actions
stocked-changed : (machine : Machine) (s : SessionState) (plans : List Plan) (ask : Ask) (f : Plan → Plan) → ((p : Plan) (loc : ℕ) → begins_at machine loc (f p) ≡ begins_at machine loc p)
    → IsNotOverdrawn machine s.refills plans → IsNotOverdrawn machine s.refills (change_plan ask.sheet f plans)
stocked-changed machine s plans ask f same drawn =
    drawn-fewer machine s.refills plans (change_plan ask.sheet f plans)
    (λ loc. let is = count-change ask.sheet f (begins_at machine loc) (λ p. same p loc) plans in omega arith) drawn

-- a copy that waits is planned
module _ (machine : Machine) (s : SessionState) (w : WaitingCopy) (plans' : List Plan) (a : IsAlternative machine s.plans (ask_waiting machine s w) plans') (drawn : IsStocked machine s)
    (f : Feeder) (in' : Contains machine.feeders f) (stock : ℕ) (is : f.stock ≡ Some stock) where
  abbrev Most : ℕ → Type 0
  Most taken = pos taken ≤ℤ (pos stock +ℤ refilled s.refills f.loc.0)

  low : Most (taken_at machine s.plans f.loc.0)
  low = drawn f in' stock is

  fewer : (a b : ℕ) → a ≤ b → Most b → Most a
  fewer a b le most = omega (arith, ints)

  -- where it begins there, some is left
  free : begins_at machine f.loc.0 a.plan ≡ true → begins_at machine f.loc.0 a.plan ≡ is_from f.loc.0 (option_and_then (λ act. action_at machine act.0) (slice_get a.answers.route 0))
      → is_empty machine s.refills s.plans f ≡ false
  free begins from = go (is_empty machine s.refills s.plans f) refl where
    reaches : Reaches machine (ask_waiting machine s w) a.answers.route a.answers.is_route.goal
    reaches = a.answers.is_route.reaches

    same : reaches.start.loc ≡ f.loc
    same = let number = walk-begins machine w.want a.answers.route reaches.start a.answers.is_route.goal f.loc.0 reaches.leads (sym from ∙ begins) in λ i. record { 0 = number i }

    go : (b : Bool) → is_empty machine s.refills s.plans f ≡ b → b ≡ false
    go false e = refl
    go true e =
        let there = has-empty machine s.refills s.plans f in' e in
        let not_there : has (empties machine s.refills s.plans) f.loc ≡ false = subst (λ (l : LocId). has (empties machine s.refills s.plans) l ≡ false) same reaches.starts.1 in
        absurd (cc)

  some : is_empty machine s.refills s.plans f ≡ false → Most (taken_at machine s.plans f.loc.0 + 1)
  some e =
      some-left stock (refilled s.refills f.loc.0) (taken_at machine s.plans f.loc.0)
      (subst (λ o. option_eq int_eq (free_of o (refilled s.refills f.loc.0) (taken_at machine s.plans f.loc.0)) (Some (pos 0)) ≡ false) is e) low

  drawn-one : Most (taken_at machine plans' f.loc.0)
  drawn-one = go (plan_of w.sheet s.plans) refl where
    ask : Ask
    ask = ask_waiting machine s w

    one : (b : Bool) → begins_at machine f.loc.0 a.plan ≡ b → taken_at machine (without w.sheet s.plans) f.loc.0 ≤ taken_at machine s.plans f.loc.0
        → begins_at machine f.loc.0 a.plan ≡ is_from f.loc.0 (option_and_then (λ act. action_at machine act.0) (slice_get a.answers.route 0)) → Most (taken_at machine plans' f.loc.0)
    one false e le from =
        let after = taken-after machine s.plans ask plans' a f.loc.0 ∙ ap (λ b. cond b 1 0 + taken_at machine (without w.sheet s.plans) f.loc.0) e in
        fewer (taken_at machine plans' f.loc.0) (taken_at machine s.plans f.loc.0) (omega arith) low
    one true e le from =
        let after = taken-after machine s.plans ask plans' a f.loc.0 ∙ ap (λ b. cond b 1 0 + taken_at machine (without w.sheet s.plans) f.loc.0) e in
        fewer (taken_at machine plans' f.loc.0) (taken_at machine s.plans f.loc.0 + 1) (omega arith) (some (free e from))

    go : (o : Option Plan) → plan_of w.sheet s.plans ≡ o → Most (taken_at machine plans' f.loc.0)
    go (Some q) e =
        let there = find-Some (λ p. is_same_copy p.sheet w.sheet) s.plans q e in
        let timed = All-contains (IsTimedPlan machine) s.plans q a.legal_before.timed there.0 in
        rw (taken-replaced machine s.plans ask plans' a f.loc.0 q e timed.some) low
    go None e = let added = taken-added machine s.plans ask plans' a f.loc.0 e in one (begins_at machine f.loc.0 a.plan) refl added.0 added.1

-- a copy in flight is planned on
drawn-flight : (machine : Machine) (s : SessionState) (ask : Ask) (plans : List Plan) → next_ask machine s ≡ Some ask → IsAlternative machine s.plans ask plans → IsStocked machine s → IsNotOverdrawn machine s.refills plans
drawn-flight machine s ask plans e a drawn =
    let of = asked machine s ask e in
    let timed = All-contains (IsTimedPlan machine) s.plans of.p a.legal_before.timed of.there in
    let at = ap (λ (k : Ask). plan_of k.sheet s.plans) (sym of.is) ∙ plan_of-itself s.plans of.p a.legal_before.in_order of.there in
    drawn-fewer machine s.refills s.plans plans (λ loc. let same = taken-replaced machine s.plans ask plans a loc of.p at timed.some in omega arith) drawn

stocked-not_planned : (machine : Machine) (s : SessionState) (ask : Ask) (goal : Goal) → IsStocked machine s → IsStocked machine (not_planned machine ask goal s).state
stocked-not_planned machine s ask (Tray t) drawn =
    let before : SessionState = record s { plans = change_plan ask.sheet to_purge s.plans } in
    stocked-less machine before (not_planned machine ask (Tray t) s).state (less-fall_back machine before (record { sheet = ask.sheet; want = ask.want; again = true }))
    (stocked-changed machine s s.plans ask to_purge (λ p loc. refl) drawn)
stocked-not_planned machine s ask Purge drawn = stocked-less machine s (not_planned machine ask Purge s).state (less-outage machine _ true s) drawn

-- the refills stay in the loop
refills-not_planned : (machine : Machine) (ask : Ask) (goal : Goal) (s : SessionState) → (not_planned machine ask goal s).state.refills ≡ s.refills
refills-not_planned machine ask (Tray t) s = (less-fall_back machine (record s { plans = change_plan ask.sheet to_purge s.plans }) (record { sheet = ask.sheet; want = ask.want; again = true })).refills
refills-not_planned machine ask Purge s = (less-outage machine _ true s).refills

refills-reply : (machine : Machine) (ask : Ask) (reply : Reply) (plans : List Plan) (s : SessionState) → (after_reply machine ask reply plans s).state.refills ≡ s.refills
refills-reply machine ask Planned plans s = refl
refills-reply machine ask Never plans s = refills-not_planned machine ask ask.goal s
refills-reply machine ask (Spent bound) plans s = refills-not_planned machine ask ask.goal s

refills-asked : (machine : Machine) (s : SessionState) (o : Option Ask) (a : Answer) → (after_asked machine s o a).state.refills ≡ s.refills
refills-asked machine s None a = refl
refills-asked machine s (Some ask) a = refills-reply machine ask a.reply a.plans s

pub refills-answers : (machine : Machine) (answers : List Answer) (s : SessionState) → (after_answers machine answers s).state.refills ≡ s.refills
refills-answers machine answers s =
    for_each-keeps (λ q. q.refills ≡ s.refills) (after_one machine) (λ q a e. refills-asked machine q (next_ask machine q) a ∙ e) answers s refl

module _ {P : Type 0} (steps : PlannerSteps P) (machine : Machine) where
  -- and as a module goes out, and in the phase of asks
  pub refills-goes : (s : SessionState) (m : ℕ) (jam : Bool) (p : P) (records : List Record) (s' : SessionState) (p' : P) → GoesOut steps machine s m jam p records s' p' → s'.refills ≡ s.refills
  refills-goes s m jam p records s' p' out =
      ap (λ (t : SessionState). t.refills) out.loop.state ∙ refills-answers machine out.loop.answers (outage machine m jam s).state ∙ (less-outage machine m jam s).refills

  pub refills-asks : (waiting : List WaitingCopy) (passed : List ℕ) (s : SessionState) (p : P) (records : List Record) (s' : SessionState) (p' : P)
      → AsksInTurn steps machine waiting passed s p records s' p' → s'.refills ≡ s.refills
  refills-asks [] passed s p records s' p' (told, is, same) = ap (λ (t : SessionState). t.refills) is
  refills-asks (w ∷ waiting) passed s p records s' p' asks =
      go (is_passed_over s passed w) (is_full machine s) asks (refills-asks waiting passed s p records s' p')
      (λ rest. refills-asks waiting ((tray_of s.jobs w.sheet).0 ∷ passed) s p rest s' p')
      (λ reply plans mid rest next. refills-asks waiting (passed_after reply (tray_of s.jobs w.sheet).0 passed) (state_after_reply s w reply plans) mid rest s' p' next ∙ same reply plans) where
        same : (reply : Reply) (plans : List Plan) → (state_after_reply s w reply plans).refills ≡ s.refills
        same Planned plans = refl
        same Never plans = refl
        same (Spent bound) plans = refl

        go : (b c : Bool) → MatchBool b (AsksInTurn steps machine waiting passed s p records s' p')
            (MatchBool c (TellsFull steps machine w waiting passed s p records s' p') (AsksFirst steps machine w waiting passed s p records s' p'))
            → (AsksInTurn steps machine waiting passed s p records s' p' → s'.refills ≡ s.refills)
            → ((rest : List Record) → AsksInTurn steps machine waiting ((tray_of s.jobs w.sheet).0 ∷ passed) s p rest s' p' → s'.refills ≡ s.refills)
            → ((reply : Reply) (plans : List Plan) (mid : P) (rest : List Record)
            → AsksInTurn steps machine waiting (passed_after reply (tray_of s.jobs w.sheet).0 passed) (state_after_reply s w reply plans) mid rest s' p' → s'.refills ≡ s.refills)
            → s'.refills ≡ s.refills
        go true c next over full answered = over next
        go false true (rest, told, next) over full answered = full rest next
        go false false (reply, (plans, (mid, (rest, does, told, next)))) over full answered = answered reply plans mid rest next

module _ {P : Type 0} (steps : PlannerSteps P) (machine : Machine) (spent : P → Machine → List Plan → Ask → ℕ → Type 0)
    (right : (p : P) (plans : List Plan) (deed : Deed) (plans' : List Plan) (p' : P) → steps.does p plans deed plans' p' → IsRight (spent p) machine plans deed plans') where
  -- the loop
  stocked-reply : (p : P) (s : SessionState) (ask : Ask) (reply : Reply) (plans : List Plan) → next_ask machine s ≡ Some ask → IsAnswer (spent p) machine s.plans ask reply plans
      → IsStocked machine s → IsStocked machine (after_reply machine ask reply plans s).state
  stocked-reply p s ask Planned plans e answer drawn =
      stocked-changed machine s plans ask (release_until (s.now + machine.lead)) (λ q loc. refl) (drawn-flight machine s ask plans e answer.0.alternative drawn)
  stocked-reply p s ask Never plans e answer drawn = stocked-not_planned machine s ask ask.goal drawn
  stocked-reply p s ask (Spent bound) plans e answer drawn = stocked-not_planned machine s ask ask.goal drawn

  stocked-answers : (s : SessionState) (answers : List Answer) (p p' : P) → AnswersInTurn steps machine s answers p p' → IsStocked machine s → IsStocked machine (after_answers machine answers s).state
  stocked-answers s [] p p' in_turn drawn = drawn
  stocked-answers s (a ∷ answers) p p' (ask, e, (mid, does, rest)) drawn =
      stocked-answers (after_one machine s a).state answers mid p' rest
      (subst (λ o. IsStocked machine (after_asked machine s o a).state) (sym e)
      (stocked-reply p s ask a.reply a.plans e (right p s.plans (replied ask a.reply) a.plans mid does) drawn))

  stocked-loop : (s : SessionState) (p : P) (records : List Record) (s' : SessionState) (p' : P) → RunsLoop steps machine s p records s' p' → IsStocked machine s → IsStocked machine s'
  stocked-loop s p records s' p' runs drawn =
      let after = (after_answers machine runs.answers s).state in
      let before = stocked-answers s runs.answers p runs.mid runs.in_turn drawn in
      let settled = right runs.mid after.plans (settled s.now) runs.plans p' runs.settles in
      subst (IsStocked machine) (sym runs.state)
      (drawn-fewer machine after.refills after.plans runs.plans (λ loc. let same = taken-moved machine loc after.plans runs.plans settled.retimed.same in omega arith) before)

  pub stocked-goes : (s : SessionState) (m : ℕ) (jam : Bool) (p : P) (records : List Record) (s' : SessionState) (p' : P) → GoesOut steps machine s m jam p records s' p' → IsStocked machine s → IsStocked machine s'
  stocked-goes s m jam p records s' p' out drawn =
      stocked-loop (outage machine m jam s).state p out.rest s' p' out.loop (stocked-less machine s (outage machine m jam s).state (less-outage machine m jam s) drawn)

  -- the phase of asks
  stocked-after : (p : P) (s : SessionState) (w : WaitingCopy) (reply : Reply) (plans : List Plan) → IsAnswer (spent p) machine s.plans (ask_waiting machine s w) reply plans
      → IsStocked machine s → IsStocked machine (state_after_reply s w reply plans)
  stocked-after p s w Planned plans answer drawn = drawn-one machine s w plans answer.0.alternative drawn
  stocked-after p s w Never plans answer drawn = drawn
  stocked-after p s w (Spent bound) plans answer drawn = drawn

  pub stocked-asks : (waiting : List WaitingCopy) (passed : List ℕ) (s : SessionState) (p : P) (records : List Record) (s' : SessionState) (p' : P)
      → AsksInTurn steps machine waiting passed s p records s' p' → IsStocked machine s → IsStocked machine s'
  stocked-asks [] passed s p records s' p' (told, is, same) drawn = subst (IsStocked machine) (sym is) drawn
  stocked-asks (w ∷ waiting) passed s p records s' p' asks drawn =
      go (is_passed_over s passed w) (is_full machine s) asks (λ next. stocked-asks waiting passed s p records s' p' next drawn)
      (λ rest next. stocked-asks waiting ((tray_of s.jobs w.sheet).0 ∷ passed) s p rest s' p' next drawn)
      (λ reply plans mid rest next. stocked-asks waiting (passed_after reply (tray_of s.jobs w.sheet).0 passed) (state_after_reply s w reply plans) mid rest s' p' next) where
        go : (b c : Bool) → MatchBool b (AsksInTurn steps machine waiting passed s p records s' p')
            (MatchBool c (TellsFull steps machine w waiting passed s p records s' p') (AsksFirst steps machine w waiting passed s p records s' p'))
            → (AsksInTurn steps machine waiting passed s p records s' p' → IsStocked machine s')
            → ((rest : List Record) → AsksInTurn steps machine waiting ((tray_of s.jobs w.sheet).0 ∷ passed) s p rest s' p' → IsStocked machine s')
            → ((reply : Reply) (plans : List Plan) (mid : P) (rest : List Record)
            → AsksInTurn steps machine waiting (passed_after reply (tray_of s.jobs w.sheet).0 passed) (state_after_reply s w reply plans) mid rest s' p'
            → IsStocked machine (state_after_reply s w reply plans) → IsStocked machine s')
            → IsStocked machine s'
        go true c next over full answered = over next
        go false true (rest, told, next) over full answered = full rest next
        go false false (reply, (plans, (mid, (rest, does, told, next)))) over full answered =
            answered reply plans mid rest next (stocked-after p s w reply plans (right p s.plans (replied (ask_waiting machine s w) reply) plans mid does) drawn)

  -- the part of an event before the phase of asks
  pub stocked-begins : (event : Event) (s : SessionState) (p : P) (records : List Record) (s' : SessionState) (p' : P) → Begins steps machine event s p records s' p' → IsStocked machine s → IsStocked machine s'
  stocked-begins Bad s p records s' p' begins drawn = absurd begins
  stocked-begins (NewJob name tray media groups) s p records s' p' begins drawn = subst (IsStocked machine) (sym begins.1) drawn
  stocked-begins (Clock to) s p records s' p' begins drawn =
      subst (IsStocked machine) (sym begins.1)
      (drawn-fewer machine s.refills s.plans (released_until machine to s.plans) (λ loc. taken-left machine loc s.plans (released_until machine to s.plans) (AreLeft-released machine to s.plans)) drawn)
  stocked-begins (Jam name) s p records s' p' (m, known, out) drawn = stocked-goes s m true p records s' p' out drawn
  stocked-begins (Off name) s p records s' p' (m, known, out) drawn = stocked-goes s m false p records s' p' out drawn
  stocked-begins (On name) s p records s' p' (m, known, told, is, same) drawn = subst (IsStocked machine) (sym is) drawn
  stocked-begins (Refill name count) s p records s' p' (f, known, told, is, same) drawn = subst (IsStocked machine) (sym is) (drawn-more machine f.loc.0 count s.refills s.plans drawn)

  pub stocked-turn : TurnsKeep steps machine IsAny (IsStocked machine)
  stocked-turn event s p records s' p' any turn drawn = go (refusal machine s event) turn where
    go : (o : Option Cause) → MatchOption o (Accepts steps machine event s p records s' p') (λ cause. (records ≡ Refused cause ∷ []) × (s' ≡ s) × (p' ≡ p)) → IsStocked machine s'
    go None accepts =
        stocked-asks accepts.between.waiting [] accepts.between accepts.mid accepts.rest s' p' accepts.asks
        (stocked-begins event s p accepts.first accepts.between accepts.mid accepts.begins drawn)
    go (Some cause) (told, is, same) = subst (IsStocked machine) (sym is) drawn
