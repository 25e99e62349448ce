-- The loop and the settling leave what was delivered.
use Rattle.std.proofs.Common.{◌≡◌, ℕ, ◌+◌, ◌⊎◌, inl, inr, Bool, true, false, cond, ◌&&◌, not, List, [], ◌∷◌, ◌++◌, map, refl, sym, ap, ◌∙◌, arith, Contains, subst, Some}
use Rattle.tp_machine.specs.declared.machine.Machine.{Machine}
use Rattle.tp_schedule.proofs.Membership.{Contains-cons_cases, Contains-here, Contains-later, Contains-map, Contains-map_from}
use Rattle.tp_schedule.specs.Answers.{IsAlternative, IsRetimed, unmoved}
use Rattle.tp_schedule.specs.PlannerAnswers.{Deed, IsAnswer, none_exempt}
use Rattle.tp_schedule.specs.PlannerAnswers.Deed.{replied, settled}
use Rattle.tp_schedule.specs.Plans.{change_plan, end_of_plan, is_front, is_same_copy, plan_of}
use Rattle.tp_schedule.specs.declared.parts.Ask.{Ask}
use Rattle.tp_schedule.specs.declared.parts.Goal.{Goal}
use Rattle.tp_schedule.specs.declared.parts.Goal.TheVariants.{Tray, Purge}
use Rattle.tp_schedule.specs.declared.parts.Plan.{Plan}
use Rattle.tp_schedule.specs.declared.parts.Reply.{Reply}
use Rattle.tp_schedule.specs.declared.parts.Reply.TheVariants.{Planned, Never, Spent}
use Rattle.tp_schedule.specs.declared.parts.SheetId.{SheetId}
use Rattle.tp_schedule.specs.declared.records.Record.{Record}
use Rattle.tp_schedule.specs.declared.records.Record.TheVariants.{Purge as PurgeTold, Stuck}
use Rattle.tp_event_rules.specs.AnswerRecords.{Answer, moves, told_of_reply}
use Rattle.tp_event_rules.specs.Fates.{to_purge}
use Rattle.tp_event_rules.specs.Laws.{IsPlannable}
use Rattle.tp_event_rules.specs.Loops.{after_answers, after_asked, after_one, after_reply, next_ask, not_planned, stuck_module}
use Rattle.tp_event_rules.specs.Moments.{is_tray_plan, release_until}
use Rattle.tp_event_rules.specs.Outages.{outage}
use Rattle.tp_event_rules.specs.Planners.{AnswersInTurn, GoesOut, IsRight, PlannerSteps}
use Rattle.tp_event_rules.specs.States.{Outcome, SessionState, told_before}
use Rattle.tp_event_rules.proofs.AnsweredPlans.{IsUnmoved, mine-is, other-to, unmoved-sheet, unmoved-tray_plan}
use Rattle.tp_event_rules.proofs.SameMoment.{now-answers}
use Rattle.tp_event_rules.specs.Labels.{label, module_name}
use Rattle.tp_event_rules.proofs.PlanOnFacts.{Contains-change_plan}
use Rattle.tp_event_rules.proofs.PlannableTurns.{plannable-answers}
use Rattle.tp_outage_laws.proofs.LooseAsks.{IsAskOf, asked-of, front-is, purge_state, purge-mid, kept, new-ends, cases, from-before, planned-flying}
use Rattle.tp_outage_laws.proofs.Flight.{between}
use Rattle.tp_outage_laws.proofs.KeptPoints.{IsKept, ends-back, ends-on, kept-plan}
use Rattle.tp_outage_laws.proofs.Midway.{IsMid}
use Rattle.tp_headline.proofs.Delivered.{IsDelivered}
use Rattle.tp_headline.proofs.QuietOutages.{Keeps, keeps-fall_back, keeps-nothing, keeps-outage, keeps-then}
use Rattle.tp_headline.proofs.Silent.{silent-moves, silent-one, silent-releases, silent-reply}
use Rattle.tp_headline.proofs.Steps.{AreNoDeliveries, IsQuiet, quiet-trans}

-- a plan that is changed stands in the changed plans, and others stay
change-there : (copy : SheetId) (f : Plan → Plan) (plans : List Plan) (p : Plan) → Contains plans p → is_same_copy p.sheet copy ≡ false → Contains (change_plan copy f plans) p
change-there copy f [] p in' other = in'
change-there copy f (q ∷ plans) p in' other = go (is_same_copy q.sheet copy) refl (change-there copy f plans p) where
  go : (b : Bool) → is_same_copy q.sheet copy ≡ b → (Contains plans p → is_same_copy p.sheet copy ≡ false → Contains (change_plan copy f plans) p) → Contains (cond b (f q ∷ plans) (q ∷ change_plan copy f plans)) p
  go true e rest = elim (Contains-cons_cases q plans p in') [
    | inl is ↦ absurd (let same : is_same_copy p.sheet copy ≡ true = subst (λ (x : Plan). is_same_copy x.sheet copy ≡ true) is e in cc)
    | inr later ↦ Contains-later (f q) plans p later
  ]
  go false e rest = elim (Contains-cons_cases q plans p in') [
    | inl is ↦ subst (Contains (q ∷ change_plan copy f plans)) is (Contains-here q (change_plan copy f plans))
    | inr later ↦ Contains-later q (change_plan copy f plans) p (rest later other)
  ]

module _ (machine : Machine) (s : SessionState) (ask : Ask) (mid : IsMid machine s) (of : IsAskOf machine s ask) where
  not-tray : is_tray_plan of.p ≡ false
  not-tray = let front = of.front in rw front refl

  other : (p : Plan) → Contains s.plans p → is_tray_plan p ≡ true → is_same_copy p.sheet ask.sheet ≡ false
  other p in' tray = go (is_same_copy p.sheet ask.sheet) refl where
    go : (b : Bool) → is_same_copy p.sheet ask.sheet ≡ b → b ≡ false
    go true e = absurd (let is = front-is machine s ask mid of p in' e in let none = not-tray in let same : is_tray_plan p ≡ is_tray_plan of.p = ap is_tray_plan is in cc)
    go false e = refl

  pub purge-quiet : (rs : List Record) → AreNoDeliveries rs → IsQuiet s (purge_state machine s ask mid of) rs
  purge-quiet rs none = record {
    now = refl;
    jobs = refl;
    broke = λ n e. inl e;
    to = λ c d. record { p = d.p; there = change-there ask.sheet to_purge s.plans d.p d.there (other d.p d.there d.to_tray); of = d.of; to_tray = d.to_tray; past = d.past };
    from = λ c d. back c d (Contains-change_plan ask.sheet to_purge s.plans d.p mid.plans.legal.in_order d.there);
    none = none;
  } where
    and-false : (b : Bool) → (b && false) ≡ true → ⊥
    and-false true e = cc
    and-false false e = cc

    back : (c : SheetId) (d : IsDelivered s.now (change_plan ask.sheet to_purge s.plans) c) → (Contains s.plans d.p × (is_same_copy d.p.sheet ask.sheet ≡ false)) ⊎ ((r : Plan) × Contains s.plans r × (is_same_copy r.sheet ask.sheet ≡ true) × (d.p ≡ to_purge r)) → IsDelivered s.now s.plans c
    back c d (inl (in', differs)) = record { p = d.p; there = in'; of = d.of; to_tray = d.to_tray; past = d.past }
    back c d (inr (r, in', same, is)) = absurd (and-false (not (is_front r.kind)) (ap is_tray_plan (sym is) ∙ d.to_tray))

  module _ (plans' : List Plan) (a : IsAlternative machine s.plans ask plans') (same_now : ask.now ≡ s.now) where
    planned-quiet : (rs : List Record) → AreNoDeliveries rs → IsQuiet s (record s { plans = change_plan ask.sheet (release_until (s.now + machine.lead)) plans' }) rs
    planned-quiet rs none = record {
      now = refl;
      jobs = refl;
      broke = λ n e. inl e;
      to = λ c d.
          let differs = other d.p d.there d.to_tray in
          let to = other-to machine s.plans ask plans' a d.p d.there differs in
          let differs' : is_same_copy to.0.sheet ask.sheet ≡ false = subst (λ c. is_same_copy c ask.sheet ≡ false) (sym (unmoved-sheet to.0 d.p to.2)) differs in
          record {
            p = to.0;
            there = change-there ask.sheet (release_until (s.now + machine.lead)) plans' to.0 to.1 differs';
            of = unmoved-sheet to.0 d.p to.2 ∙ d.of;
            to_tray = unmoved-tray_plan to.0 d.p to.2 ∙ d.to_tray;
            past = ends-on machine s.now d.p to.0 (kept machine s ask mid of plans' a same_now d.p to.0 d.there to.1 differs' to.2) d.past;
          };
      from = λ c d. back c d (cases machine s ask mid of plans' a same_now d.p d.there);
      none = none;
    } where
      back : (c : SheetId) (d : IsDelivered s.now (change_plan ask.sheet (release_until (s.now + machine.lead)) plans') c)
          → (Contains plans' d.p × (is_same_copy d.p.sheet ask.sheet ≡ false)) ⊎ ((r : Plan) × Contains plans' r × (is_same_copy r.sheet ask.sheet ≡ true) × (d.p ≡ release_until (s.now + machine.lead) r)) → IsDelivered s.now s.plans c
      back c d (inl (in', differs)) =
          let p = from-before machine s ask mid of plans' a same_now d.p in' differs in
          record {
            p = p.0;
            there = p.1;
            of = sym (unmoved-sheet d.p p.0 p.2) ∙ d.of;
            to_tray = sym (unmoved-tray_plan d.p p.0 p.2) ∙ d.to_tray;
            past = ends-back machine s.now p.0 d.p (kept machine s ask mid of plans' a same_now p.0 d.p p.1 in' differs p.2) d.past;
          }
      back c d (inr (r, in', same, is)) =
          let mine = mine-is machine s.plans ask plans' a r in' same in
          let end : end_of_plan d.p ≡ end_of_plan r = ap end_of_plan is in
          let end' : end_of_plan r ≡ end_of_plan a.plan = ap end_of_plan mine in
          let above = new-ends machine s ask mid of plans' a same_now in
          let past = d.past in
          absurd (omega arith)

-- what an answer leads to
module _ (machine : Machine) (s : SessionState) (ask : Ask) (mid : IsMid machine s) (of : IsAskOf machine s ask) where
  keeps-told : (rs : List Record) (o : Outcome) → AreNoDeliveries rs → Keeps machine s o → Keeps machine s (told_before rs o)
  keeps-told rs o none (mid', q) = (mid', quiet-trans s s o.state rs o.records (record { now = refl; jobs = refl; broke = λ n e. inl e; to = λ c d. d; from = λ c d. d; none = none }) q)

  keeps-not_planned : (goal : Goal) → Keeps machine s (not_planned machine ask goal s)
  keeps-not_planned (Tray t) =
      let falls = keeps-fall_back machine (purge_state machine s ask mid of) (record { sheet = ask.sheet; want = ask.want; again = true }) (purge-mid machine s ask mid of) in
      (falls.0, quiet-trans s (purge_state machine s ask mid of) _ (PurgeTold (label s.jobs ask.sheet) ∷ []) _ (purge-quiet machine s ask mid of (PurgeTold (label s.jobs ask.sheet) ∷ []) (silent-one (PurgeTold (label s.jobs ask.sheet)) refl)) falls.1)
  keeps-not_planned Purge = keeps-told (Stuck (label s.jobs ask.sheet) (module_name machine (stuck_module machine s ask)) ∷ []) (outage machine (stuck_module machine s ask).0 true s) (silent-one (Stuck (label s.jobs ask.sheet) (module_name machine (stuck_module machine s ask))) refl) (keeps-outage machine (stuck_module machine s ask).0 true s mid)

  keeps-reply : (spent : Machine → List Plan → Ask → ℕ → Type 0) (reply : Reply) (plans : List Plan) → IsAnswer spent machine s.plans ask reply plans → IsPlannable machine (after_reply machine ask reply plans s).state → Keeps machine s (after_reply machine ask reply plans s)
  keeps-reply spent Planned plans answer can =
      let a = answer.0.alternative in
      let same = ap (λ (x : Ask). x.now) (sym of.is) in
      (record { plans = can; flying = planned-flying machine s ask mid of plans a same }, planned-quiet machine s ask mid of plans a same _ (silent-releases machine s.jobs (s.now + machine.lead) (plan_of ask.sheet plans)))
  keeps-reply spent Never plans answer can = keeps-not_planned ask.goal
  keeps-reply spent (Spent bound) plans answer can = keeps-not_planned ask.goal

module _ {P : Type 0} (steps : PlannerSteps P) (machine : Machine) (spent : P → Machine → List Plan → Ask → ℕ → Type 0)
    (right : (p : P) (plans : List Plan) (deed : Deed) (plans' : List Plan) (p' : P) → steps.does p plans deed plans' p' → IsRight (spent p) machine plans deed plans') where
  keeps-one : (s : SessionState) (a : Answer) (ask : Ask) (p p' : P) → next_ask machine s ≡ Some ask → steps.does p s.plans (replied ask a.reply) a.plans p' → IsMid machine s → Keeps machine s (after_one machine s a)
  keeps-one s a ask p p' e does mid =
      let can : IsPlannable machine (after_one machine s a).state = plannable-answers steps machine spent right s (a ∷ []) p p' (ask, e, (p', does, refl)) mid.plans in
      let of = asked-of machine s ask e in
      subst (λ o. Keeps machine s (after_asked machine s o a)) (sym e)
      (keeps-told machine s ask mid of (told_of_reply machine s.plans ask a.reply a.plans) (after_reply machine ask a.reply a.plans s) (silent-reply machine s.plans ask a.reply a.plans)
      (keeps-reply machine s ask mid of (spent p) a.reply a.plans (right p s.plans (replied ask a.reply) a.plans p' does) (subst (λ o. IsPlannable machine (after_asked machine s o a).state) e can)))

  pub keeps-answers : (s : SessionState) (answers : List Answer) (p p' : P) → AnswersInTurn steps machine s answers p p' → IsMid machine s → Keeps machine s (after_answers machine answers s)
  keeps-answers s [] p p' in_turn mid = keeps-nothing machine s mid
  keeps-answers s (a ∷ answers) p p' (ask, e, (between, does, rest)) mid =
      let one = keeps-one s a ask p between e does mid in
      keeps-then machine s (after_one machine s a) (after_answers machine answers) one (keeps-answers (after_one machine s a).state answers between p' rest one.0)

  -- the settling
  settled-quiet : (s : SessionState) (plans : List Plan) (rs : List Record) → IsMid machine s → IsRetimed machine s.now none_exempt s.plans plans → AreNoDeliveries rs → IsQuiet s (record s { plans = plans }) rs
  settled-quiet s plans rs mid r none = record {
    now = refl;
    jobs = refl;
    broke = λ n e. inl e;
    to = λ c d.
        let q = match s.plans plans (sym r.same) d.p d.there in
        let u : IsUnmoved q.0 d.p = record { is = sym q.2 } in
        record {
          p = q.0;
          there = q.1;
          of = unmoved-sheet q.0 d.p u ∙ d.of;
          to_tray = unmoved-tray_plan q.0 d.p u ∙ d.to_tray;
          past = ends-on machine s.now d.p q.0 (kept d.p q.0 d.there q.1 u) d.past;
        };
    from = λ c d.
        let p = match plans s.plans r.same d.p d.there in
        let u : IsUnmoved d.p p.0 = record { is = p.2 } in
        record {
          p = p.0;
          there = p.1;
          of = sym (unmoved-sheet d.p p.0 u) ∙ d.of;
          to_tray = sym (unmoved-tray_plan d.p p.0 u) ∙ d.to_tray;
          past = ends-back machine s.now p.0 d.p (kept p.0 d.p p.1 d.there u) d.past;
        };
    none = none;
  } where
    match : (ps qs : List Plan) → map unmoved ps ≡ map unmoved qs → (p : Plan) → Contains ps p → (q : Plan) × Contains qs q × (unmoved p ≡ unmoved q)
    match ps qs e p in' = Contains-map_from unmoved qs (unmoved p) (subst (λ l. Contains l (unmoved p)) e (Contains-map unmoved ps p in'))

    kept : (p q : Plan) → Contains s.plans p → Contains plans q → IsUnmoved q p → IsKept machine s.now p q
    kept p q in' in'' u = kept-plan machine s.now s.plans plans none_exempt p q mid.plans.legal r.legal mid.plans.floors r.floors r.fixed in' in'' refl u

  pub quiet-out : (s : SessionState) (m : ℕ) (jam : Bool) (p : P) (records : List Record) (s' : SessionState) (p' : P) → GoesOut steps machine s m jam p records s' p' → IsMid machine s → IsQuiet s s' records
  quiet-out s m jam p records s' p' out mid =
      let o = outage machine m jam s in
      let first = keeps-outage machine m jam s mid in
      let loop = out.loop in
      let answered = keeps-answers o.state loop.answers p loop.mid loop.in_turn first.0 in
      let settled = right loop.mid (after_answers machine loop.answers o.state).state.plans (settled o.state.now) loop.plans p' loop.settles in
      let retimed = subst (λ n. IsRetimed machine n none_exempt (after_answers machine loop.answers o.state).state.plans loop.plans) (sym (now-answers machine loop.answers o.state)) settled.retimed in
      let last = settled-quiet (after_answers machine loop.answers o.state).state loop.plans (moves (after_answers machine loop.answers o.state).state.plans loop.plans) answered.0 retimed (silent-moves _ loop.plans) in
      let looped = quiet-trans o.state _ _ (after_answers machine loop.answers o.state).records _ answered.1 last in
      subst (λ rs. IsQuiet s s' rs) (sym out.told) (quiet-trans s o.state s' o.records out.rest first.1 (subst (λ rs. IsQuiet o.state s' rs) (sym loop.told) (subst (λ t. IsQuiet o.state t ((after_answers machine loop.answers o.state).records ++ moves (after_answers machine loop.answers o.state).state.plans loop.plans)) (sym loop.state) looped)))
