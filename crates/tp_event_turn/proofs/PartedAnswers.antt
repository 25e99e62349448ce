-- What the answer for a loose copy leaves on the live part and on the whole.
use Rattle.std.proofs.Common.{◌≡◌, ℕ, ◌+◌, ◌<◌, ◌≤◌, inl, inr, ◌⊎◌, Bool, true, false, not, List, length, filter, refl, sym, ap, ◌∙◌, arith, Contains, subst}
use Rattle.std.specs.List.{list_any}
use Rattle.std.proofs.lemmas.Bool.{cases_lt, not_from_false}
use Rattle.std.proofs.lemmas.List.Elements.{All-contains}
use Rattle.std.proofs.lemmas.List.Folds.{Any-from_list_any}
use Rattle.tp_machine.specs.declared.machine.Machine.{Machine}
use Rattle.tp_choices.proofs.PointFacts.{point-le}
use Rattle.tp_choices.proofs.PlansLeft.{plan_of-staying}
use Rattle.tp_choices.specs.LiveParts.{less}
use Rattle.tp_schedule.specs.Answers.{IsAlternative}
use Rattle.tp_schedule.specs.LivePlans.{is_live}
use Rattle.tp_schedule.specs.PlannerAnswers.{CanPlanOn, IsAnswer}
use Rattle.tp_schedule.specs.Plans.{IsTimedPlan, change_plan, end_of_plan, goes_to, is_before, is_front, is_same_copy, plan_of, point}
use Rattle.tp_schedule.specs.declared.parts.Ask.{Ask}
use Rattle.tp_schedule.specs.declared.parts.Plan.{Plan}
use Rattle.tp_schedule.specs.declared.parts.Reply.TheVariants.{Planned}
use Rattle.tp_schedule.specs.declared.parts.SheetId.{SheetId}
use Rattle.tp_schedule.proofs.CopyFacts.{plan_of-itself, same_copy-is}
use Rattle.tp_schedule.proofs.Membership.{Contains-filter, Contains-filter_from}
use Rattle.tp_event_rules.proofs.AnsweredPlans.{mine-is, other-from, other-to, plan-cases, unmoved-sheet}
use Rattle.tp_event_rules.proofs.LeftPlans.{IsLegal-left, KeepsHorizon-left}
use Rattle.tp_event_rules.proofs.ListFacts.{Any-contains, find-Some}
use Rattle.tp_event_rules.proofs.PlanOnFacts.{CanPlanOn-left, Contains-change_plan, IsLeft-to_purge}
use Rattle.tp_event_rules.proofs.ReleasedPlans.{AreLeft-change_plan, IsLeft-release, released-below}
use Rattle.tp_event_rules.specs.Fates.{to_purge}
use Rattle.tp_event_rules.specs.StateInvariants.{is_planned_among}
use Rattle.tp_event_rules.specs.Lines.{is_lost}
use Rattle.tp_event_rules.specs.Loops.{ask_in_flight, planned}
use Rattle.tp_event_rules.specs.Moments.{release_until}
use Rattle.tp_event_rules.specs.States.{SessionState}
use Rattle.tp_event_turn.specs.LiveAnswers.{IsAnswerOnWhole, live_at}
use Rattle.tp_event_turn.proofs.LiveAhead.{same-plan}
use Rattle.tp_event_turn.proofs.LiveLists.{filter-by}
use Rattle.tp_event_turn.proofs.LivePast.{both-parts}
use Rattle.tp_event_turn.proofs.PartedAsks.{IsLoose, has, past-is, stays, timed}
use Rattle.tp_event_turn.proofs.PartedLists.{gone_from, part}
use Rattle.tp_event_turn.proofs.PartedStates.{HasFront, IsParted, planned-there}
use Rattle.tp_event_turn.proofs.PartedChanges.{change-among, change-part, gone-change, not-yes}
use Rattle.tp_stock.specs.Stock.{less_taken}

module _ (machine : Machine) (g : SheetId → Bool) (first : List Plan) (s : SessionState) (parted : IsParted machine g first s) (p : Plan) (loose : IsLoose machine g first s parted p) where
  only-front : (q : Plan) → Contains s.plans q → is_same_copy q.sheet p.sheet ≡ true → q ≡ p
  only-front q in' e =
      let one = plan_of-itself s.plans q parted.can.legal.in_order in' in
      let other = plan_of-itself s.plans p parted.can.legal.in_order loose.there in
      let sheet : q.sheet ≡ p.sheet = same_copy-is q.sheet p.sheet e in
      let at : plan_of q.sheet s.plans ≡ plan_of p.sheet s.plans = ap (λ c. plan_of c s.plans) sheet in
      cc

  -- the copy gives its tray up
  abbrev pub given_up : SessionState
  given_up = record s { plans = change_plan p.sheet to_purge s.plans }

  pub parted-given_up : IsParted machine g first given_up
  parted-given_up = record {
    can = CanPlanOn-left machine s.now s.plans (change_plan p.sheet to_purge s.plans)
        (AreLeft-change_plan machine p.sheet to_purge s.plans (λ q in' e. IsLeft-to_purge machine q (subst (λ r. is_front r.kind ≡ true) (sym (only-front q in' e)) loose.front))) parted.can;
    each = λ r in'. elim (cases r in') [
      | inl other ↦ parted.each r other.0
      | inr mine ↦ subst (λ q. g q.sheet ≡ not (is_live machine s.now q)) (sym mine.3) (parted.each mine.0 mine.1)
    ];
    lost = λ c in'. change-among p.sheet to_purge (λ q. refl) c s.plans ∙ parted.lost c in';
    fronts = λ r in'. elim (cases r in') [
      | inl other ↦ parted.fronts r other.0
      | inr mine ↦ subst (λ q. is_front q.kind ≡ true → list_any (is_same_copy q.sheet) s.lost ≡ false → HasFront s.now q) (sym mine.3)
          (λ e f. let h = parted.fronts mine.0 mine.1 e f in record { released = h.released; ahead = h.ahead })
    ];
    last = λ r in' copy high. elim (cases r in') [
      | inl other ↦ parted.last r other.0 copy high
      | inr mine ↦ λ q in'' gone tray to delivered. absurd (let no : goes_to r.goal tray ≡ false = ap (λ (q : Plan). goes_to q.goal tray) mine.3 in cc)
    ];
    past = λ r in' gone. elim (cases r in') [
      | inl other ↦ parted.past r other.0 gone
      | inr mine ↦ absurd (let no : g r.sheet ≡ false = ap (λ (q : Plan). g q.sheet) mine.3 ∙ ap g (same_copy-is mine.0.sheet p.sheet mine.2) ∙ stays machine g first s parted p loose in cc)
    ];
    gone = gone-change p.sheet to_purge (λ q. refl) g (stays machine g first s parted p loose) s.plans ∙ parted.gone;
  } where
    cases : (r : Plan) → Contains (change_plan p.sheet to_purge s.plans) r → (Contains s.plans r × (is_same_copy r.sheet p.sheet ≡ false)) ⊎ ((q : Plan) × Contains s.plans q × (is_same_copy q.sheet p.sheet ≡ true) × (r ≡ to_purge q))
    cases r in' = Contains-change_plan p.sheet to_purge s.plans r parted.can.legal.in_order in'

  -- the copy is planned: what the answer on the live part and on the whole leave
  module _ (live_spent whole_spent : Machine → List Plan → Ask → ℕ → Type 0) (live : List Plan) (answer : IsAnswer live_spent machine (live_at machine s.now s.plans) (ask_in_flight machine s p) Planned live)
      (on : IsAnswerOnWhole whole_spent machine s.plans (ask_in_flight machine s p) Planned live) where
    a : IsAlternative machine s.plans (ask_in_flight machine s p) on.whole
    a = on.answer.0.alternative

    b : IsAlternative machine (live_at machine s.now s.plans) (ask_in_flight machine s p) live
    b = answer.0.alternative

    was-live : (r : Plan) → Contains (live_at machine s.now s.plans) r → g r.sheet ≡ false
    was-live r in' = let from = Contains-filter_from (is_live machine s.now) s.plans r in' in parted.each r from.0 ∙ ap not from.1

    was-past : (q : Plan) → Contains on.whole q → is_live machine s.now q ≡ false → Contains s.plans q
    was-past q in' past =
        (Contains-filter_from (λ r. not (is_live machine s.now r)) s.plans q
        (subst (λ ps. Contains ps q) on.past_part (Contains-filter (λ r. not (is_live machine s.now r)) on.whole q in' (not_from_false (is_live machine s.now q) past)))).0

    each-whole : (q : Plan) → Contains on.whole q → g q.sheet ≡ not (is_live machine s.now q)
    each-whole q in' = go (is_live machine s.now q) refl where
      go : (c : Bool) → is_live machine s.now q ≡ c → g q.sheet ≡ not c
      go true e = elim (plan-cases machine (live_at machine s.now s.plans) (ask_in_flight machine s p) live b q (subst (λ ps. Contains ps q) on.live_part (Contains-filter (is_live machine s.now) on.whole q in' e))) [
        | inl is ↦ ap (λ (r : Plan). g r.sheet) is ∙ ap g b.answers.sheet ∙ stays machine g first s parted p loose
        | inr other ↦ ap g (unmoved-sheet q other.0 other.2) ∙ was-live other.0 other.1
      ]
      go false e = parted.each q (was-past q in' e) ∙ ap not e

    less-whole : less g on.whole ≡ live
    less-whole = (both-parts machine s.now g on.whole each-whole).0 ∙ on.live_part

    pub plan-same : plan_of p.sheet live ≡ plan_of p.sheet on.whole
    plan-same = ap (plan_of p.sheet) (sym less-whole) ∙ plan_of-staying (λ c. not (g c)) p.sheet on.whole (not_from_false (g p.sheet) (stays machine g first s parted p loose))

    abbrev pub planned_on : SessionState
    planned_on = (planned machine (ask_in_flight machine s p) on.whole s).state

    pub state-planned : (planned machine (ask_in_flight machine s p) live (part machine g first s)).state ≡ part machine g first planned_on
    state-planned =
        let plans : change_plan p.sheet (release_until (s.now + machine.lead)) live ≡ less g (change_plan p.sheet (release_until (s.now + machine.lead)) on.whole) =
        ap (change_plan p.sheet (release_until (s.now + machine.lead))) (sym less-whole) ∙ sym (change-part p.sheet (release_until (s.now + machine.lead)) (λ q. refl) g (stays machine g first s parted p loose) on.whole) in
        λ i. record s { plans = plans i; lost = filter (λ c. not (g c)) s.lost; refills = less_taken machine (gone_from g first) s.refills }

    abbrev Cases : Plan → Type 0
    Cases r = (Contains on.whole r × (is_same_copy r.sheet p.sheet ≡ false)) ⊎ ((q : Plan) × Contains on.whole q × (is_same_copy q.sheet p.sheet ≡ true) × (r ≡ release_until (s.now + machine.lead) q))

    cases : (r : Plan) → Contains (change_plan p.sheet (release_until (s.now + machine.lead)) on.whole) r → Cases r
    cases r in' = Contains-change_plan p.sheet (release_until (s.now + machine.lead)) on.whole r a.legal.in_order in'

    can-planned : CanPlanOn machine s.now planned_on.plans
    can-planned =
        let left = AreLeft-change_plan machine p.sheet (release_until (s.now + machine.lead)) on.whole (λ q in' e. IsLeft-release machine (s.now + machine.lead) q) in
        record {
          now_at_most = parted.can.now_at_most;
          legal = IsLegal-left machine on.whole planned_on.plans left a.legal;
          floors = λ r in' not_exempt i released within. elim (cases r in') [
            | inl other ↦ a.floors r other.0 (rw other.1 refl) i released within
            | inr mine ↦
                let t = All-contains (IsTimedPlan machine) on.whole mine.0 a.legal.timed mine.1 in
                subst (λ (q : Plan). q.released ≤ i → i < length q.acts → s.now + machine.lead < point q i) (sym mine.3)
                (λ le w. released-below machine (s.now + machine.lead) mine.0 i t le w) released within
          ];
          horizon = KeepsHorizon-left machine s.now on.whole planned_on.plans left a.horizon;
        }

    -- where another plan ends ahead, it did before
    ended-ahead : (q : Plan) → Contains on.whole q → is_same_copy q.sheet p.sheet ≡ false → s.now < end_of_plan q
        → (r : Plan) × Contains s.plans r × (q.sheet ≡ r.sheet) × (q.goal ≡ r.goal) × (s.now < end_of_plan r)
    ended-ahead q in' other high =
        let from = other-from machine s.plans (ask_in_flight machine s p) on.whole a q in' other in
        let sheet = unmoved-sheet q from.0 from.2 in
        let goal : q.goal ≡ from.0.goal = ap (λ (z : Plan). z.goal) from.2.is in
        let acts : length q.acts ≡ length from.0.acts = ap (λ (z : Plan). length z.acts) from.2.is in
        let released : q.released ≡ from.0.released = ap (λ (z : Plan). z.released) from.2.is in
        elim (cases_lt from.0.released (length from.0.acts)) [
          | inl less ↦
              let floor = parted.can.floors from.0 from.1 refl from.0.released (omega arith) less in
              let rises = point-le machine from.0 (timed machine g first s parted from.0 from.1) from.0.released (length from.0.acts) (omega arith) (omega arith) in
              (from.0, from.1, sheet, goal, omega arith)
          | inr le ↦
              let is = same-plan machine s.plans on.whole parted.can.legal.timed a.legal a.fixed q from.0 in' from.1 from.2.is (omega arith) in
              (from.0, from.1, sheet, goal, subst (λ z. s.now < end_of_plan z) is high)
        ]

    front-there : (q : Plan) → Contains on.whole q → is_same_copy q.sheet p.sheet ≡ false → is_front q.kind ≡ true → is_lost s q ≡ false → HasFront s.now q
    front-there q in' other front copy =
        let from = other-from machine s.plans (ask_in_flight machine s p) on.whole a q in' other in
        let kind : is_front q.kind ≡ is_front from.0.kind = ap (λ (z : Plan). is_front z.kind) from.2.is in
        let lost : is_lost s q ≡ is_lost s from.0 = ap (λ (z : Plan). list_any (is_same_copy z.sheet) s.lost) from.2.is in
        let acts : length q.acts ≡ length from.0.acts = ap (λ (z : Plan). length z.acts) from.2.is in
        let released : q.released ≡ from.0.released = ap (λ (z : Plan). z.released) from.2.is in
        let has' = parted.fronts from.0 from.1 (sym kind ∙ front) (sym lost ∙ copy) in
        let all = has'.released in
        let is = same-plan machine s.plans on.whole parted.can.legal.timed a.legal a.fixed q from.0 in' from.1 from.2.is (omega arith) in
        subst (HasFront s.now) (sym is) has'

    planned-whole : (c : SheetId) → is_planned_among s.plans c ≡ true → is_planned_among on.whole c ≡ true
    planned-whole c there =
        let at = Any-contains (λ q. is_same_copy q.sheet c ≡ true) s.plans (Any-from_list_any (λ q. is_same_copy q.sheet c) s.plans there) in
        let sheet = same_copy-is at.0.sheet c at.2 in
        go at.0 at.1 sheet (is_same_copy at.0.sheet p.sheet) refl where
          go : (r : Plan) → Contains s.plans r → r.sheet ≡ c → (d : Bool) → is_same_copy r.sheet p.sheet ≡ d → is_planned_among on.whole c ≡ true
          go r in' is true e =
              let there = find-Some (λ q. is_same_copy q.sheet p.sheet) on.whole a.plan a.planned in
              let same : a.plan.sheet ≡ c = a.answers.sheet ∙ sym (same_copy-is r.sheet p.sheet e) ∙ is in
              subst (λ d. is_planned_among on.whole d ≡ true) same (planned-there on.whole a.plan there.0)
          go r in' is false e =
              let to = other-to machine s.plans (ask_in_flight machine s p) on.whole a r in' e in
              subst (λ d. is_planned_among on.whole d ≡ true) (unmoved-sheet to.0 r to.2 ∙ is) (planned-there on.whole to.0 to.1)

    mine-whole : (q : Plan) → Contains on.whole q → is_same_copy q.sheet p.sheet ≡ true → q ≡ a.plan
    mine-whole q in' e = mine-is machine s.plans (ask_in_flight machine s p) on.whole a q in' e

    pub parted-planned : IsParted machine g first planned_on
    parted-planned = record {
      can = can-planned;
      each = λ r in'. elim (cases r in') [
        | inl other ↦ each-whole r other.0
        | inr mine ↦ subst (λ q. g q.sheet ≡ not (is_live machine s.now q)) (sym mine.3) (each-whole mine.0 mine.1)
      ];
      lost = λ c in'. change-among p.sheet (release_until (s.now + machine.lead)) (λ q. refl) c on.whole ∙ planned-whole c (parted.lost c in');
      fronts = λ r in' front copy. elim (cases r in') [
        | inl other ↦ front-there r other.0 other.1 front copy
        | inr mine ↦
            let kind : is_front r.kind ≡ false = ap (λ (q : Plan). is_front q.kind) mine.3 ∙ ap (λ (q : Plan). is_front q.kind) (mine-whole mine.0 mine.1 mine.2) ∙ ap is_front a.answers.whole in
            absurd (cc)
      ];
      last = λ r in' copy high. elim (cases r in') [
        | inl other ↦
            let was = ended-ahead r other.0 other.1 high in
            let copy' : is_lost s was.0 ≡ false = ap (λ c. list_any (is_same_copy c) s.lost) (sym was.2) ∙ copy in
            λ q in'' gone tray to delivered. subst (λ c. is_before q.sheet c ≡ true) (sym was.2) (parted.last was.0 was.1 copy' was.4 q in'' gone tray (ap (λ goal. goes_to goal tray) (sym was.3) ∙ to) delivered)
        | inr mine ↦
            let sheet : r.sheet ≡ p.sheet = ap (λ (q : Plan). q.sheet) mine.3 ∙ same_copy-is mine.0.sheet p.sheet mine.2 in
            let goal : r.goal ≡ p.goal = ap (λ (q : Plan). q.goal) mine.3 ∙ ap (λ (q : Plan). q.goal) (mine-whole mine.0 mine.1 mine.2) ∙ a.answers.goal in
            λ q in'' gone tray to delivered. subst (λ c. is_before q.sheet c ≡ true) (sym sheet) (parted.last p loose.there loose.copy (has machine g first s parted p loose).ahead q in'' gone tray (ap (λ goal. goes_to goal tray) (sym goal) ∙ to) delivered)
      ];
      past = λ r in' gone. elim (cases r in') [
        | inl other ↦ parted.past r (was-past r other.0 (not-yes (is_live machine s.now r) (sym (each-whole r other.0) ∙ gone))) gone
        | inr mine ↦ absurd (let no : g r.sheet ≡ false = ap (λ (q : Plan). g q.sheet) mine.3 ∙ ap g (same_copy-is mine.0.sheet p.sheet mine.2) ∙ stays machine g first s parted p loose in cc)
      ];
      gone = gone-change p.sheet (release_until (s.now + machine.lead)) (λ q. refl) g (stays machine g first s parted p loose) on.whole
          ∙ filter-by (λ q. g q.sheet) (λ q. not (is_live machine s.now q)) on.whole each-whole
          ∙ on.past_part ∙ past-is machine g first s parted;
    }
