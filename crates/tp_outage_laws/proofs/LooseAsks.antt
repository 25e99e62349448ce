-- The ask of a loose copy: what becomes of its plan, and of the others.
use Rattle.std.proofs.Common.{◌≡◌, ◌+◌, ◌<◌, ◌⊎◌, inl, inr, Bool, true, false, not, List, ◌++◌, length, refl, sym, ap, ◌∙◌, arith, Contains, subst, Option, Some, None, option_map, find}
use Rattle.std.proofs.lemmas.Bool.{and_parts}
use Rattle.std.proofs.lemmas.List.Elements.{All-contains}
use Rattle.std.proofs.lemmas.List.{length-append}
use Rattle.std.specs.List.{list_any}
use Rattle.tp_machine.specs.declared.machine.Machine.{Machine}
use Rattle.tp_machine.specs.declared.parts.ActId.{ActId}
use Rattle.tp_schedule.proofs.CopyFacts.{plan_of-itself, same_copy-is, same_copy-refl}
use Rattle.tp_schedule.specs.Answers.{IsAlternative, KeepsFloors, acts_in, follows_front}
use Rattle.tp_schedule.specs.Plans.{IsTimedPlan, change_plan, end_of_plan, is_front, is_same_copy, plan_of, point}
use Rattle.tp_schedule.specs.declared.parts.Ask.{Ask}
use Rattle.tp_schedule.specs.declared.parts.Plan.{Plan}
use Rattle.tp_event_rules.specs.Fates.{to_purge}
use Rattle.tp_event_rules.specs.Laws.{IsPlannable}
use Rattle.tp_event_rules.specs.Lines.{is_lost}
use Rattle.tp_event_rules.specs.Loops.{ask_in_flight, is_loose, next_ask}
use Rattle.tp_event_rules.specs.Moments.{release_until}
use Rattle.tp_event_rules.specs.States.{SessionState}
use Rattle.tp_event_rules.proofs.AnsweredPlans.{IsUnmoved, mine-is, other-from, unmoved-sheet}
use Rattle.tp_event_rules.proofs.ListFacts.{find-Some}
use Rattle.tp_event_rules.proofs.ReleasedPlans.{AreLeft-change_plan}
use Rattle.tp_event_rules.proofs.PlanOnFacts.{CanPlanOn-left, Contains-change_plan, IsLeft-to_purge}
use Rattle.tp_outage_laws.proofs.Flight.{between}
use Rattle.tp_outage_laws.proofs.KeptPoints.{IsKept, kept-plan}
use Rattle.tp_outage_laws.proofs.Midway.{AreFlying, IsFlying, IsMid}

-- the ask that is due is for a front of a copy that is not lost
pub record IsAskOf (machine : Machine) (s : SessionState) (ask : Ask) : Type 0 where
  pub p : Plan
  pub there : Contains s.plans p
  pub front : is_front p.kind ≡ true
  pub not_lost : is_lost s p ≡ false
  pub is : ask_in_flight machine s p ≡ ask

pub asked-of : (machine : Machine) (s : SessionState) (ask : Ask) → next_ask machine s ≡ Some ask → IsAskOf machine s ask
asked-of machine s ask e = go (find (is_loose s) s.plans) refl e where
  go : (o : Option Plan) → find (is_loose s) s.plans ≡ o → option_map (ask_in_flight machine s) o ≡ Some ask → IsAskOf machine s ask
  go None f e = absurd (cc)
  go (Some p) f e =
      let at = find-Some (is_loose s) s.plans p f in
      let parts = and_parts (is_front p.kind) (not (is_lost s p)) at.1 in
      record { p = p; there = at.0; front = parts.0; not_lost = not-false (is_lost s p) parts.1; is = cc } where
        not-false : (b : Bool) → not b ≡ true → b ≡ false
        not-false true e = absurd (cc)
        not-false false e = refl

module _ (machine : Machine) (s : SessionState) (ask : Ask) (mid : IsMid machine s) (of : IsAskOf machine s ask) where
  pub sheet-is : of.p.sheet ≡ ask.sheet
  sheet-is = ap (λ (a : Ask). a.sheet) of.is

  -- the asked copy's plan is its front
  pub front-is : (q : Plan) → Contains s.plans q → is_same_copy q.sheet ask.sheet ≡ true → q ≡ of.p
  front-is q in' same =
      let sheets : q.sheet ≡ of.p.sheet = same_copy-is q.sheet ask.sheet same ∙ sym sheet-is in
      let mine = plan_of-itself s.plans q mid.plans.legal.in_order in' in
      let its = plan_of-itself s.plans of.p mid.plans.legal.in_order of.there in
      cc

  pub flies : IsFlying s.now of.p
  flies = mid.flying of.p of.there of.front of.not_lost

  -- the copy's goal becomes a purge
  abbrev pub purge_state : SessionState
  purge_state = record s { plans = change_plan ask.sheet to_purge s.plans }

  purge-plans : IsPlannable machine purge_state
  purge-plans = CanPlanOn-left machine s.now s.plans (change_plan ask.sheet to_purge s.plans)
      (AreLeft-change_plan machine ask.sheet to_purge s.plans (λ q in' same. IsLeft-to_purge machine q (subst (λ (x : Plan). is_front x.kind ≡ true) (sym (front-is q in' same)) of.front))) mid.plans

  pub purge-mid : IsMid machine purge_state
  purge-mid = record {
    plans = purge-plans;
    flying = λ q in' front not_lost. go q front not_lost (Contains-change_plan ask.sheet to_purge s.plans q mid.plans.legal.in_order in');
  } where
    go : (q : Plan) → is_front q.kind ≡ true → is_lost s q ≡ false → (Contains s.plans q × (is_same_copy q.sheet ask.sheet ≡ false)) ⊎ ((r : Plan) × Contains s.plans r × (is_same_copy r.sheet ask.sheet ≡ true) × (q ≡ to_purge r)) → IsFlying s.now q
    go q front not_lost (inl (in', other)) = mid.flying q in' front not_lost
    go q front not_lost (inr (r, in', same, is)) =
        let f = mid.flying r in' (subst (λ (x : Plan). is_front x.kind ≡ true) is front) (subst (λ (x : Plan). is_lost s x ≡ false) is not_lost) in
        subst (IsFlying s.now) (sym is) (record { started = f.started; ends = f.ends })

  module _ (plans' : List Plan) (a : IsAlternative machine s.plans ask plans') (same_now : ask.now ≡ s.now) where
    abbrev pub planned_plans : List Plan
    planned_plans = change_plan ask.sheet (release_until (s.now + machine.lead)) plans'

    floors' : KeepsFloors machine s.now (follows_front ask) plans'
    floors' = subst (λ n. KeepsFloors machine n (follows_front ask) plans') same_now a.floors

    pub kept : (p q : Plan) → Contains s.plans p → Contains plans' q → is_same_copy q.sheet ask.sheet ≡ false → IsUnmoved q p → IsKept machine s.now p q
    kept p q in' in'' differs u = kept-plan machine s.now s.plans plans' (follows_front ask) p q mid.plans.legal a.legal mid.plans.floors floors' a.fixed in' in'' (rw differs refl) u

    pub mine-sheet : is_same_copy a.plan.sheet ask.sheet ≡ true
    mine-sheet = subst (λ c. is_same_copy c ask.sheet ≡ true) (sym a.answers.sheet) (same_copy-refl ask.sheet)

    pub mine-there : Contains plans' a.plan
    mine-there = (find-Some (λ p. is_same_copy p.sheet ask.sheet) plans' a.plan a.planned).0

    -- the planned copy has not ended
    pub new-ends : s.now < end_of_plan a.plan
    new-ends =
        let at : plan_of ask.sheet s.plans ≡ Some of.p = subst (λ c. plan_of c s.plans ≡ Some of.p) sheet-is (plan_of-itself s.plans of.p mid.plans.legal.in_order of.there) in
        let acts : length a.plan.acts ≡ length of.p.acts + length a.answers.route = ap (λ (l : List ActId). length l) (a.answers.acts ∙ ap (λ o. acts_in o ++ a.answers.route) at) ∙ length-append of.p.acts a.answers.route in
        let planned : plan_of of.p.sheet plans' ≡ Some a.plan = subst (λ c. plan_of c plans' ≡ Some a.plan) (sym sheet-is) a.planned in
        let stays : point a.plan (length of.p.acts) ≡ end_of_plan of.p = a.fixed of.p a.plan of.there planned (length of.p.acts) (rw of.front refl) (omega arith) in
        let timed = All-contains (IsTimedPlan machine) plans' a.plan a.legal.timed mine-there in
        let up = between machine s.now a.plan timed (length of.p.acts) (length a.plan.acts) (omega arith) (omega arith) in
        let above = flies.ends in
        omega arith

    pub cases : (q : Plan) → Contains planned_plans q → (Contains plans' q × (is_same_copy q.sheet ask.sheet ≡ false)) ⊎ ((r : Plan) × Contains plans' r × (is_same_copy r.sheet ask.sheet ≡ true) × (q ≡ release_until (s.now + machine.lead) r))
    cases q in' = Contains-change_plan ask.sheet (release_until (s.now + machine.lead)) plans' q a.legal.in_order in'

    pub from-before : (q : Plan) → Contains plans' q → is_same_copy q.sheet ask.sheet ≡ false → (p : Plan) × Contains s.plans p × IsUnmoved q p
    from-before q in' differs = other-from machine s.plans ask plans' a q in' differs

    pub planned-flying : AreFlying (record s { plans = change_plan ask.sheet (release_until (s.now + machine.lead)) plans' })
    planned-flying q in' front not_lost = go (cases q in') where
      go : (Contains plans' q × (is_same_copy q.sheet ask.sheet ≡ false)) ⊎ ((r : Plan) × Contains plans' r × (is_same_copy r.sheet ask.sheet ≡ true) × (q ≡ release_until (s.now + machine.lead) r)) → IsFlying s.now q
      go (inl (in'', differs)) = flew (from-before q in'' differs) where
        flew : ((p : Plan) × Contains s.plans p × IsUnmoved q p) → IsFlying s.now q
        flew (p, there, u) =
            let kind : is_front p.kind ≡ true = ap (λ (x : Plan). is_front x.kind) (sym u.is) ∙ front in
            let f = mid.flying p there kind (subst (λ c. list_any (is_same_copy c) s.lost ≡ false) (unmoved-sheet q p u) not_lost) in
            let k = kept p q there in'' differs u in
            let acts : length q.acts ≡ length p.acts = ap (λ (x : Plan). length x.acts) u.is in
            let first : point q 0 ≡ point p 0 = k.fixed 0 (rw kind refl) (omega arith) in
            let last : point q (length p.acts) ≡ end_of_plan p = k.fixed (length p.acts) (rw kind refl) (omega arith) in
            let end : end_of_plan q ≡ point q (length p.acts) = ap (point q) acts in
            let low = f.started in
            let high = f.ends in
            record { started = omega arith; ends = omega arith }
      go (inr (r, in'', same, is)) = absurd (
          let mine = mine-is machine s.plans ask plans' a r in'' same in
          let whole : is_front q.kind ≡ false = ap (λ (x : Plan). is_front x.kind) (is ∙ ap (release_until (s.now + machine.lead)) mine) ∙ ap is_front a.answers.whole in cc)
