-- A state stays sound where an ask is answered by a plan, and where its times are settled.
use Rattle.std.proofs.Common.{◌≡◌, ℕ, ◌+◌, ◌≤◌, ◌∙◌, inl, inr, Bool, true, false, ◌&&◌, ◌||◌, not, List, length, refl, sym, ap, subst, arith, Contains, Some, nat_le, nat_lt}
use Rattle.std.proofs.lemmas.Bool.{and_parts}
use Rattle.std.proofs.lemmas.Bool.Decides.{nat_tests}
use Rattle.std.proofs.lemmas.List.Elements.{All-contains}
use Rattle.tp_machine.specs.declared.machine.Machine.{Machine}
use Rattle.tp_schedule.specs.Answers.{IsAlternative, IsRetimed, KeepsFixed, kept_of, unmoved}
use Rattle.tp_schedule.specs.Legality.{IsLegal}
use Rattle.tp_schedule.specs.PlannerAnswers.{none_exempt}
use Rattle.tp_schedule.specs.Plans.{IsTimedPlan, is_fixed, is_front, plan_of, point}
use Rattle.tp_schedule.specs.declared.parts.Ask.{Ask}
use Rattle.tp_schedule.specs.declared.parts.Kind.{Kind}
use Rattle.tp_schedule.specs.declared.parts.Kind.TheVariants.{Front, Whole}
use Rattle.tp_schedule.specs.declared.parts.Plan.{Plan}
use Rattle.tp_schedule.proofs.CopyFacts.{plan_of-itself}
use Rattle.tp_schedule.proofs.Membership.{Contains-filter_from, Contains-map, Contains-map_from}
use Rattle.tp_jobs.specs.WaitingCopies.{without_waiting}
use Rattle.tp_jobs.specs.declared.parts.WaitingCopy.{WaitingCopy}
use Rattle.tp_schedule.specs.Plans.{is_same_copy}
use Rattle.tp_event_rules.specs.AskPhase.{ask_waiting}
use Rattle.tp_event_rules.specs.Loops.{next_ask, planned}
use Rattle.tp_event_rules.specs.Lines.{is_lost}
use Rattle.tp_event_rules.specs.Moments.{release_until}
use Rattle.tp_event_rules.specs.States.{SessionState}
use Rattle.tp_event_rules.proofs.AnsweredPlans.{IsUnmoved, plan-cases, unmoved-sheet}
use Rattle.tp_event_rules.proofs.ListFacts.{find-Some}
use Rattle.tp_event_rules.proofs.PlannableTurns.{IsAskOf, asked}
use Rattle.tp_session.specs.Kept.{IsCounted, KeepsPlan, KeepsWaiting}
use Rattle.tp_session.proofs.FateKeeps.{StaysSound}
use Rattle.tp_session.proofs.OutageKeeps.{changed-from}
use Rattle.tp_session.proofs.PlanKeeps.{StaysPlan, stays-moved, stays-released, stays-timed}

timed-in : (machine : Machine) (plans : List Plan) (q : Plan) → IsLegal machine plans → Contains plans q → IsTimedPlan machine q
timed-in machine plans q legal in' = All-contains (IsTimedPlan machine) plans q legal.timed in'

-- fixed points stay
stays-fixed : (machine : Machine) (plans plans' : List Plan) → IsLegal machine plans' → KeepsFixed plans plans' → (p q : Plan) → Contains plans p → Contains plans' q → q.sheet ≡ p.sheet
    → (i : ℕ) → is_fixed p i ≡ true → i ≤ length p.acts → point q i ≡ point p i
stays-fixed machine plans plans' legal fixed p q in' in'' same i is within =
    fixed p q in' (subst (λ c. plan_of c plans' ≡ Some q) same (plan_of-itself plans' q legal.in_order in'')) i is within

not-fixed : (k : Kind) (released i : ℕ) → k ≡ Whole → released ≡ 0 → (is_front k || (nat_lt 0 released && nat_le i released)) ≡ false
not-fixed Whole released i e none = grind (arith, nat_tests)
not-fixed Front released i e none = absurd (cc)

front-fixed : (b : Bool) (released i : ℕ) → b ≡ true → (b || (nat_lt 0 released && nat_le i released)) ≡ true
front-fixed true released i e = refl
front-fixed false released i e = absurd (cc)

fixed-kept : (k : Kind) (released i : ℕ) → k ≡ Whole → (is_front k || (nat_lt 0 released && nat_le i released)) ≡ true → i ≤ released
fixed-kept Whole released i e f = grind (arith, nat_tests)
fixed-kept Front released i e f = absurd (cc)

no-front : (k : Kind) (n m : ℕ) → k ≡ Whole → is_front k ≡ true → n ≡ m
no-front Whole n m e f = absurd (cc)
no-front Front n m e f = absurd (cc)

module _ (machine : Machine) (s : SessionState) (k : StaysSound machine s) where
  -- The plans of an answer, where the asked copy's stays.
  answered : (ask : Ask) (plans' : List Plan) (a : IsAlternative machine s.plans ask plans') → ask.now ≡ s.now → StaysPlan machine s.now a.plan → (q : Plan) → Contains plans' q → StaysPlan machine s.now q
  answered ask plans' a now mine q in' = elim (plan-cases machine s.plans ask plans' a q in') [
    | inl is ↦ subst (StaysPlan machine s.now) (sym is) mine
    | inr other ↦
        stays-moved machine s.now other.0 (k.plans other.0 other.1) q other.2 (timed-in machine plans' q a.legal in')
        (λ i is within. stays-fixed machine s.plans plans' a.legal a.fixed other.0 q other.1 in' (unmoved-sheet q other.0 other.2) i is within)
        (λ i within free. subst (λ n. point q i ≤ n + machine.window) now (a.horizon q in' i within free))
  ]

  planned-there : (ask : Ask) (plans' : List Plan) (a : IsAlternative machine s.plans ask plans') → Contains plans' a.plan
  planned-there ask plans' a = (find-Some (λ p. is_same_copy p.sheet ask.sheet) plans' a.plan a.planned).0

  -- a copy that waits is planned
  module _ (w : WaitingCopy) (keeps : KeepsWaiting machine w) (plans' : List Plan) (a : IsAlternative machine s.plans (ask_waiting machine s w) plans') where
    new-plan : StaysPlan machine s.now a.plan
    new-plan =
        let there = planned-there (ask_waiting machine s w) plans' a in
        let whole : a.plan.kind ≡ Whole = a.answers.whole in
        let none : a.plan.released ≡ 0 = a.answers.released in
        stays-timed machine s.now a.plan (timed-in machine plans' a.plan a.legal there) (record {
          counted = subst IsCounted (sym a.answers.sheet) keeps.counted;
          within = λ i low. a.horizon a.plan there i low (not-fixed a.plan.kind a.plan.released i whole none);
          due = λ i low. absurd (omega arith);
          front = λ front. no-front a.plan.kind a.plan.released (length a.plan.acts) whole front;
        })

    pub stays-waiting : StaysSound machine (record s { plans = plans'; waiting = without_waiting w.sheet s.waiting })
    stays-waiting = record {
      outs = k.outs;
      plans = λ q in'. answered (ask_waiting machine s w) plans' a refl new-plan q in';
      waiting = λ v in'. k.waiting v (Contains-filter_from (λ v. not (is_same_copy v.sheet w.sheet)) s.waiting v in').0;
      stock = k.stock;
    }

  -- a copy in flight is planned on, and what starts early enough is released
  module _ (ask : Ask) (e : next_ask machine s ≡ Some ask) (plans' : List Plan) (a : IsAlternative machine s.plans ask plans') where
    of : IsAskOf machine s ask
    of = asked machine s ask e

    now-is : ask.now ≡ s.now
    now-is = ap (λ (x : Ask). x.now) (sym of.is)

    flight-plan : StaysPlan machine s.now a.plan
    flight-plan =
        let there = planned-there ask plans' a in
        let mine = k.plans of.p of.there in
        let front : is_front of.p.kind ≡ true = (and_parts (is_front of.p.kind) (not (is_lost s of.p)) of.loose).0 in
        let all : of.p.released ≡ length of.p.acts = mine.kept.front front in
        let whole : a.plan.kind ≡ Whole = a.answers.whole in
        let sheet : a.plan.sheet ≡ of.p.sheet = a.answers.sheet ∙ ap (λ (x : Ask). x.sheet) (sym of.is) in
        let count : a.plan.released ≡ length of.p.acts = a.answers.released ∙ ap kept_of (sym of.is) in
        let same : (i : ℕ) → i ≤ length of.p.acts → point a.plan i ≡ point of.p i = λ i within.
        stays-fixed machine s.plans plans' a.legal a.fixed of.p a.plan of.there there sheet i (front-fixed (is_front of.p.kind) of.p.released i front) within in
        stays-timed machine s.now a.plan (timed-in machine plans' a.plan a.legal there) (record {
          counted = subst IsCounted (sym sheet) mine.kept.counted;
          within = λ i low. go same mine.kept whole count there i low (is_fixed a.plan i) refl;
          due = λ i low. (let is = same i (omega arith) in let d : point of.p i ≤ s.now + machine.lead = mine.kept.due i (omega arith) in omega arith);
          front = λ f. no-front a.plan.kind a.plan.released (length a.plan.acts) whole f;
        })
      where
        go : ((i : ℕ) → i ≤ length of.p.acts → point a.plan i ≡ point of.p i) → KeepsPlan machine s.now of.p → a.plan.kind ≡ Whole → a.plan.released ≡ length of.p.acts → Contains plans' a.plan
            → (i : ℕ) → i ≤ length a.plan.acts → (b : Bool) → is_fixed a.plan i ≡ b → point a.plan i ≤ s.now + machine.window
        go same mine whole count there i low false f = subst (λ n. point a.plan i ≤ n + machine.window) now-is (a.horizon a.plan there i low f)
        go same mine whole count there i low true f =
            let kept : i ≤ a.plan.released = fixed-kept a.plan.kind a.plan.released i whole f in
            let is = same i (omega arith) in
            let w : point of.p i ≤ s.now + machine.window = mine.within i (omega arith) in
            omega arith

    pub stays-flight : StaysSound machine (planned machine ask plans' s).state
    stays-flight = record {
      outs = k.outs;
      plans = λ r in'. changed-from machine ask.sheet (release_until (s.now + machine.lead)) plans' r in' (StaysPlan machine s.now) (answered ask plans' a now-is flight-plan)
          (λ p i. stays-released machine s.now s.now p (omega arith) (answered ask plans' a now-is flight-plan p i));
      waiting = k.waiting;
      stock = k.stock;
    }

  -- the times are settled
  pub stays-settled : (plans' : List Plan) → IsRetimed machine s.now none_exempt s.plans plans' → StaysSound machine (record s { plans = plans' })
  stays-settled plans' r = record {
    outs = k.outs;
    plans = λ q in'.
        (let from = Contains-map_from unmoved s.plans (unmoved q) (subst (λ l. Contains l (unmoved q)) r.same (Contains-map unmoved plans' q in')) in
        let u : IsUnmoved q from.0 = record { is = from.2 } in
        stays-moved machine s.now from.0 (k.plans from.0 from.1) q u (timed-in machine plans' q r.legal in')
        (λ i is within. stays-fixed machine s.plans plans' r.legal r.fixed from.0 q from.1 in' (unmoved-sheet q from.0 u) i is within)
        (λ i within free. r.horizon q in' i within free));
    waiting = k.waiting;
    stock = k.stock;
  }
