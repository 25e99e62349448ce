-- The copies whose plans are past: they may be forgotten, and an ask may be put beside them.
use Rattle.std.proofs.Common.{◌≡◌, ℕ, Bool, true, false, not, List, length, refl, sym, ◌∙◌, arith, Contains, subst, Some, None}
use Rattle.std.proofs.lemmas.Bool.{not-true}
use Rattle.std.proofs.lemmas.List.Folds.{Any-from_list_any, list_any-from_Any}
use Rattle.tp_machine.specs.declared.machine.Machine.{Machine}
use Rattle.tp_schedule.specs.Answers.{IsAskedFrom, KeepsFloors}
use Rattle.tp_schedule.specs.Legality.{IsLegal}
use Rattle.tp_schedule.specs.LivePlans.{is_live}
use Rattle.tp_schedule.specs.PlannerAnswers.{none_exempt}
use Rattle.tp_schedule.specs.Plans.{is_same_copy, plan_of}
use Rattle.tp_schedule.specs.declared.parts.Ask.{Ask}
use Rattle.tp_schedule.specs.declared.parts.Origin.{Origin}
use Rattle.tp_schedule.specs.declared.parts.Origin.TheVariants.{Feeder as FromFeeder, Front as FromFront}
use Rattle.tp_schedule.specs.declared.parts.Plan.{Plan}
use Rattle.tp_schedule.specs.declared.parts.SheetId.{SheetId}
use Rattle.tp_schedule.proofs.CopyFacts.{InOrder, plan_of-itself, same_copy-is, same_copy-refl}
use Rattle.tp_schedule.proofs.Membership.{Contains-filter, Contains-filter_from}
use Rattle.tp_choices.specs.LiveParts.{EndsAhead, MayAskBeside, MayForget, less, only}
use Rattle.tp_choices.proofs.PastFacts.{past_points}
use Rattle.tp_event_rules.specs.StateInvariants.{is_planned_among}
use Rattle.tp_event_rules.proofs.ListFacts.{Any-contains, contains-Any}
use Rattle.tp_event_turn.specs.LiveAnswers.{CanAskLive, live_at, past_at}
use Rattle.tp_event_turn.proofs.LiveLists.{filter-by}

abbrev pub gone_at : Machine → ℕ → List Plan → SheetId → Bool
gone_at machine now plans copy = is_planned_among (past_at machine now plans) copy

double : (b c : Bool) → b ≡ not c → not b ≡ c
double true true e = absurd (cc)
double true false e = refl
double false true e = refl
double false false e = absurd (cc)

-- a past plan of the copy
past-plan : (machine : Machine) (now : ℕ) (plans : List Plan) (copy : SheetId) → gone_at machine now plans copy ≡ true → InOrder plans
    → (p : Plan) × Contains plans p × (is_live machine now p ≡ false) × (plan_of copy plans ≡ Some p)
past-plan machine now plans copy gone in_order =
    let any = Any-contains (λ q. is_same_copy q.sheet copy ≡ true) (past_at machine now plans) (Any-from_list_any (λ q. is_same_copy q.sheet copy) (past_at machine now plans) gone) in
    let from = Contains-filter_from (λ q. not (is_live machine now q)) plans any.0 any.1 in
    let sheet = same_copy-is any.0.sheet copy any.2 in
    (any.0, from.0, not-true (is_live machine now any.0) from.1, subst (λ c. plan_of c plans ≡ Some any.0) sheet (plan_of-itself plans any.0 in_order from.0))

-- the copy of a plan is past where the plan is not live
pub gone-is : (machine : Machine) (now : ℕ) (plans : List Plan) → InOrder plans → (p : Plan) → Contains plans p → gone_at machine now plans p.sheet ≡ not (is_live machine now p)
gone-is machine now plans in_order p in' = go (is_live machine now p) refl (gone_at machine now plans p.sheet) refl where
  go : (b : Bool) → is_live machine now p ≡ b → (c : Bool) → gone_at machine now plans p.sheet ≡ c → c ≡ not b
  go true e true f = absurd (
      let past = past-plan machine now plans p.sheet f in_order in
      let itself = plan_of-itself plans p in_order in' in
      let other = past.3 in
      let is : past.0 ≡ p = cc in
      let not_live : is_live machine now p ≡ false = subst (λ q. is_live machine now q ≡ false) is past.2 in cc)
  go true e false f = refl
  go false e true f = refl
  go false e false f = absurd (
      let there = Contains-filter (λ q. not (is_live machine now q)) plans p in' (rw e refl) in
      let any : gone_at machine now plans p.sheet ≡ true = list_any-from_Any (λ q. is_same_copy q.sheet p.sheet) (past_at machine now plans)
      (contains-Any (λ q. is_same_copy q.sheet p.sheet ≡ true) (past_at machine now plans) p there (same_copy-refl p.sheet)) in cc)

-- so a schedule falls into what is live and what is past
pub both-parts : (machine : Machine) (now : ℕ) (gone : SheetId → Bool) (plans : List Plan) → ((p : Plan) → Contains plans p → gone p.sheet ≡ not (is_live machine now p))
    → (less gone plans ≡ live_at machine now plans) × (only gone plans ≡ past_at machine now plans)
both-parts machine now gone plans each = (
  filter-by (λ p. not (gone p.sheet)) (is_live machine now) plans (λ p in'. double (gone p.sheet) (is_live machine now p) (each p in')),
  filter-by (λ p. gone p.sheet) (λ p. not (is_live machine now p)) plans each,
)

module _ (machine : Machine) (now : ℕ) (plans : List Plan) (legal : IsLegal machine plans) where
  past-of : (p : Plan) → Contains plans p → gone_at machine now plans p.sheet ≡ true → is_live machine now p ≡ false
  past-of p in' gone = not-true (is_live machine now p) (sym (gone-is machine now plans legal.in_order p in') ∙ gone)

  pub may-forget : KeepsFloors machine now none_exempt plans → MayForget machine now plans (gone_at machine now plans)
  may-forget floors = record {
    legal = legal;
    past = past-of;
    ahead = λ p in' i le within. let floor = floors p in' refl i le within in omega arith;
  }

module _ (machine : Machine) (plans : List Plan) (ask : Ask) (can : CanAskLive machine plans ask) where
  -- the asked copy has no past plan
  asked-stays : gone_at machine ask.now plans ask.sheet ≡ false
  asked-stays = pick (gone_at machine ask.now plans ask.sheet) refl where
    go : (o : Origin) → IsAskedFrom machine plans ask o → EndsAhead ask.now o → (p : Plan) → is_live machine ask.now p ≡ false → plan_of ask.sheet plans ≡ Some p → ⊥
    go FromFeeder none ahead p past is = let no : plan_of ask.sheet plans ≡ None = none in cc
    go (FromFront state end count) (q, is-q, front) ahead p past is =
        let same : p ≡ q = cc in
        let past-q : is_live machine ask.now q ≡ false = subst (λ r. is_live machine ask.now r ≡ false) same past in
        let low = past_points machine ask.now q past-q (length q.acts) in
        let ends = front.ends in
        let high = ahead in
        omega arith

    pick : (b : Bool) → gone_at machine ask.now plans ask.sheet ≡ b → b ≡ false
    pick true e = absurd (let past = past-plan machine ask.now plans ask.sheet e can.legal.in_order in go ask.origin can.asked can.ends_ahead past.0 past.2 past.3)
    pick false e = refl

  pub may-ask : MayAskBeside machine plans ask (gone_at machine ask.now plans)
  may-ask = record {
    asked = can.asked;
    stays = asked-stays;
    ends_ahead = can.ends_ahead;
    earlier = λ p in' gone tray to delivered. can.earlier p in' (past-of machine ask.now plans can.legal p in' gone) tray to delivered;
  }
