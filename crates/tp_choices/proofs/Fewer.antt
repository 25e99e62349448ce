-- An alternative, less the plans of other copies, is one on the schedule less those.
use Rattle.std.proofs.Common.{◌≡◌, Bool, true, not, List, ◌++◌, map, filter, refl, sym, ◌∙◌, ap}
use Rattle.tp_machine.specs.declared.machine.Machine.{Machine}
use Rattle.tp_schedule.specs.Answers.{IsAlternative, KeepsFixed, acts_in, is_new, unmoved}
use Rattle.tp_schedule.specs.Plans.{without}
use Rattle.tp_schedule.specs.Spots.{slot_order}
use Rattle.tp_schedule.specs.declared.parts.Ask.{Ask}
use Rattle.tp_schedule.specs.declared.parts.Plan.{Plan}
use Rattle.tp_schedule.specs.declared.parts.SheetId.{SheetId}
use Rattle.tp_schedule.proofs.Membership.{Contains-filter_from}
use Rattle.tp_choices.specs.LiveParts.{LessAnswers}
use Rattle.tp_choices.proofs.Parts.{filter-swap}
use Rattle.tp_choices.proofs.SameTicks.{order-staying}
use Rattle.tp_choices.proofs.PlansLeft.{legal-staying, plan_of-staying, staying, stays, unmoved-staying, without-staying}

-- the plans that stay, but for their points and for one copy
pub unmoved-without : (f : SheetId → Bool) (copy : SheetId) (plans new : List Plan) → map unmoved (without copy new) ≡ map unmoved (without copy plans)
    → map unmoved (without copy (staying f new)) ≡ map unmoved (without copy (staying f plans))
unmoved-without f copy plans new e =
    ap (map unmoved) (without-staying f copy new) ∙ unmoved-staying f (without copy new) ∙ ap (staying f) e
    ∙ sym (unmoved-staying f (without copy plans)) ∙ ap (map unmoved) (sym (without-staying f copy plans))

-- fixed points of the plans that stay
pub fixed-staying : (f : SheetId → Bool) (plans new : List Plan) → KeepsFixed plans new → KeepsFixed (staying f plans) (staying f new)
fixed-staying f plans new fixed p p' in' planned i is within =
    let from = Contains-filter_from (λ q. f q.sheet) plans p in' in
    fixed p p' from.0 (sym (plan_of-staying f p.sheet new from.1) ∙ planned) i is within

-- which copies stay, told by the copies alone
pub stay-answers : (machine : Machine) (plans new : List Plan) (ask : Ask) (f : SheetId → Bool) → f ask.sheet ≡ true → (a : IsAlternative machine plans ask new)
    → (b : IsAlternative machine (staying f plans) ask (staying f new)) × (b.plan ≡ a.plan)
stay-answers machine plans new ask f asked-stays a = (
  record {
    legal_before = legal-staying f machine plans a.legal_before;
    legal = legal-staying f machine new a.legal;
    others = unmoved-without f ask.sheet plans new a.others;
    plan = a.plan;
    planned = plan_of-staying f ask.sheet new asked-stays ∙ a.planned;
    answers = record {
      sheet = a.answers.sheet;
      name = a.answers.name;
      want = a.answers.want;
      goal = a.answers.goal;
      whole = a.answers.whole;
      route = a.answers.route;
      acts = a.answers.acts ∙ ap (λ o. acts_in o ++ a.answers.route) (sym (plan_of-staying f ask.sheet plans asked-stays));
      is_route = a.answers.is_route;
      allowed = a.answers.allowed;
      released = a.answers.released;
    };
    fixed = fixed-staying f plans new a.fixed;
    orders = λ resource.
        ap (filter (λ s. not (is_new ask s))) (order-staying true f machine new resource a.legal)
        ∙ filter-swap (λ s. not (is_new ask s)) (stays true f) (slot_order machine new resource)
        ∙ ap (filter (stays true f)) (a.orders resource)
        ∙ sym (order-staying true f machine plans resource a.legal_before);
    floors = λ p in'. a.floors p (Contains-filter_from (λ q. f q.sheet) new p in').0;
    horizon = λ p in'. a.horizon p (Contains-filter_from (λ q. f q.sheet) new p in').0;
  },
  refl,
)

pub less_answers : LessAnswers
less_answers machine plans new ask gone asked-stays a = stay-answers machine plans new ask (λ c. not (gone c)) (ap not asked-stays) a
