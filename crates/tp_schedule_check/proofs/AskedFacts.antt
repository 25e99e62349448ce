-- A plan that answers an ask, by what is looked at.
use Rattle.std.proofs.Common.{◌≡◌, ◌++◌, List, sym, subst, ◌∙◌}
use Rattle.std.proofs.lemmas.List.{append_cancel_left}
use Rattle.tp_machine.specs.declared.machine.Machine.{Machine}
use Rattle.tp_machine.specs.declared.parts.ActId.{ActId}
use Rattle.tp_schedule.specs.Answers.{AnswersAsk, kept_acts}
use Rattle.tp_schedule.specs.Routes.{AreAllowed, IsRoute}
use Rattle.tp_schedule.specs.declared.parts.Ask.{Ask}
use Rattle.tp_schedule.specs.declared.parts.Plan.{Plan}
use Rattle.tp_schedule_check.specs.Asked.{AnswersBy}

-- the rest of the plan is the route
pub answers-by : (machine : Machine) (plans : List Plan) (ask : Ask) (p : Plan) (route : List ActId) → p.acts ≡ kept_acts ask.sheet plans ++ route
    → (AnswersBy machine ask p route → AnswersAsk machine plans ask p) × (AnswersAsk machine plans ask p → AnswersBy machine ask p route)
answers-by machine plans ask p route acts = (
  λ by. record {
    sheet = by.of.sheet;
    name = by.of.name;
    want = by.of.want;
    goal = by.of.goal;
    whole = by.of.whole;
    route = route;
    acts = acts;
    is_route = by.leads;
    allowed = by.allowed;
    released = by.of.released;
  },
  λ a. (
      let same : a.route ≡ route = append_cancel_left (kept_acts ask.sheet plans) a.route route (sym a.acts ∙ acts) in
      record {
        of = record { sheet = a.sheet; name = a.name; want = a.want; goal = a.goal; whole = a.whole; released = a.released };
        leads = subst (IsRoute machine ask) same a.is_route;
        allowed = subst (AreAllowed machine ask.outs) same a.allowed;
      }),
)
