-- Each list extends the one without choices; so a frontier meets each complete open list, also after a list was opened,
-- and no answer ends before the least end of the frontier.
use Rattle.std.proofs.Common.{◌≡◌, inl, inr, ℕ, Bool, true, false, List, [], ◌∷◌, refl, sym, arith, Contains, subst}
use Rattle.tp_machine.specs.declared.machine.Machine.{Machine}
use Rattle.tp_machine.specs.declared.parts.State.{State}
use Rattle.tp_choices.proofs.ShorterLists.{parent_opens}
use Rattle.tp_schedule.specs.Choices.{Choice, ChoiceList, IsOpen, OpensTo, IsChoiceList, IsChild, IsComplete, CanStop, going}
use Rattle.tp_schedule.specs.Plans.{end_of_plan}
use Rattle.tp_schedule.specs.declared.parts.Ask.{Ask}
use Rattle.tp_schedule.specs.declared.parts.Origin.{Origin}
use Rattle.tp_schedule.specs.declared.parts.Origin.TheVariants.{Feeder as FromFeeder, Front as FromFront}
use Rattle.tp_schedule.specs.declared.parts.Plan.{Plan}
use Rattle.tp_schedule.specs.Choices.IsChild.{one_more, stopped}
use Rattle.tp_choices.specs.Frontiers.Extends.{itself, further}
use Rattle.tp_choices.proofs.AnswerOpens.{answer_opens}
use Rattle.tp_choices.proofs.CompleteAnswers.{complete_answers}
use Rattle.tp_schedule.specs.Spots.Spot.{own}
use Rattle.tp_choices.specs.Frontiers.{TakenIsEarliest, Extends, FrontierGoesOn, FrontierEnds, FrontierBegins, FrontierBounds, IsMet}

-- a list opens to each end to which a list that extends it opens
pub ancestor_opens : {machine : Machine} {plans : List Plan} {ask : Ask} {end : ℕ} {f list : ChoiceList} → Extends machine ask f list → OpensTo machine plans ask list end → OpensTo machine plans ask f end
ancestor_opens itself o = o
ancestor_opens {machine} {plans} {ask} {end} (further {first = f} {next = g} child more) o = parent_opens machine plans ask f g end child (ancestor_opens more o)

last_step : {machine : Machine} {ask : Ask} {f g h : ChoiceList} → Extends machine ask f g → IsChild machine ask g h → Extends machine ask f h
last_step itself child = further child itself
last_step (further first more) child = further first (last_step more child)

from_start : (machine : Machine) (ask : Ask) (goal : State) (choices : List Choice) → Extends machine ask (going goal []) (going goal choices)
from_start machine ask goal [] = itself
from_start machine ask goal (c ∷ choices) = last_step (from_start machine ask goal choices) (one_more c)

can_stop_going : (machine : Machine) (ask : Ask) (list : ChoiceList) (o : Origin) → CanStop machine ask list o → CanStop machine ask (going list.goal list.choices) o
can_stop_going machine ask list FromFeeder can = can
can_stop_going machine ask list (FromFront state end count) can = can

-- each list extends the one without choices at its goal
pub from_goal : (machine : Machine) (plans : List Plan) (ask : Ask) (list : ChoiceList) → IsChoiceList machine plans ask list → Extends machine ask (going list.goal []) list
from_goal machine plans ask list is = go list.stopped refl where
  go : (b : Bool) → list.stopped ≡ b → Extends machine ask (going list.goal []) list
  go false e = subst (λ b. Extends machine ask (going list.goal []) (record { goal = list.goal; choices = list.choices; stopped = b })) (sym e) (from_start machine ask list.goal list.choices)
  go true e = subst (λ b. Extends machine ask (going list.goal []) (record { goal = list.goal; choices = list.choices; stopped = b })) (sym e)
      (last_step (from_start machine ask list.goal list.choices) (stopped (can_stop_going machine ask list ask.origin (is.can_stop e))))

pub frontier_begins : FrontierBegins
frontier_begins machine plans ask frontier starts list complete (end, o) =
    let from = from_goal machine plans ask list o.is_list in
    (going list.goal [], starts (going list.goal []) refl (end, ancestor_opens from o), from)

pub frontier_goes_on : FrontierGoesOn
frontier_goes_on machine plans ask list before after frontier opened unfinished end-list complete (end, o) =
    let met = frontier end-list complete (end, o) in
    elim (opened.stay met.0 met.1) [
      | inr stays ↦ (met.0, stays, met.2)
      | inl same ↦ through list (subst (λ f. Extends machine ask f end-list) same met.2) (λ e. unfinished (subst (IsComplete machine ask) (sym e) complete)) opened.come
    ] where
      through : (f : ChoiceList) → Extends machine ask f end-list → (f ≡ end-list → ⊥) → ((child : ChoiceList) → IsChild machine ask f child → IsOpen machine plans ask child → Contains after child) → IsMet machine plans ask after end-list
      through f itself other come = absurd (other refl)
      through f (further {next = g} child more) other come = (g, come g child (end, ancestor_opens more o), more)

pub frontier_bounds : FrontierBounds
frontier_bounds machine plans ask frontier bound legal asked is none plans' a =
    let found = answer_opens machine plans plans' ask legal asked a in
    let met = is found.0 found.1 (end_of_plan a.plan, found.2) in
    none met.0 met.1 (end_of_plan a.plan) (ancestor_opens met.2 found.2)

pub frontier_ends : FrontierEnds
frontier_ends machine plans ask legal asked is plans' a =
    let found = answer_opens machine plans plans' ask legal asked a in
    let met = is found.0 found.1 (end_of_plan a.plan, found.2) in
    let in' = met.1 in
    absurd (omega (arith, in'.1))

pub taken_is_earliest : TakenIsEarliest
taken_is_earliest machine plans ask frontier list room t legal asked is none is_list complete some times =
    let made = complete_answers machine plans ask list room t legal asked is_list complete some times in
    record { alternative = made.0; first = λ other b. rw made.1 (frontier_bounds machine plans ask frontier (t (own 0)) legal asked is none other b) }
