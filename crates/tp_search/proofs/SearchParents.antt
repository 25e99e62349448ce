-- A child tells its parent, has choices, and is looked at by the time that all actions were.
use Rattle.std.proofs.Common.{◌≡◌, ◌≢◌, inl, inr, true, false, if◌then◌else◌, List, [], ◌∷◌, length, drop, refl, sym, ap, subst, ◌∙◌, arith}
use Rattle.tp_machine.specs.declared.machine.Machine.{Machine}
use Rattle.tp_schedule.specs.Choices.{CanStop, Choice, ChoiceList, IsChild, IsOpen, going}
use Rattle.tp_schedule.specs.Choices.IsChild.{one_more, stopped}
use Rattle.tp_schedule.specs.declared.parts.Ask.{Ask}
use Rattle.tp_schedule.specs.declared.parts.Origin.{Origin}
use Rattle.tp_schedule.specs.declared.parts.Origin.TheVariants.{Feeder as FromFeeder, Front as FromFront}
use Rattle.tp_schedule.specs.declared.parts.Plan.{Plan}
use Rattle.tp_search.specs.OpenedLists.{IsLooked}
use Rattle.tp_search.specs.OpenedLists.Progress.{up_to}
use Rattle.tp_search.proofs.ChildFacts.{child-form}
use Rattle.tp_search.proofs.FollowSteps.{act_within}

-- the only list that can have this child
abbrev parent_by : ChoiceList → ChoiceList
parent_by l = going l.goal (if l.stopped then l.choices else drop 1 l.choices)

parent-by : {machine : Machine} {ask : Ask} {p l : ChoiceList} → IsChild machine ask p l → p ≡ parent_by l
parent-by (one_more c) = refl
parent-by (stopped can) = refl

pub one-parent : (machine : Machine) (ask : Ask) (p q l : ChoiceList) → IsChild machine ask p l → IsChild machine ask q l → p ≡ q
one-parent machine ask p q l first second = parent-by first ∙ sym (parent-by second)

can-some : (machine : Machine) (ask : Ask) (l : ChoiceList) (o : Origin) → CanStop machine ask l o → l.choices ≢ []
can-some machine ask l FromFeeder can = absurd can
can-some machine ask l (FromFront state end count) can = can.0

pub child-some : {machine : Machine} {ask : Ask} {p l : ChoiceList} → IsChild machine ask p l → l.choices ≢ []
child-some (one_more c) = λ is. cc
child-some {machine} {ask} (stopped {goal} {choices} can) = can-some machine ask (going goal choices) ask.origin can

longer : (c : Choice) (choices : List Choice) → c ∷ choices ≡ choices → ⊥
longer c choices is = omega (arith, ap length is)

pub child-other : {machine : Machine} {ask : Ask} {p l : ChoiceList} → IsChild machine ask p l → l ≢ p
child-other (one_more {goal} {choices} c) = λ is. longer c choices (ap (λ (x : ChoiceList). x.choices) is)
child-other (stopped can) = λ is. (let e : true ≡ false = ap (λ (x : ChoiceList). x.stopped) is in cc)

-- an open child has an action of the machine more, or is stopped
pub child-looked : (machine : Machine) (plans : List Plan) (ask : Ask) (p l : ChoiceList) → IsChild machine ask p l → IsOpen machine plans ask l → IsLooked (up_to (length machine.actions) []) l
child-looked machine plans ask p l child opens = elim (child-form child) [
  | inl (c, is) ↦
      let within = act_within machine plans ask p.goal c p.choices (subst (IsOpen machine plans ask) is opens) in
      subst (IsLooked (up_to (length machine.actions) [])) (sym is) (inr (inl within))
  | inr is ↦ inl (ap (λ (x : ChoiceList). x.stopped) is)
]
