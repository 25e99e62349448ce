-- Children of a list, and the one that has given places.
use Rattle.std.proofs.Common.{◌≡◌, ◌⊎◌, inl, inr, ℕ, List, [], ◌∷◌, ◌++◌, length, take, Some, None, refl, ap, subst, ◌∙◌, arith}
use Rattle.std.proofs.lemmas.List.{append-nil, length-append, nil_from_length}
use Rattle.tp_machine.specs.ModuleUse.{action_at}
use Rattle.tp_machine.specs.declared.parts.ActId.{ActId}
use Rattle.tp_machine.specs.declared.parts.HoldRule.{HoldRule}
use Rattle.tp_machine.specs.declared.parts.State.{State}
use Rattle.tp_machine.specs.declared.machine.Machine.{Machine}
use Rattle.tp_pool.specs.declared.choice.Choice.{Choice as Stored}
use Rattle.tp_schedule.specs.Choices.{AreWithin, Choice, ChoiceList, IsChild, IsOpen, going, stopping}
use Rattle.tp_schedule.specs.Choices.IsChild.{one_more, stopped}
use Rattle.tp_schedule.specs.Holders.{holds_of_act}
use Rattle.tp_schedule.specs.Spots.{Slot}
use Rattle.tp_schedule.specs.declared.parts.Ask.{Ask}
use Rattle.tp_schedule.specs.declared.parts.Plan.{Plan}
use Rattle.tp_search.specs.OpenedLists.{IsLooked, IsUnder}
use Rattle.tp_search.specs.OpenedLists.Progress.{through, up_to}
use Rattle.tp_search.specs.Stored.{child_by, is_stop, with_stored}

-- a child has one choice more, or is stopped
pub child-form : {machine : Machine} {ask : Ask} {p l : ChoiceList} → IsChild machine ask p l → ((c : Choice) × (l ≡ going p.goal (c ∷ p.choices))) ⊎ (l ≡ stopping p.goal p.choices)
child-form (one_more c) = inl (c, refl)
child-form (stopped can) = inr refl

within-as_many : (orders : ℕ → List Slot) (rules : List HoldRule) (places : List ℕ) → AreWithin orders rules places → length places ≡ length rules
within-as_many orders [] [] within = refl
within-as_many orders [] (place ∷ places) within = absurd within
within-as_many orders (rule ∷ rules) [] within = absurd within
within-as_many orders (rule ∷ rules) (place ∷ places) within = omega (arith, within-as_many orders rules places within.1)

-- the newest choice of an open list has as many places as holds
pub open-as_many : (machine : Machine) (plans : List Plan) (ask : Ask) (goal : State) (c : Choice) (choices : List Choice) → IsOpen machine plans ask (going goal (c ∷ choices))
    → length c.places ≡ length (holds_of_act (action_at machine c.act.0))
open-as_many machine plans ask goal c choices opens = within-as_many _ (holds_of_act (action_at machine c.act.0)) c.places opens.1.is_list.places.0

-- first places that are as many as all are all
all-of : (places rest all : List ℕ) (n : ℕ) → length places ≡ n → length all ≡ n → all ≡ places ++ rest → all ≡ places
all-of places rest all n some whole is =
    let none : rest ≡ [] = nil_from_length rest (omega (arith, ap length is, length-append places rest)) in
    is ∙ ap (λ r. places ++ r) none ∙ append-nil places

-- a child that was looked at through places, as many as there are holds, was so before, or has these places
pub child-through : (machine : Machine) (plans : List Plan) (ask : Ask) (p l : ChoiceList) (act : ActId) (places : List ℕ) → length places ≡ length (holds_of_act (action_at machine act.0)) → IsChild machine ask p l
    → IsLooked (through act.0 places) l → IsOpen machine plans ask l → IsLooked (up_to act.0 places) l ⊎ (l ≡ going p.goal (record { act = act; places = places } ∷ p.choices))
child-through machine plans ask p l act places many child (inl is_stopped) opens = inl (inl is_stopped)
child-through machine plans ask p l act places many child (inr (inl ahead)) opens = inl (inr ahead)
child-through machine plans ask p l act places many child (inr (inr under)) opens = go (child-form child) where
  one : (c : Choice) → IsUnder act.0 places (c ∷ p.choices) → IsOpen machine plans ask (going p.goal (c ∷ p.choices)) → c ≡ record { act = act; places = places }
  one c here opens-here =
      let same : c.act ≡ act = ap {B = ActId} (λ n. record { 0 = n }) here.0 in
      let holds = open-as_many machine plans ask p.goal c p.choices opens-here in
      let as-many : length c.places ≡ length (holds_of_act (action_at machine act.0)) = holds ∙ ap (λ n. length (holds_of_act (action_at machine n))) here.0 in
      let all : c.places ≡ places = all-of places here.1.0 c.places (length (holds_of_act (action_at machine act.0))) many as-many here.1.1 in
      λ i. record { act = same i; places = all i }

  go : ((c : Choice) × (l ≡ going p.goal (c ∷ p.choices))) ⊎ (l ≡ stopping p.goal p.choices) → IsLooked (up_to act.0 places) l ⊎ (l ≡ going p.goal (record { act = act; places = places } ∷ p.choices))
  go (inl (c, is)) =
      let here : IsUnder act.0 places (c ∷ p.choices) = subst (λ (x : ChoiceList). IsUnder act.0 places x.choices) is under in
      let same = one c here (subst (IsOpen machine plans ask) is opens) in
      inr (is ∙ ap (λ d. going p.goal (d ∷ p.choices)) same)
  go (inr is) = inl (inl (ap (λ (x : ChoiceList). x.stopped) is))

-- the child of a stored choice with an action, and of the stored stop
pub child_by-act : (machine : Machine) (goal : State) (choices : List Choice) (c : Stored) (act : ActId) (places : List ℕ) → c.act ≡ Some act → take (length (holds_of_act (action_at machine act.0))) c.places ≡ places
    → child_by machine goal choices c ≡ going goal (record { act = act; places = places } ∷ choices)
child_by-act machine goal choices c act places is first =
    ap {B = ChoiceList} (λ a. record { goal = goal; choices = with_stored machine a c.places choices; stopped = is_stop a }) is ∙ ap {B = ChoiceList} (λ ps. going goal (record { act = act; places = ps } ∷ choices)) first

pub child_by-stop : (machine : Machine) (goal : State) (choices : List Choice) (c : Stored) → c.act ≡ None → child_by machine goal choices c ≡ stopping goal choices
child_by-stop machine goal choices c is =
    ap {B = ChoiceList} (λ a. record { goal = goal; choices = with_stored machine a c.places choices; stopped = is_stop a }) is
